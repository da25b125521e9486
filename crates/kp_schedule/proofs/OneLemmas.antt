-- What is said can be said in one way alone.
use Rattle.std.proofs.Common.{◌≡◌, ◌≢◌, ℕ, ◌+◌, ◌*◌, List, [], ◌∷◌, ◌++◌, length, get_or, refl, sym, ap, subst, ◌∙◌, arith}
use Rattle.std.specs.Fmt.{decimal}
use Rattle.std.specs.List.{onto_first}
use Rattle.std.proofs.lemmas.Fmt.{decimal_injective}
use Rattle.kp_world.specs.declared.event.Event.{Event}
use Rattle.kp_world.specs.declared.event.Event.TheVariants.{Accept, Take, Now, Tick, TickNode, Send, SendNode, Deliver, Reply, Drop, DropNode, Leader, Other, Close, End, Flush}
use Rattle.kp_world.specs.declared.event.Treatment.TheVariants.{Judged, Refused, Late}
use Rattle.kp_schedule.specs.Grammar.{IsSilent, MayBeSaid, MayBeSet, Says, event_words, name_of, setting_words}
use Rattle.kp_schedule.specs.Lines.{Text}
use Rattle.kp_schedule.specs.Reading.{Say}
use Rattle.kp_schedule.specs.Words.{words}
use Rattle.kp_schedule.specs.declared.saying.Saying.{Saying}
use Rattle.kp_schedule.specs.declared.saying.Saying.TheVariants.{Nothing, Sets, Happens}
use Rattle.kp_schedule.specs.declared.setting.Setting.{Setting}
use Rattle.kp_schedule.proofs.CodeLemmas.{code-injective}
use Rattle.kp_schedule.proofs.EventLemmas.{no_event-set, small-value}
use Rattle.kp_schedule.proofs.SettingLemmas.{name_of-injective}

-- ---- events

-- told by how many words there are, and by the first bytes of the first one
tag : List Text → ℕ
tag ws = length ws * 65536 + get_or (get_or ws 0 []) 0 0 * 256 + get_or (get_or ws 0 []) 1 0

-- and by the first byte of the third
whim : List Text → ℕ
whim ws = get_or (get_or ws 2 []) 0 0

event_words-injective : (e f : Event) → MayBeSaid e → MayBeSaid f → event_words e ≡ event_words f → e ≡ f
unfolding tag whim
event_words-injective (Accept s p v) (Accept t q w) h k is =
    let sender = decimal_injective s t h.0 k.0 cc in
    let partition = decimal_injective p q h.1 k.1 cc in
    let value : v ≡ w = cc in
    cc
event_words-injective (Accept s p v) (Deliver t Judged) h k is = absurd (omega (arith, ap tag is))
event_words-injective (Accept s p v) (Deliver t (Refused d)) h k is = absurd (omega (arith, ap tag is))
event_words-injective (Accept s p v) (Deliver t (Late d)) h k is = absurd (omega (arith, ap tag is))
event_words-injective (Accept s p v) f h k is = absurd (omega (arith, ap tag is))
event_words-injective (Take s) (Take t) h k is = ap Take (decimal_injective s t h k cc)
event_words-injective (Take s) (Deliver t Judged) h k is = absurd (omega (arith, ap tag is))
event_words-injective (Take s) (Deliver t (Refused d)) h k is = absurd (omega (arith, ap tag is))
event_words-injective (Take s) (Deliver t (Late d)) h k is = absurd (omega (arith, ap tag is))
event_words-injective (Take s) f h k is = absurd (omega (arith, ap tag is))
event_words-injective (Now s) (Now t) h k is = ap Now (decimal_injective s t (omega (arith, h)) (omega (arith, k)) cc)
event_words-injective (Now s) (Deliver t Judged) h k is = absurd (omega (arith, ap tag is))
event_words-injective (Now s) (Deliver t (Refused d)) h k is = absurd (omega (arith, ap tag is))
event_words-injective (Now s) (Deliver t (Late d)) h k is = absurd (omega (arith, ap tag is))
event_words-injective (Now s) f h k is = absurd (omega (arith, ap tag is))
event_words-injective Tick Tick h k is = refl
event_words-injective Tick (Deliver t Judged) h k is = absurd (omega (arith, ap tag is))
event_words-injective Tick (Deliver t (Refused d)) h k is = absurd (omega (arith, ap tag is))
event_words-injective Tick (Deliver t (Late d)) h k is = absurd (omega (arith, ap tag is))
event_words-injective Tick f h k is = absurd (omega (arith, ap tag is))
event_words-injective (TickNode s) (TickNode t) h k is = ap TickNode (decimal_injective s t (omega (arith, h)) (omega (arith, k)) cc)
event_words-injective (TickNode s) (Deliver t Judged) h k is = absurd (omega (arith, ap tag is))
event_words-injective (TickNode s) (Deliver t (Refused d)) h k is = absurd (omega (arith, ap tag is))
event_words-injective (TickNode s) (Deliver t (Late d)) h k is = absurd (omega (arith, ap tag is))
event_words-injective (TickNode s) f h k is = absurd (omega (arith, ap tag is))
event_words-injective Send Send h k is = refl
event_words-injective Send (Deliver t Judged) h k is = absurd (omega (arith, ap tag is))
event_words-injective Send (Deliver t (Refused d)) h k is = absurd (omega (arith, ap tag is))
event_words-injective Send (Deliver t (Late d)) h k is = absurd (omega (arith, ap tag is))
event_words-injective Send f h k is = absurd (omega (arith, ap tag is))
event_words-injective (SendNode s) (SendNode t) h k is = ap SendNode (decimal_injective s t (omega (arith, h)) (omega (arith, k)) cc)
event_words-injective (SendNode s) (Deliver t Judged) h k is = absurd (omega (arith, ap tag is))
event_words-injective (SendNode s) (Deliver t (Refused d)) h k is = absurd (omega (arith, ap tag is))
event_words-injective (SendNode s) (Deliver t (Late d)) h k is = absurd (omega (arith, ap tag is))
event_words-injective (SendNode s) f h k is = absurd (omega (arith, ap tag is))
event_words-injective (Deliver s Judged) (Deliver t Judged) h k is = ap (λ n. Deliver n Judged) (decimal_injective s t h.0 k.0 cc)
event_words-injective (Deliver s Judged) (Deliver t (Refused d)) h k is = absurd (omega (arith, ap tag is))
event_words-injective (Deliver s Judged) (Deliver t (Late d)) h k is = absurd (omega (arith, ap tag is))
event_words-injective (Deliver s Judged) f h k is = absurd (omega (arith, ap tag is))
event_words-injective (Deliver s (Refused c)) (Deliver t (Refused d)) h k is =
    let packet = decimal_injective s t h.0 k.0 cc in
    let code = code-injective c d h.1 k.1 cc in
    cc
event_words-injective (Deliver s (Refused c)) (Deliver t Judged) h k is = absurd (omega (arith, ap tag is))
event_words-injective (Deliver s (Refused c)) (Deliver t (Late d)) h k is = absurd (omega (arith, ap whim is))
event_words-injective (Deliver s (Refused c)) f h k is = absurd (omega (arith, ap tag is))
event_words-injective (Deliver s (Late c)) (Deliver t (Late d)) h k is =
    let packet = decimal_injective s t h.0 k.0 cc in
    let code = code-injective c d h.1 k.1 cc in
    cc
event_words-injective (Deliver s (Late c)) (Deliver t Judged) h k is = absurd (omega (arith, ap tag is))
event_words-injective (Deliver s (Late c)) (Deliver t (Refused d)) h k is = absurd (omega (arith, ap whim is))
event_words-injective (Deliver s (Late c)) f h k is = absurd (omega (arith, ap tag is))
event_words-injective (Reply s) (Reply t) h k is = ap Reply (decimal_injective s t h k cc)
event_words-injective (Reply s) (Deliver t Judged) h k is = absurd (omega (arith, ap tag is))
event_words-injective (Reply s) (Deliver t (Refused d)) h k is = absurd (omega (arith, ap tag is))
event_words-injective (Reply s) (Deliver t (Late d)) h k is = absurd (omega (arith, ap tag is))
event_words-injective (Reply s) f h k is = absurd (omega (arith, ap tag is))
event_words-injective Drop Drop h k is = refl
event_words-injective Drop (Deliver t Judged) h k is = absurd (omega (arith, ap tag is))
event_words-injective Drop (Deliver t (Refused d)) h k is = absurd (omega (arith, ap tag is))
event_words-injective Drop (Deliver t (Late d)) h k is = absurd (omega (arith, ap tag is))
event_words-injective Drop f h k is = absurd (omega (arith, ap tag is))
event_words-injective (DropNode s) (DropNode t) h k is = ap DropNode (decimal_injective s t (omega (arith, h)) (omega (arith, k)) cc)
event_words-injective (DropNode s) (Deliver t Judged) h k is = absurd (omega (arith, ap tag is))
event_words-injective (DropNode s) (Deliver t (Refused d)) h k is = absurd (omega (arith, ap tag is))
event_words-injective (DropNode s) (Deliver t (Late d)) h k is = absurd (omega (arith, ap tag is))
event_words-injective (DropNode s) f h k is = absurd (omega (arith, ap tag is))
event_words-injective (Leader s p) (Leader t q) h k is =
    let partition = decimal_injective s t h.0 k.0 cc in
    let node = decimal_injective p q (omega (arith, h.1)) (omega (arith, k.1)) cc in
    cc
event_words-injective (Leader s p) (Deliver t Judged) h k is = absurd (omega (arith, ap tag is))
event_words-injective (Leader s p) (Deliver t (Refused d)) h k is = absurd (omega (arith, ap tag is))
event_words-injective (Leader s p) (Deliver t (Late d)) h k is = absurd (omega (arith, ap tag is))
event_words-injective (Leader s p) f h k is = absurd (omega (arith, ap tag is))
event_words-injective (Other s p) (Other t q) h k is =
    let partition = decimal_injective s t h.0 k.0 cc in
    let count = decimal_injective p q (omega (arith, h.1)) (omega (arith, k.1)) cc in
    cc
event_words-injective (Other s p) (Deliver t Judged) h k is = absurd (omega (arith, ap tag is))
event_words-injective (Other s p) (Deliver t (Refused d)) h k is = absurd (omega (arith, ap tag is))
event_words-injective (Other s p) (Deliver t (Late d)) h k is = absurd (omega (arith, ap tag is))
event_words-injective (Other s p) f h k is = absurd (omega (arith, ap tag is))
event_words-injective Close Close h k is = refl
event_words-injective Close (Deliver t Judged) h k is = absurd (omega (arith, ap tag is))
event_words-injective Close (Deliver t (Refused d)) h k is = absurd (omega (arith, ap tag is))
event_words-injective Close (Deliver t (Late d)) h k is = absurd (omega (arith, ap tag is))
event_words-injective Close f h k is = absurd (omega (arith, ap tag is))
event_words-injective End End h k is = refl
event_words-injective End (Deliver t Judged) h k is = absurd (omega (arith, ap tag is))
event_words-injective End (Deliver t (Refused d)) h k is = absurd (omega (arith, ap tag is))
event_words-injective End (Deliver t (Late d)) h k is = absurd (omega (arith, ap tag is))
event_words-injective End f h k is = absurd (omega (arith, ap tag is))
event_words-injective Flush Flush h k is = refl
event_words-injective Flush (Deliver t Judged) h k is = absurd (omega (arith, ap tag is))
event_words-injective Flush (Deliver t (Refused d)) h k is = absurd (omega (arith, ap tag is))
event_words-injective Flush (Deliver t (Late d)) h k is = absurd (omega (arith, ap tag is))
event_words-injective Flush f h k is = absurd (omega (arith, ap tag is))

-- ---- comments

-- the first byte of the first word
first : List Text → ℕ
first ws = get_or (get_or ws 0 []) 0 35

first-onto : (ws : List Text) → first (onto_first 35 ws) ≡ 35
unfolding first
first-onto [] = refl
first-onto (w ∷ ws) = refl

silent-first : (line : Text) → IsSilent line → first (words line) ≡ 35
unfolding first
silent-first [] silent = refl
silent-first (b ∷ bs) silent = subst (λ b. first (words (b ∷ bs)) ≡ 35) (sym silent) (first-onto (words bs))

event-first : (e : Event) → first (event_words e) ≢ 35
unfolding first
event-first (Deliver k Judged) is = absurd (omega (arith, is))
event-first (Deliver k (Refused c)) is = absurd (omega (arith, is))
event-first (Deliver k (Late c)) is = absurd (omega (arith, is))
event-first e is = absurd (omega (arith, is))

setting-first : (name : Setting) (n : ℕ) → first (setting_words name n) ≢ 35
unfolding first
setting-first name n is = absurd (omega (arith, is))

silent-no_setting : (line : Text) → IsSilent line → (name : Setting) (n : ℕ) → words line ≢ setting_words name n
silent-no_setting line silent name n is = setting-first name n (sym (ap first is) ∙ silent-first line silent)

silent-no_event : (line : Text) → IsSilent line → (e : Event) → words line ≢ event_words e
silent-no_event line silent e is = event-first e (sym (ap first is) ∙ silent-first line silent)

-- ---- lines

same-setting : (a b : Setting) (m n : ℕ) → MayBeSet a m → MayBeSet b n → setting_words a m ≡ setting_words b n → ◌≡◌ {A = Saying} (Sets a m) (Sets b n)
same-setting a b m n may may' is =
    let name = name_of-injective a b cc in
    let number = decimal_injective m n (small-value a m may) (small-value b n may') cc in
    cc

pub says-one : (line : Text) (x y : Saying) → Says line x → Says line y → x ≡ y
says-one line Nothing Nothing h k = refl
says-one line Nothing (Sets b n) h k = absurd (silent-no_setting line h b n k.1)
says-one line Nothing (Happens f) h k = absurd (silent-no_event line h f k.1)
says-one line (Sets a m) Nothing h k = absurd (silent-no_setting line k a m h.1)
says-one line (Sets a m) (Sets b n) h k = same-setting a b m n h.0 k.0 (sym h.1 ∙ k.1)
says-one line (Sets a m) (Happens f) h k = absurd (no_event-set (name_of a) (decimal m) f (sym h.1 ∙ k.1))
says-one line (Happens e) Nothing h k = absurd (silent-no_event line k e h.1)
says-one line (Happens e) (Sets b n) h k = absurd (no_event-set (name_of b) (decimal n) e (sym k.1 ∙ h.1))
says-one line (Happens e) (Happens f) h k = ap Happens (event_words-injective e f h.0 k.0 (sym h.1 ∙ k.1))

pub say-one : (before : List Saying) (ls : List Text) (xs ys : List Saying) → Say before ls xs → Say before ls ys → xs ≡ ys
say-one before [] [] [] h k = refl
say-one before [] [] (y ∷ ys) h k = absurd k
say-one before [] (x ∷ xs) ys h k = absurd h
say-one before (l ∷ ls) [] ys h k = absurd h
say-one before (l ∷ ls) (x ∷ xs) [] h k = absurd k
say-one before (l ∷ ls) (x ∷ xs) (y ∷ ys) h k =
    let one = says-one l x y h.0 k.0 in
    let others = say-one (before ++ x ∷ []) ls xs ys h.2 (subst (λ z. Say (before ++ z ∷ []) ls ys) (sym one) k.2) in
    cc
