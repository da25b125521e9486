-- Lines, and what they come to.
use Rattle.std.proofs.Common.{◌≡◌, ℕ, suc, ◌+◌, Bool, true, false, cond, List, [], ◌∷◌, ◌++◌, length, Some, IfSome, refl, sym, ap, subst, ◌∙◌, append-nil, append_assoc, add-zero, arith}
use Rattle.std.specs.List.{AllByRecursion}
use Rattle.std.specs.Str.{bytes_eq}
use Rattle.std.proofs.lemmas.Slice.Eq.{bytes_eq-Decides}
use Rattle.kp_schedule.specs.Draft.{IsSetWell, with_saying}
use Rattle.kp_schedule.specs.Grammar.{MayBeSet, Says, name_of}
use Rattle.kp_schedule.specs.Lines.{Text}
use Rattle.kp_schedule.specs.Reading.{At, Drafted, MayFollow, Say, drafted, events_from, settings_in, value_of}
use Rattle.kp_schedule.specs.declared.given.Given.{Given}
use Rattle.kp_schedule.specs.declared.saying.Saying.{Saying}
use Rattle.kp_schedule.specs.declared.saying.Saying.TheVariants.{Nothing, Sets, Happens}
use Rattle.kp_schedule.specs.declared.setting.Setting.{Setting}
use Rattle.kp_schedule.proofs.SettingLemmas.{name_of-injective}

-- ---- one line more

settings-append : (xs ys : List Saying) → settings_in (xs ++ ys) ≡ settings_in xs ++ settings_in ys
settings-append [] ys = refl
settings-append (Nothing ∷ xs) ys = settings-append xs ys
settings-append (Sets name n ∷ xs) ys = ap (λ gs. (record { name = name; value = n }) ∷ gs) (settings-append xs ys)
settings-append (Happens e ∷ xs) ys = settings-append xs ys

later : (n k : ℕ) (ys : List Saying) → events_from (n + 1 + k) ys ≡ events_from (n + suc k) ys
later n k ys = ap (λ m. events_from m ys) (omega arith)

events-append : (n : ℕ) (xs ys : List Saying) → events_from n (xs ++ ys) ≡ events_from n xs ++ events_from (n + length xs) ys
events-append n [] ys = ap (λ m. events_from m ys) (sym (add-zero n))
events-append n (Nothing ∷ xs) ys =
    events-append (n + 1) xs ys ∙ ap (λ es. events_from (n + 1) xs ++ es) (later n (length xs) ys)
events-append n (Sets name value ∷ xs) ys =
    events-append (n + 1) xs ys ∙ ap (λ es. events_from (n + 1) xs ++ es) (later n (length xs) ys)
events-append n (Happens e ∷ xs) ys =
    ap (λ es. (record { line = n; event = e }) ∷ es) (events-append (n + 1) xs ys ∙ ap (λ es. events_from (n + 1) xs ++ es) (later n (length xs) ys))

same-draft : (gs hs : List Given) (es fs : List At) → gs ≡ hs → es ≡ fs → ◌≡◌ {A = Drafted} (record { settings = gs; events = es }) (record { settings = hs; events = fs })
same-draft gs hs es fs settings events = λ i. record { settings = settings i; events = events i }

-- a saying behind others comes to this
pub drafted-push : (xs : List Saying) (n : ℕ) → n ≡ length xs + 1 → (x : Saying) → drafted (xs ++ x ∷ []) ≡ with_saying n x (drafted xs)
drafted-push xs n count Nothing =
    same-draft (settings_in (xs ++ Nothing ∷ [])) (settings_in xs) (events_from 1 (xs ++ Nothing ∷ [])) (events_from 1 xs)
    (settings-append xs (Nothing ∷ []) ∙ append-nil (settings_in xs))
    (events-append 1 xs (Nothing ∷ []) ∙ append-nil (events_from 1 xs))
drafted-push xs n count (Sets name value) =
    same-draft (settings_in (xs ++ Sets name value ∷ [])) (settings_in xs ++ (record { name = name; value = value }) ∷ []) (events_from 1 (xs ++ Sets name value ∷ [])) (events_from 1 xs)
    (settings-append xs (Sets name value ∷ []))
    (events-append 1 xs (Sets name value ∷ []) ∙ append-nil (events_from 1 xs))
drafted-push xs n count (Happens e) =
    same-draft (settings_in (xs ++ Happens e ∷ [])) (settings_in xs) (events_from 1 (xs ++ Happens e ∷ [])) (events_from 1 xs ++ (record { line = n; event = e }) ∷ [])
    (settings-append xs (Happens e ∷ []) ∙ append-nil (settings_in xs))
    (events-append 1 xs (Happens e ∷ []) ∙ ap (λ m. events_from 1 xs ++ (record { line = m; event = e }) ∷ []) (omega arith))

pub say-length : (before : List Saying) (ls : List Text) (xs : List Saying) → Say before ls xs → length ls ≡ length xs
say-length before [] [] say = refl
say-length before [] (x ∷ xs) say = absurd say
say-length before (l ∷ ls) [] say = absurd say
say-length before (l ∷ ls) (x ∷ xs) say = ap suc (say-length (before ++ x ∷ []) ls xs say.2)

pub say-push : (before : List Saying) (ls : List Text) (xs : List Saying) → Say before ls xs → (l : Text) (x : Saying) → Says l x → MayFollow (before ++ xs) x → Say before (ls ++ l ∷ []) (xs ++ x ∷ [])
say-push before [] [] say l x says may = (says, subst (λ b. MayFollow b x) (append-nil before) may, tt)
say-push before [] (y ∷ ys) say l x says may = absurd say
say-push before (k ∷ ks) [] say l x says may = absurd say
say-push before (k ∷ ks) (y ∷ ys) say l x says may =
    (say.0, say.1, say-push (before ++ y ∷ []) ks ys say.2 l x says (subst (λ b. MayFollow b x) (sym (append_assoc before (y ∷ []) ys)) may))

-- ---- settings

abbrev AreWell : List Given → Type 0
AreWell gs = AllByRecursion (λ g. MayBeSet g.name g.value) gs

pub all-well : (before : List Saying) (ls : List Text) (xs : List Saying) → Say before ls xs → AreWell (settings_in xs)
all-well before [] [] say = tt
all-well before [] (x ∷ xs) say = absurd say
all-well before (l ∷ ls) [] say = absurd say
all-well before (l ∷ ls) (Nothing ∷ xs) say = all-well (before ++ Nothing ∷ []) ls xs say.2
all-well before (l ∷ ls) (Sets name n ∷ xs) say = (say.0.0, all-well (before ++ Sets name n ∷ []) ls xs say.2)
all-well before (l ∷ ls) (Happens e ∷ xs) say = all-well (before ++ Happens e ∷ []) ls xs say.2

well-at : (name : Setting) (g : Given) (gs : List Given) (test : Bool) → bytes_eq (name_of g.name) (name_of name) ≡ test → MayBeSet g.name g.value → IsSetWell name gs → IfSome (cond test (Some g.value) (value_of name gs)) (MayBeSet name)
well-at name g gs true is may others =
    let names = (bytes_eq-Decides (name_of g.name) (name_of name)).0 is in
    subst (λ s. MayBeSet s g.value) (name_of-injective g.name name names) may
well-at name g gs false is may others = others

pub set-well : (name : Setting) (gs : List Given) → AreWell gs → IsSetWell name gs
set-well name [] all = tt
set-well name (g ∷ gs) all = well-at name g gs (bytes_eq (name_of g.name) (name_of name)) refl all.0 (set-well name gs all.1)
