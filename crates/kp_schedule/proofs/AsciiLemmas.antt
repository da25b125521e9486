-- A line that is understood, and no comment, is of ASCII.
use Rattle.std.proofs.Common.{◌≡◌, true, nat_lt, ℤ, List, [], ◌∷◌, Option, Some, None, Result, Ok, Err, codes, refl, sym, subst, arith}
use Rattle.std.specs.Fmt.{signed_decimal}
use Rattle.std.specs.List.{AllByRecursion, join_with_byte, list_all}
use Rattle.std.specs.Str.{IsAscii, IsUtf8}
use Rattle.std.specs.declared.alloc.AllocError.{AllocError}
use Rattle.std.proofs.lemmas.Bool.Decides.{nat_tests}
use Rattle.std.proofs.lemmas.Fmt.{IsAscii-decimal}
use Rattle.std.proofs.lemmas.List.Splits.{join_with_byte-slice_split}
use Rattle.std.proofs.lemmas.List.Sums.{AllPass-from_list_all}
use Rattle.std.proofs.lemmas.Str.{IsAscii-append, IsUtf8-from_ascii}
use Rattle.std.proofs.lemmas.Str.Ascii.{IsAscii-from_all}
use Rattle.kp_world.specs.declared.event.Event.{Event}
use Rattle.kp_world.specs.declared.event.Event.TheVariants.{Accept, Take, Now, Tick, TickNode, Send, SendNode, Deliver, Reply, Drop, DropNode, Leader, Other, Close, End, Flush}
use Rattle.kp_world.specs.declared.event.Treatment.TheVariants.{Judged, Refused, Late}
use Rattle.kp_schedule.specs.Grammar.{IsCode, IsSilent, IsValue, MayBeSaid, ReadsSaying, Says, WordsSay, event_words, name_of}
use Rattle.kp_schedule.specs.Lines.{Text}
use Rattle.kp_schedule.specs.Words.{words}
use Rattle.kp_schedule.specs.declared.saying.Saying.{Saying}
use Rattle.kp_schedule.specs.declared.saying.Saying.TheVariants.{Nothing, Sets, Happens}
use Rattle.kp_schedule.specs.declared.setting.Setting.{Setting}
use Rattle.kp_schedule.specs.declared.setting.Setting.TheVariants.{Partitions, Senders, BatchSize, Linger, BufferMemory, MaxRequestSize, RequestTimeout, DeliveryTimeout, RetryBackoff, MaxInFlight, SequenceLimit}
use Rattle.kp_schedule.proofs.CodeLemmas.{code-number}
use Rattle.kp_schedule.proofs.EventLemmas.{small-value}

-- ---- words

known : (word : Text) → list_all (λ b. nat_lt b 128) word ≡ true → IsAscii word
known word all = IsAscii-from_all word (λ k d inside. let one = AllPass-from_list_all (λ b. nat_lt b 128) word all k d inside in grind (arith, nat_tests))

value-ascii : (value : Text) → IsValue value → IsAscii value
value-ascii value v = IsAscii-from_all value (λ k d inside. omega (arith, (v.visible k d inside).1))

code-ascii : (z : ℤ) → IsCode z → IsAscii (signed_decimal z)
code-ascii z c =
    let (n, value, low, high) = code-number z c in
    rw value (IsAscii-decimal n (omega (arith, high)))

name-ascii : (name : Setting) → IsAscii (name_of name)
name-ascii Partitions = known (codes "partitions") refl
name-ascii Senders = known (codes "senders") refl
name-ascii BatchSize = known (codes "batch.size") refl
name-ascii Linger = known (codes "linger.ms") refl
name-ascii BufferMemory = known (codes "buffer.memory") refl
name-ascii MaxRequestSize = known (codes "max.request.size") refl
name-ascii RequestTimeout = known (codes "request.timeout.ms") refl
name-ascii DeliveryTimeout = known (codes "delivery.timeout.ms") refl
name-ascii RetryBackoff = known (codes "retry.backoff.ms") refl
name-ascii MaxInFlight = known (codes "max.in.flight") refl
name-ascii SequenceLimit = known (codes "sequence.limit") refl

abbrev AreAscii : List Text → Type 0
AreAscii ws = AllByRecursion IsAscii ws

event-ascii : (e : Event) → MayBeSaid e → AreAscii (event_words e)
event-ascii (Accept s p value) may =
    (known (codes "accept") refl, (IsAscii-decimal s may.0, (IsAscii-decimal p may.1, (value-ascii value may.2, tt))))
event-ascii (Take s) may = (known (codes "take") refl, (IsAscii-decimal s may, tt))
event-ascii (Now moment) may = (known (codes "now") refl, (IsAscii-decimal moment (omega (arith, may)), tt))
event-ascii Tick may = (known (codes "tick") refl, tt)
event-ascii (TickNode node) may = (known (codes "tick") refl, (IsAscii-decimal node (omega (arith, may)), tt))
event-ascii Send may = (known (codes "send") refl, tt)
event-ascii (SendNode node) may = (known (codes "send") refl, (IsAscii-decimal node (omega (arith, may)), tt))
event-ascii (Deliver k Judged) may = (known (codes "deliver") refl, (IsAscii-decimal k may.0, tt))
event-ascii (Deliver k (Refused code)) may =
    (known (codes "deliver") refl, (IsAscii-decimal k may.0, (known (codes "fail") refl, (code-ascii code may.1, tt))))
event-ascii (Deliver k (Late code)) may =
    (known (codes "deliver") refl, (IsAscii-decimal k may.0, (known (codes "late") refl, (code-ascii code may.1, tt))))
event-ascii (Reply j) may = (known (codes "reply") refl, (IsAscii-decimal j may, tt))
event-ascii Drop may = (known (codes "drop") refl, tt)
event-ascii (DropNode node) may = (known (codes "drop") refl, (IsAscii-decimal node (omega (arith, may)), tt))
event-ascii (Leader p node) may =
    (known (codes "leader") refl, (IsAscii-decimal p may.0, (IsAscii-decimal node (omega (arith, may.1)), tt)))
event-ascii (Other p n) may =
    (known (codes "other") refl, (IsAscii-decimal p may.0, (IsAscii-decimal n (omega (arith, may.1)), tt)))
event-ascii Close may = (known (codes "close") refl, tt)
event-ascii End may = (known (codes "end") refl, tt)
event-ascii Flush may = (known (codes "flush") refl, tt)

said-ascii : (ws : List Text) (x : Saying) → WordsSay ws x → AreAscii ws
said-ascii ws Nothing says = absurd says
said-ascii ws (Sets name n) says =
    subst AreAscii (sym says.1) (known (codes "set") refl, (name-ascii name, (IsAscii-decimal n (small-value name n says.0), tt)))
said-ascii ws (Happens e) says = subst AreAscii (sym says.1) (event-ascii e says.0)

-- ---- lines

blank : IsAscii (32 ∷ [])
blank = known (32 ∷ []) refl

joined-ascii : (ws : List Text) → AreAscii ws → IsAscii (join_with_byte 32 ws)
joined-ascii [] all = known [] refl
joined-ascii (w ∷ []) all = all.0
joined-ascii (w ∷ v ∷ ws) all =
    IsAscii-append w (32 ∷ join_with_byte 32 (v ∷ ws)) all.0 (IsAscii-append (32 ∷ []) (join_with_byte 32 (v ∷ ws)) blank (joined-ascii (v ∷ ws) all.1))

-- a line that is no comment says what its words say
pub by-words : (line : Text) → (IsSilent line → ⊥) → (x : Saying) → Says line x → WordsSay (words line) x
by-words line loud Nothing says = absurd (loud says)
by-words line loud (Sets name n) says = says
by-words line loud (Happens e) says = says

of-words : (line : Text) (x : Saying) → WordsSay (words line) x → Says line x
of-words line Nothing says = absurd says
of-words line (Sets name n) says = says
of-words line (Happens e) says = says

pub said-utf8 : (line : Text) → (IsSilent line → ⊥) → (x : Saying) → Says line x → IsUtf8 line
said-utf8 line loud x says =
    let all = said-ascii (words line) x (by-words line loud x says) in
    IsUtf8-from_ascii line (subst IsAscii (join_with_byte-slice_split 32 line) (joined-ascii (words line) all))

-- so reading its words reads it
pub reads-line : (line : Text) → (IsSilent line → ⊥) → (ws : List Text) → ws ≡ words line → (r : Result (Option Saying) AllocError) → ReadsSaying (WordsSay ws) r → ReadsSaying (Says line) r
reads-line line loud ws same (Ok None) none = λ x says. none x (subst (λ w. WordsSay w x) (sym same) (by-words line loud x says))
reads-line line loud ws same (Ok (Some x)) says = of-words line x (subst (λ w. WordsSay w x) same says)
reads-line line loud ws same (Err refused) (x, says) = (x, of-words line x (subst (λ w. WordsSay w x) same says))
