-- Which words are an event's.
use Rattle.std.proofs.Common.{◌≡◌, ◌≢◌, ℕ, Option, Result, Ok, Err, IsErr, ◌<◌, ◌≤◌, ◌^◌, List, [], ◌∷◌, codes, subst, arith}
use Rattle.std.specs.Fmt.{decimal}
use Rattle.std.proofs.lemmas.Fmt.{decimal_injective}
use Rattle.std.specs.declared.alloc.AllocError.{AllocError}
use Rattle.kp_schedule.specs.declared.saying.Saying.{Saying}
use Rattle.kp_schedule.specs.declared.saying.Saying.TheVariants.{Nothing, Sets, Happens}
use Rattle.kp_schedule.specs.declared.setting.Setting.{Setting}
use Rattle.kp_schedule.specs.declared.setting.Setting.TheVariants.{Partitions, Senders, BatchSize, Linger, BufferMemory, MaxRequestSize, RequestTimeout, DeliveryTimeout, RetryBackoff, MaxInFlight, SequenceLimit}
use Rattle.kp_schedule.proofs.SettingLemmas.{name_of-injective}
use Rattle.kp_world.specs.declared.event.Event.{Event}
use Rattle.kp_world.specs.declared.event.Event.TheVariants.{Accept, Now, Deliver, Other}
use Rattle.kp_world.specs.declared.event.Treatment.TheVariants.{Judged, Refused, Late}
use Rattle.kp_schedule.specs.Grammar.{MayBeSaid, MayBeSet, event_words, name_of, IsNumber, IsValue, ReadsWords, ReadsSaying, WordsSay}
use Rattle.kp_schedule.specs.Lines.{Text}

pub too_many_others : (a b : Text) (n : ℕ) → 1000 < n → n < 2 ^ 64 → b ≡ decimal n → (e : Event) → MayBeSaid e → codes "other" ∷ a ∷ b ∷ [] ≢ event_words e
too_many_others a b n many small is (Other p m) may same =
    let written : decimal m ≡ decimal n = cc in
    let number = decimal_injective m n (omega (arith, may.1)) small written in
    omega (arith, may.1)
too_many_others a b n many small is (Deliver k Judged) may same = absurd cc
too_many_others a b n many small is (Deliver k (Refused c)) may same = absurd cc
too_many_others a b n many small is (Deliver k (Late c)) may same = absurd cc
too_many_others a b n many small is e may same = absurd cc

pub too_late : (n : ℕ) → 2 ^ 63 ≤ n → n < 2 ^ 64 → (e : Event) → MayBeSaid e → codes "now" ∷ decimal n ∷ [] ≢ event_words e
too_late n late small (Now m) may same =
    let written : decimal m ≡ decimal n = cc in
    let number = decimal_injective m n (omega (arith, may)) small written in
    omega (arith, may)
too_late n late small (Deliver k Judged) may same = absurd cc
too_late n late small (Deliver k (Refused c)) may same = absurd cc
too_late n late small (Deliver k (Late c)) may same = absurd cc
too_late n late small e may same = absurd cc

-- ---- want of memory

pub wants : (ws : List Text) (r : Result (Option Event) AllocError) → IsErr r → (e : Event) × MayBeSaid e × (ws ≡ event_words e) → ReadsWords ws r
wants ws (Ok o) err some = absurd cc
wants ws (Err refused) err some = some

pub accept-words : (s p : ℕ) (a b value : Text) → IsNumber s × (a ≡ decimal s) → IsNumber p × (b ≡ decimal p) → IsValue value → (e : Event) × MayBeSaid e × (codes "accept" ∷ a ∷ b ∷ value ∷ [] ≡ event_words e)
accept-words s p a b value sender partition may =
    (Accept s p value, (sender.0, partition.0, may), (λ i. codes "accept" ∷ sender.1 i ∷ partition.1 i ∷ value ∷ []))

-- an event's words say that it happens
pub wants-saying : (ws : List Text) (r : Result (Option Saying) AllocError) → IsErr r → (e : Event) × MayBeSaid e × (ws ≡ event_words e) → ReadsSaying (WordsSay ws) r
wants-saying ws (Ok o) err some = absurd cc
wants-saying ws (Err refused) err (e, may, same) = (Happens e, (may, same))

-- ---- settings

pub no_event-set : (a b : Text) (e : Event) → codes "set" ∷ a ∷ b ∷ [] ≢ event_words e
no_event-set a b (Deliver k Judged) same = absurd cc
no_event-set a b (Deliver k (Refused c)) same = absurd cc
no_event-set a b (Deliver k (Late c)) same = absurd cc
no_event-set a b e same = absurd cc

pub small-value : (name : Setting) (n : ℕ) → MayBeSet name n → n < 2 ^ 64
small-value Partitions n may = omega (arith, may.1)
small-value Senders n may = omega (arith, may.1)
small-value BatchSize n may = may
small-value Linger n may = may
small-value BufferMemory n may = may
small-value MaxRequestSize n may = may
small-value RequestTimeout n may = may
small-value DeliveryTimeout n may = may
small-value RetryBackoff n may = may
small-value MaxInFlight n may = may
small-value SequenceLimit n may = may

-- a name that may not be set to this
pub not_set : (name : Setting) (n : ℕ) (a b : Text) → n < 2 ^ 64 → a ≡ name_of name → b ≡ decimal n → (MayBeSet name n → ⊥) → (x : Saying) → WordsSay (codes "set" ∷ a ∷ b ∷ []) x → ⊥
not_set name n a b small is_name is_number bad Nothing says = says
not_set name n a b small is_name is_number bad (Happens e) says = no_event-set a b e says.1
not_set name n a b small is_name is_number bad (Sets other m) says =
    let same = says.1 in
    let names : name_of other ≡ name_of name = cc in
    let numbers : decimal m ≡ decimal n = cc in
    let number : m ≡ n = decimal_injective m n (small-value other m says.0) small numbers in
    let setting : other ≡ name = name_of-injective other name names in
    bad (subst (λ s. MayBeSet s n) setting (subst (MayBeSet other) number says.0))
