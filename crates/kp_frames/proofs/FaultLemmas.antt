-- Steps of reading a message that did not fail.
use Rattle.std.proofs.Common.{◌≡◌, ℕ, Bool, true, false, List, [], ◌∷◌, Result, Ok, Err, refl, sym, ◌∙◌}
use Rattle.std.specs.Prelude.{IfOk, IfErr, MatchResult}
use Rattle.kp_wire.specs.declared.fault.WireFault.{WireFault}
use Rattle.kp_wire.specs.declared.fault.WireFault.TheVariants as field
use Rattle.kp_wire.specs.Fields.{IsFieldFault}
use Rattle.kp_wire.specs.Reading.{◌>>=◌, refuse, Answers}
use Rattle.kp_wire.proofs.ReadLemmas.{ok_is, no_fault, is_error}
use Rattle.kp_frames.specs.declared.fault.FrameFault.{FrameFault}
use Rattle.kp_frames.specs.declared.fault.FrameFault.TheVariants.{Short, Trailing, UnknownApi, UnknownVersion, Wire, TooLarge, OutOfMemory, Mismatch}
use Rattle.kp_frames.specs.Fault.{of_wire, in_message, whole, Refuses, IsContentFault}

pub whole_ok : {A : Type 0} (x : A) (rest : List ℕ) (y : A) → whole x rest ≡ Ok y → (rest ≡ []) × (x ≡ y)
whole_ok x [] y e = (refl, ok_is x y e)
whole_ok x (b ∷ rest) y e = absurd cc

-- what a reader gave, where it is known what reading gives
pub answered_found : {X : Type 0} (begun : Type 0) (P : X → Type 0) (result read : Result X FrameFault) → Answers (Refuses begun) (λ x. x) result read → ((x : X) → read ≡ Ok x → P x) → IfOk result P
answered_found begun P (Ok x) read a holds = holds x a
answered_found begun P (Err fault) read a holds = tt

-- what holds of each fault of reading, and of memory refused, holds of the fault that was given
refused_fault : {X : Type 0} (P : FrameFault → Type 0) (begun : Type 0) (fault : FrameFault) (read : Result X FrameFault) → P OutOfMemory → ((f : FrameFault) → read ≡ Err f → P f) → Refuses begun fault read → P fault
refused_fault P begun OutOfMemory read memory holds r = memory
refused_fault P begun Short read memory holds r = holds Short r
refused_fault P begun Trailing read memory holds r = holds Trailing r
refused_fault P begun UnknownApi read memory holds r = holds UnknownApi r
refused_fault P begun UnknownVersion read memory holds r = holds UnknownVersion r
refused_fault P begun (Wire w) read memory holds r = holds (Wire w) r
refused_fault P begun TooLarge read memory holds r = holds TooLarge r
refused_fault P begun Mismatch read memory holds r = holds Mismatch r

pub answered_only : {X : Type 0} (begun : Type 0) (x : X) (result read : Result X FrameFault) → Answers (Refuses begun) (λ x. x) result read → read ≡ Ok x → MatchResult result (λ y. y ≡ x) (λ fault. fault ≡ OutOfMemory)
answered_only begun x (Ok y) read a e = ok_is y x (sym a ∙ e)
answered_only begun x (Err fault) read a e = refused_fault (λ f. f ≡ OutOfMemory) begun fault read refl (λ f is. absurd (no_fault f x (sym is ∙ e))) a

-- ---- which faults come

-- a field's fault as the message's
carried : (P : FrameFault → Type 0) → ((f : FrameFault) → IsContentFault f → P f) → (w : WireFault) → IsFieldFault w → P (of_wire w)
carried P content field.Short h = content Short tt
carried P content field.TooLarge h = absurd h
carried P content field.NotShortest h = absurd h
carried P content field.NotUtf8 h = content (Wire field.NotUtf8) tt
carried P content field.BadLength h = content (Wire field.BadLength) tt
carried P content field.BadByte h = content (Wire field.BadByte) tt

-- a step, and what follows it
pub step_err : {A B : Type 0} (P : FrameFault → Type 0) (r : Result A FrameFault) (next : A → Result B FrameFault) (f : FrameFault)
    → ((g : FrameFault) → r ≡ Err g → P g) → ((x : A) → r ≡ Ok x → next x ≡ Err f → P f) → (r >>= next) ≡ Err f → P f
step_err P (Ok x) next f here holds e = holds x refl e
step_err {B = B} P (Err g) next f here holds e = is_error {A = B} P g f (here g refl) e

-- a step of reading fields, and what follows it
pub in_message_err : {A B : Type 0} (P : FrameFault → Type 0) (r : Result A WireFault) (next : A → Result B FrameFault) (f : FrameFault)
    → ((g : FrameFault) → IsContentFault g → P g) → ((w : WireFault) → r ≡ Err w → IsFieldFault w) → ((x : A) → next x ≡ Err f → P f) → (in_message r >>= next) ≡ Err f → P f
in_message_err P (Ok x) next f content faults holds e = holds x e
in_message_err P (Err w) next f content faults holds e = is_error P (of_wire w) f (carried P content w (faults w refl)) e

pub refuse_err : {B : Type 0} (P : FrameFault → Type 0) (applies : Bool) (fault : FrameFault) (next : Unit {0} → Result B FrameFault) (f : FrameFault)
    → P fault → (next tt ≡ Err f → P f) → (refuse applies fault >>= next) ≡ Err f → P f
refuse_err P true fault next f here holds e = is_error P fault f here e
refuse_err P false fault next f here holds e = holds e

pub whole_err : {A : Type 0} (P : FrameFault → Type 0) (x : A) (rest : List ℕ) (f : FrameFault) → P Trailing → whole x rest ≡ Err f → P f
whole_err P x [] f here e = absurd (no_fault f x (sym e))
whole_err P x (b ∷ rest) f here e = is_error P Trailing f here e

pub answered_fault : {X : Type 0} (P : FrameFault → Type 0) (begun : Type 0) (result read : Result X FrameFault) → P OutOfMemory → ((f : FrameFault) → read ≡ Err f → P f) → Answers (Refuses begun) (λ x. x) result read → IfErr result P
answered_fault P begun (Ok x) read memory holds a = tt
answered_fault P begun (Err fault) read memory holds a = refused_fault P begun fault read memory holds a
