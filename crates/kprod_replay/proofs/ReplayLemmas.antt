-- Why a schedule has no text.
use Rattle.std.proofs.Common.{◌≡◌, ℕ, List, Result, Ok, Err, subst, sym}
use Rattle.std.specs.Prelude.{IfErr, IsErrAnd}
use Rattle.kprod_replay.specs.Replays.{IsWhy}
use Rattle.kp_schedule.specs.declared.fault.ReplayFault.{ReplayFault}

-- A fault that was passed on is still why.
pub is_why : {A : Type 0} (bytes : List ℕ) (r : Result A ReplayFault) (fault : ReplayFault) → IsErrAnd r (λ e. e ≡ fault) → IsWhy bytes fault → IfErr r (IsWhy bytes)
is_why bytes (Ok x) fault is why = tt
is_why bytes (Err e) fault is why = subst (λ (f : ReplayFault). IsWhy bytes f) (sym is) why
