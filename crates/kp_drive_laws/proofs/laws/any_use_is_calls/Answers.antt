use Rattle.kp_drive_laws.proofs.CarryingLemmas.{uses_run}
use Rattle.kp_drive_laws.proofs.laws.any_use_is_calls.Goals as goal

pub returns : goal.returns
returns g c = λ config names cluster p links uses. uses_run g.S.Stream.answers config names cluster p links uses
