use Rattle.std.proofs.Common.{◌≡◌, true, false}
use Rattle.kp_drive.proofs.link.Link.poll_turn.Goals as goal

true_not : true ≡ false → ⊥
true_not e = cc

pub returns-in-Moved-clause-waits : goal.returns-in-Moved-clause-waits
returns-in-Moved-clause-waits g c = λ still. absurd (true_not still)
