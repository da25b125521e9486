use Rattle.kp_lanes.proofs.GateSteps.{nobody}
use Rattle.kp_lanes.proofs.laws.nobody_is_inside.Goals as goal

pub returns : goal.returns
returns c = nobody
