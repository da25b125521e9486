use Rattle.kp_lanes.proofs.GateSteps.{one_shuts}
use Rattle.kp_lanes.proofs.laws.one_shuts.Goals as goal

pub returns : goal.returns
returns c = one_shuts
