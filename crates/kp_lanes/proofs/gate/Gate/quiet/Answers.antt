use Rattle.std.proofs.Common.{rules}
use Rattle.kp_lanes.proofs.GateSteps.{looks}
use Rattle.kp_lanes.proofs.gate.Gate.quiet.Goals as goal

pub load-found-requires : goal.load-found-requires
load-found-requires c = (c.requires.here, search rules, looks _ _ _)
