use Rattle.std.proofs.Common.{rules}
use Rattle.kp_lanes.proofs.GateSteps.{enters}
use Rattle.kp_lanes.proofs.gate.Gate.enter.Goals as goal

pub fetch_add-found-requires : goal.fetch_add-found-requires
fetch_add-found-requires c = (c.requires.here, search rules, enters _ _ _ c.requires.out.0 c.requires.out.1)
