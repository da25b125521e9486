use Rattle.std.proofs.Common.{rules}
use Rattle.kp_lanes.proofs.GateSteps.{leaves}
use Rattle.kp_lanes.proofs.gate.Gate.count_out.Goals as goal

pub fetch_sub-requires : goal.fetch_sub-requires
fetch_sub-requires c = (c.requires.here, search rules, leaves _ _ _ c.requires.counted)
