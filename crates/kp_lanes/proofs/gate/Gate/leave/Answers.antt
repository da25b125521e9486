use Rattle.std.proofs.Common.{ap}
use Rattle.kp_lanes.specs.Gate.{stage_entered}
use Rattle.kp_lanes.proofs.gate.Gate.leave.Goals as goal

pub count_out-requires-clause-counted : goal.count_out-requires-clause-counted
count_out-requires-clause-counted c = ap stage_entered c.requires.inside
