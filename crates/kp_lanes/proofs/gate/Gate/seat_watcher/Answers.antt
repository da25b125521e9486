use Rattle.std.proofs.Common.{rules, arith}
use Rattle.kp_lanes.proofs.GateSteps.{seats}
use Rattle.kp_lanes.proofs.gate.Gate.seat_watcher.Goals as goal

pub split_seat-requires : goal.split_seat-requires
split_seat-requires c = (c.requires.here, search rules, seats _ _ 0 c.requires.out (omega arith))
