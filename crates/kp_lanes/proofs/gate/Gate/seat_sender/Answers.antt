use Rattle.std.proofs.Common.{rules}
use Rattle.kp_lanes.proofs.GateSteps.{seats}
use Rattle.kp_lanes.proofs.gate.Gate.seat_sender.Goals as goal

pub split_seat-requires : goal.split_seat-requires
split_seat-requires c = (c.requires.here, search rules, seats _ _ 1 c.requires.out c.requires.room)
