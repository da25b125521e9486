use Rattle.kp_lanes.specs.Settling.{HasRooms, SamePorts, SameFinished}
use Rattle.kp_lanes.proofs.settling.rooms.Given as goal

abbrev pub invariant-loop-j : goal.invariant-loop-j
invariant-loop-j l = record {
  ports : SamePorts l.initial.ports.items l.ports.items;
  finished : SameFinished l.initial.finished.items l.finished.items;
  rooms : HasRooms l.initial.ports.items l.initial.finished.items l.settled l.j;
}
