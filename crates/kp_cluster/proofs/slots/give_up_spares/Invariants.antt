use Rattle.std.proofs.Common.{◌≡◌, ◌++◌, map, take, drop}
use Rattle.kp_cluster.specs.Slots.{spare_given_up}
use Rattle.kp_cluster.proofs.slots.give_up_spares.Given as goal

abbrev pub invariant-loop-slot : goal.invariant-loop-slot
invariant-loop-slot l = l.slots ≡ map spare_given_up (take l.slot-index l.initial.slots) ++ drop l.slot-index l.initial.slots
