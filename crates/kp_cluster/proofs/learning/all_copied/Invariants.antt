use Rattle.std.proofs.Common.{◌≡◌, take}
use Rattle.kp_cluster.proofs.learning.all_copied.Given as goal

abbrev pub invariant-loop-slot : goal.invariant-loop-slot
invariant-loop-slot l = l.copies.items ≡ take l.slot-index l.slots
