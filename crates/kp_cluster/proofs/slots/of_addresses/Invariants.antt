use Rattle.std.proofs.Common.{◌≡◌, map}
use Rattle.kp_cluster.specs.Cluster.{slot_of_address}
use Rattle.kp_cluster.proofs.slots.of_addresses.Given as goal

abbrev pub invariant-loop-address : goal.invariant-loop-address
invariant-loop-address l = l.slots.items ≡ map slot_of_address l.yielded
