use Rattle.std.proofs.Common.{◌≡◌, map}
use Rattle.std.specs.List.{range_with_len}
use Rattle.kp_broker.specs.Broker.{first_leader}
use Rattle.kp_broker.proofs.broker.leading.first_leaders.Given as goal

abbrev pub invariant-loop-partition : goal.invariant-loop-partition
invariant-loop-partition l = l.leaders.items ≡ map (first_leader l.ports) (range_with_len 0 l.partition)
