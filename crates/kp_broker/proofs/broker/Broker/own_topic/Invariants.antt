use Rattle.std.proofs.Common.{◌≡◌, map}
use Rattle.std.specs.List.{range_with_len}
use Rattle.kp_broker.specs.Answers.{partition_metadata}
use Rattle.kp_broker.proofs.broker.Broker.own_topic.Given as goal

abbrev pub invariant-loop-partition : goal.invariant-loop-partition
invariant-loop-partition l = l.partitions.items ≡ map (partition_metadata l.self) (range_with_len 0 l.partition)
