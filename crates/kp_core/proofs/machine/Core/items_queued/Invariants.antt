use Rattle.std.proofs.Common.{◌≡◌, ◌-◌, ◌^◌, length, take, min}
use Rattle.std.specs.Prelude.{sum_by}
use Rattle.kp_rules.specs.Partitions.{items_queued}
use Rattle.kp_rules.specs.Records.{Partition}
use Rattle.kp_core.proofs.machine.Core.items_queued.Given as goal

abbrev pub invariant-loop-partition : goal.invariant-loop-partition
invariant-loop-partition l = l.sum ≡ min (sum_by (λ (t : Partition). length (items_queued t.queue)) (take l.partition-index l.self.partitions)) (2 ^ 64 - 1)
