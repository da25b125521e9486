use Rattle.std.proofs.Common.{◌≡◌, ◌-◌, ◌^◌, take, min}
use Rattle.std.specs.Prelude.{sum_by}
use Rattle.kp_rules.specs.Records.{Partition}
use Rattle.kp_core.proofs.machine.Core.attempts_sent.Given as goal

abbrev pub invariant-loop-partition : goal.invariant-loop-partition
invariant-loop-partition l = l.sum ≡ min (sum_by (λ (t : Partition). t.attempts_sent) (take l.partition-index l.self.partitions)) (2 ^ 64 - 1)
