use Rattle.std.proofs.Common.{◌≡◌, ◌-◌, ◌^◌, take, min}
use Rattle.std.specs.Prelude.{sum_by}
use Rattle.kp_rules.specs.Counts.{in_flight}
use Rattle.kp_core.proofs.machine.Core.batches_in_flight.Given as goal

abbrev pub invariant-loop-partition : goal.invariant-loop-partition
invariant-loop-partition l = l.sum ≡ min (sum_by in_flight (take l.partition-index l.self.partitions)) (2 ^ 64 - 1)
