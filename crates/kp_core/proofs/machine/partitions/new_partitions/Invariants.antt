use Rattle.std.proofs.Common.{◌≡◌, replicate}
use Rattle.std.specs.Prelude.{if◌then◌else◌}
use Rattle.kp_rules.specs.Auditing.{unaudited}
use Rattle.kp_rules.specs.Partitions.{new_partition}
use Rattle.kp_core.proofs.machine.partitions.new_partitions.Given as goal

abbrev pub invariant-loop : goal.invariant-loop
invariant-loop l =
    l.partitions.items ≡ replicate l.counter (if l.audits then new_partition l.producer_id else unaudited (new_partition l.producer_id))
