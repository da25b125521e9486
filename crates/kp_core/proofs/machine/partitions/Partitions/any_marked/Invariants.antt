use Rattle.std.proofs.Common.{◌≡◌, drop}
use Rattle.std.specs.List.{list_any}
use Rattle.kp_rules.specs.Flush.{has_marks}
use Rattle.kp_rules.specs.Partitions.{partition_at}
use Rattle.kp_core.specs.Busy.{busy_in}
use Rattle.kp_core.proofs.machine.partitions.Partitions.any_marked.Given as goal

abbrev pub invariant-loop-place : goal.invariant-loop-place
invariant-loop-place l =
    list_any (λ p. has_marks (partition_at p l.self)) (drop l.place-index (busy_in l.self))
    ≡ list_any (λ p. has_marks (partition_at p l.self)) (busy_in l.self)
