use Rattle.std.proofs.Common.{◌≡◌, take}
use Rattle.std.specs.Prelude.{flat_map}
use Rattle.kp_rules.specs.Due.{earliest, partition_moments}
use Rattle.kp_rules.specs.Partitions.{partition_at}
use Rattle.kp_core.specs.Busy.{busy_in}
use Rattle.kp_core.proofs.machine.partitions.Partitions.earliest_moment.Given as goal

abbrev pub invariant-loop-place : goal.invariant-loop-place
invariant-loop-place l = l.earliest ≡ earliest l.from (flat_map (λ p. partition_moments l.config (partition_at p l.self)) (take l.place-index (busy_in l.self)))
