use Rattle.std.proofs.Common.{◌≡◌, drop}
use Rattle.std.specs.Prelude.{find}
use Rattle.kp_rules.specs.MaySend.{wants_id}
use Rattle.kp_rules.specs.Partitions.{partition_at}
use Rattle.kp_core.proofs.machine.partitions.Partitions.first_wanting.Given as goal

abbrev pub invariant-loop-place : goal.invariant-loop-place
invariant-loop-place l =
    find (λ p. wants_id l.config (partition_at p l.self)) (drop l.place-index l.places)
    ≡ find (λ p. wants_id l.config (partition_at p l.self)) l.places
