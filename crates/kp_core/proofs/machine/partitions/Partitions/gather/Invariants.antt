use Rattle.std.proofs.Common.{◌≡◌, ◌++◌, take}
use Rattle.std.specs.Prelude.{filter_map}
use Rattle.kp_rules.specs.Partitions.{partition_at}
use Rattle.kp_core.specs.Choosing.{sends_in}
use Rattle.kp_core.proofs.machine.partitions.Partitions.gather.Given as goal

abbrev pub invariant-loop-place : goal.invariant-loop-place
invariant-loop-place l =
    l.sendings.items ≡ l.fn.sendings.items ++ filter_map (λ p. sends_in l.node l.config l.flags l.now (p, partition_at p l.self)) (take l.place-index l.places)
