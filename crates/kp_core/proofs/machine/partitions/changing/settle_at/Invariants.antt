use Rattle.std.proofs.Common.{◌≡◌, true, length, drop}
use Rattle.std.specs.List.{AllByRecursion}
use Rattle.kp_rules.specs.Partitions.{partition_at}
use Rattle.kp_core.specs.Hearing.{entry_at, offsets_by, settled_by}
use Rattle.kp_core.proofs.ChosenLemmas.{IsToFollow}
use Rattle.kp_core.proofs.machine.partitions.changing.settle_at.Given as goal

abbrev pub invariant-loop-place : goal.invariant-loop-place
invariant-loop-place l = record {
  entries : length l.found ≡ length l.partitions.items;
  offsets : AllByRecursion (λ p. offsets_by l.correlation (entry_at p l.found) (partition_at p l.partitions.items) ≡ true) (drop l.place-index l.chosen);
  follow : IsToFollow (λ p t. settled_by l.now l.correlation (entry_at p l.found) t) l.chosen l.fn.partitions.items l.fn.desk (drop l.place-index l.chosen) l.partitions.items l.desk;
}
