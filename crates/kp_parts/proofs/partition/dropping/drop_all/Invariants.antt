use Rattle.std.proofs.Common.{◌≡◌, ◌++◌, take, drop, map, vec_capacity}
use Rattle.kp_rules.specs.Dropping.{drop_attempt}
use Rattle.kp_parts.proofs.partition.dropping.drop_all.Given as goal

abbrev pub invariant-loop-place : goal.invariant-loop-place
invariant-loop-place l = record {
  capacity : vec_capacity l.open_batches ≡ vec_capacity l.fn.open_batches;
  items : take l.place l.open_batches.items ++ map (drop_attempt l.now) (drop l.place l.open_batches.items) ≡ map (drop_attempt l.now) l.fn.open_batches.items;
}
