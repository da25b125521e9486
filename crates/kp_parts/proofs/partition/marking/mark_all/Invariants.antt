use Rattle.std.proofs.Common.{◌≡◌, ◌++◌, take, drop, map, vec_capacity}
use Rattle.kp_rules.specs.Flush.{mark_open}
use Rattle.kp_parts.proofs.partition.marking.mark_all.Given as goal

abbrev pub invariant-loop-place : goal.invariant-loop-place
invariant-loop-place l = record {
  capacity : vec_capacity l.open_batches ≡ vec_capacity l.fn.open_batches;
  items : take l.place l.open_batches.items ++ map mark_open (drop l.place l.open_batches.items) ≡ map mark_open l.fn.open_batches.items;
}
