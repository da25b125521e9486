use Rattle.std.proofs.Common.{◌≡◌, ◌++◌, take, drop, vec_capacity}
use Rattle.kp_rules.specs.HandingOver.{send_again_in}
use Rattle.kp_parts.proofs.partition.handing.send_lowest.Given as goal

abbrev pub invariant-loop-place : goal.invariant-loop-place
invariant-loop-place l = record {
  capacity : vec_capacity l.open_batches ≡ vec_capacity l.fn.open_batches;
  items : take l.place l.open_batches.items ++ send_again_in l.correlation (drop l.place l.open_batches.items) ≡ send_again_in l.correlation l.fn.open_batches.items;
}
