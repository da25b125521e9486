use Rattle.std.proofs.Common.{◌≡◌, ◌++◌, take, drop, map, vec_capacity}
use Rattle.kp_rules.specs.Settling.{put_off}
use Rattle.kp_parts.proofs.partition.settling.put_off_all.Given as goal

abbrev pub invariant-loop-place : goal.invariant-loop-place
invariant-loop-place l = record {
  capacity : vec_capacity l.open_batches ≡ vec_capacity l.fn.open_batches;
  items : take l.place l.open_batches.items ++ map (put_off l.now l.correlation) (drop l.place l.open_batches.items) ≡ map (put_off l.now l.correlation) l.fn.open_batches.items;
}
