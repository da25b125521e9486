use Rattle.std.proofs.Common.{◌≡◌, length, map}
use Rattle.kp_accum.specs.Queue.{marked_by_flush}
use Rattle.kp_accum.proofs.MarkLemmas.{MarkedBelow}
use Rattle.kp_accum.proofs.queue.Queue.mark.Given as goal

abbrev pub invariant-loop-k : goal.invariant-loop-k
invariant-loop-k l = record {
  as_many : length l.self-inside.batches.items ≡ l.len;
  same : map marked_by_flush l.self-inside.batches.items ≡ map marked_by_flush l.initial.self-inside.batches.items;
  marked : MarkedBelow l.k l.self-inside.batches.items;
}
