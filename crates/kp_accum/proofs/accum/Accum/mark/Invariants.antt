use Rattle.std.proofs.Common.{◌≡◌, ◌++◌, map, take, drop}
use Rattle.kp_accum.specs.Queue.{marked_by_flush}
use Rattle.kp_accum.proofs.accum.Accum.mark.Given as goal

abbrev pub invariant-loop-p : goal.invariant-loop-p
invariant-loop-p l = record {
  config : l.self-inside.config ≡ l.initial.self-inside.config;
  budget : l.self-inside.budget ≡ l.initial.self-inside.budget;
  batches : l.self-inside.batches ≡ l.initial.self-inside.batches;
  queues : l.self-inside.queues.items ≡ map (map marked_by_flush) (take l.p l.initial.self-inside.queues.items) ++ drop l.p l.initial.self-inside.queues.items;
}
