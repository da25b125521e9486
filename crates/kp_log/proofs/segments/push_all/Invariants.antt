use Rattle.std.proofs.Common.{◌≡◌, ◌+◌, ◌≤◌, ◌++◌, vec_len, vec_capacity}
use Rattle.std.specs.Vec.Iter.{into_iter_items, into_iter_len}
use Rattle.kp_log.specs.Log.{stored_as}
use Rattle.kp_log.proofs.segments.push_all.Given as goal

abbrev pub invariant-loop-body : goal.invariant-loop-body
invariant-loop-body l = record {
  room : vec_len l.records + into_iter_len l.body-iterator ≤ vec_capacity l.records;
  pushed : l.records.items ++ stored_as l.producer_id (into_iter_items l.body-iterator) ≡ l.fn.records.items ++ stored_as l.producer_id l.fn.bodies.items;
}
