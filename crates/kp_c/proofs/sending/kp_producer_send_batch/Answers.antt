use Rattle.std.proofs.Common.{◌≡◌, w32, w64, length, sym, ap, ◌∙◌}
use Rattle.std.proofs.lemmas.Int.{to_z-of_z}
use Rattle.kp_c.specs.Sending.{AcceptsSome}
use Rattle.kp_c.specs.Values.{target_of}
use Rattle.kp_c.proofs.BatchLemmas.{accepts_same, where_done}
use Rattle.kp_c.proofs.HeldLemmas.{on_held}
use Rattle.kp_c.proofs.sending.kp_producer_send_batch.Goals as goal

pub returns-clause-accepts : goal.returns-clause-accepts
returns-clause-accepts c =
    let a = c.args in
    on_held (AcceptsSome a.timestamp_ms a.now (target_of a.partition) a.lengths.now a.values.now c.send_each-count.result.0) _ _ _ _ _ c.in-Some.ensures.some c.deref_mut.ensures.value c.put.ensures
    (accepts_same _ _ _ _ _ _ _ _ _ _ (to_z-of_z w64 a.timestamp_ms c.ranges.timestamp_ms) (c.target_of-target.ensures ∙ ap target_of (to_z-of_z w32 a.partition c.ranges.partition)) c.send_each-count.ensures.accepts)

pub returns-clause-all : goal.returns-clause-all
returns-clause-all c = λ done.
    where_done _ c.status_of.result (c.send_each-count.result.0 ≡ length c.args.lengths.now) c.status_of.ensures.refused c.send_each-count.ensures.all
    (sym (to_z-of_z w32 c.status_of.result (record { sfits = c.status_of.type_inv })) ∙ done)
