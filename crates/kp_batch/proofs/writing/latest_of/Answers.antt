use Rattle.std.proofs.Common.{◌≡◌, max, map, arith}
use Rattle.std.proofs.lemmas.Int.{ints}
use Rattle.kp_batch.proofs.ListedLemmas.{record_here}
use Rattle.kp_batch.proofs.WritingLemmas.{latest_further}
use Rattle.kp_batch.proofs.writing.latest_of.Goals.{then-millis, else-millis}
use Rattle.kp_batch.proofs.writing.latest_of.Goals as goal

pub loop-item-preserved : goal.loop-item-preserved
loop-item-preserved g c =
    let record_in = g.T.AsRecord.body in
    let items = c.args.records.now in
    let body = c.as_record-body.result.now in
    let here = record_here record_in items c.loop-item.item-index c.item-item.result body c.loop-item-test.true c.item-item.is c.as_record-body.ensures in
    let next : c.if-millis.latest ≡ max c.loop-item.latest body.timestamp =
    elim c.if-millis.branch [
      | then-millis w ↦ omega (arith, ints, w.if-millis.true, w.latest-is, c.millis.ensures.value, c.millis-in-loop-item.ensures.value)
      | else-millis w ↦ omega (arith, ints, w.if-millis.false, w.latest-is, c.millis.ensures.value, c.millis-in-loop-item.ensures.value)
    ] in
    latest_further (map record_in items) c.loop-item.item-index body c.loop-item.latest _ _ here.0 here.1 next c.loop-item.invariant
