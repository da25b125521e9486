use Rattle.std.proofs.Common.{map, pos, arith}
use Rattle.std.specs.Prelude.{◌-ℤ◌}
use Rattle.std.proofs.lemmas.List.{length-map}
use Rattle.kp_batch.specs.Spelling.{base_timestamp}
use Rattle.kp_batch.proofs.SizeLemmas.{size_of_batch-is, bytes_from-here, bytes_from-none}
use Rattle.kp_batch.proofs.ListedLemmas.{record_here}
use Rattle.kp_batch.proofs.size.room_for.Goals as goal

pub loop-item-init : goal.loop-item-init
loop-item-init g c = record { left = omega arith; so_far = omega arith }

pub loop-item-preserved : goal.loop-item-preserved
loop-item-preserved g c =
    let record_in = g.T.AsRecord.body in
    let items = c.args.records.now in
    let records = map record_in items in
    let base = base_timestamp records in
    let k = c.loop-item.item-index in
    let body = c.as_record.result.now in
    let here = record_here record_in items k c.item-item.result body c.loop-item-test.true c.item-item.is c.as_record.ensures in
    let step = bytes_from-here base k records body here.0 here.1 in
    let one = c.record_room.ensures (pos body.timestamp -ℤ pos base) (pos k) in
    record {
      left = omega (arith, step, c.loop-item.invariant.left);
      so_far = omega (arith, step, one, c.loop-item.invariant.left, c.loop-item.invariant.so_far, c.saturating_add-room.ensures);
    }

pub returns : goal.returns
returns g c =
    let records = map g.T.AsRecord.body c.args.records.now in
    let none = bytes_from-none (base_timestamp records) c.loop-item.item-index records (omega (arith, length-map c.args.records.now g.T.AsRecord.body)) in
    omega (arith, c.loop-item.invariant.so_far, none, size_of_batch-is records)
