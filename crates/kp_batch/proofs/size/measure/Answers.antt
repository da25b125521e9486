use Rattle.std.proofs.Common.{map, ◌≡◌, ◌∙◌, length, sym, ap, pos, [], arith}
use Rattle.std.proofs.lemmas.List.{length-map, nil_from_length}
use Rattle.kp_batch.specs.Spelling.{relative, measured, size_of_batch, base_timestamp}
use Rattle.kp_batch.specs.declared.relative.RelativeRecord.{RelativeRecord}
use Rattle.kp_batch.specs.Record.{relative_record}
use Rattle.kp_batch.proofs.RelativeLemmas.{relative_as}
use Rattle.kp_batch.proofs.SizeLemmas.{measured_small, measured_large, small_measured, large_measured, size_of_batch-is, bytes_from-here, bytes_from-none, some_bytes}
use Rattle.kp_batch.proofs.ListedLemmas.{record_here, first_timestamp}
use Rattle.kp_batch.proofs.size.measure.Goals as goal

pub returns-in-empty : goal.returns-in-empty
unfolding size_of_batch
returns-in-empty g c =
    let records = map g.T.AsRecord.body c.args.records.now in
    let none : records ≡ [] = nil_from_length records (omega (arith, length-map c.args.records.now g.T.AsRecord.body)) in
    rw none (sym (measured_small 61 (omega arith)))

pub returns-then-size-gt-SIZE_LIMIT : goal.returns-then-size-gt-SIZE_LIMIT
returns-then-size-gt-SIZE_LIMIT g c =
    let large = large_measured _ _ c.loop-k.invariant.so_far c.if-size-gt-SIZE_LIMIT.true in
    sym (measured_large _ (omega (arith, large.1, c.loop-k.invariant.left, size_of_batch-is (map g.T.AsRecord.body c.args.records.now))))

pub loop-k-init : goal.loop-k-init
loop-k-init g c = record { left = omega arith; so_far = sym (measured_small _ (omega arith)) ∙ ap measured (omega arith) }

pub overflow_cast-k : goal.overflow_cast-k
overflow_cast-k g c = let small = small_measured _ _ c.loop-k.invariant.so_far c.if-size-gt-SIZE_LIMIT.false in omega (arith, small, c.loop-k.invariant.left)

pub loop-k-preserved : goal.loop-k-preserved
loop-k-preserved g c =
    let record_in = g.T.AsRecord.body in
    let items = c.args.records.now in
    let records = map record_in items in
    let base = base_timestamp records in
    let body = c.as_record-body.result.now in
    let here = record_here record_in items c.loop-k.k c.index-records-k.result body (omega arith) c.index-records-k.is c.as_record-body.ensures in
    let first = first_timestamp record_in items c.first-item.result c.as_record.result.now (omega arith) c.first-item.is c.as_record.ensures in
    let step = bytes_from-here base c.loop-k.k records body here.0 here.1 in
    let small = small_measured _ _ c.loop-k.invariant.so_far c.if-size-gt-SIZE_LIMIT.false in
    let same = relative_as _ _ base c.loop-k.k body c.millis.ensures.value c.millis.ensures.fits (c.millis-base.ensures.value ∙ ap pos first) (omega (arith, c.millis-base.ensures.fits, first)) (omega (arith, small, c.loop-k.invariant.left)) in
    let one : c.record_size.result ≡ measured (length (relative_record.spell (relative base c.loop-k.k body))) =
    c.record_size.ensures ∙ ap (λ (r : RelativeRecord). measured (length (relative_record.spell r))) same in
    record {
      left = omega (arith, step, some_bytes (relative base c.loop-k.k body), c.loop-k.invariant.left);
      so_far = c.add_sizes-size.ensures _ _ c.loop-k.invariant.so_far one ∙ ap measured (omega (arith, step, c.loop-k.invariant.left));
    }

pub returns : goal.returns
returns g c =
    let records = map g.T.AsRecord.body c.args.records.now in
    let none = bytes_from-none (base_timestamp records) c.loop-k.k records (omega (arith, length-map c.args.records.now g.T.AsRecord.body)) in
    c.loop-k.invariant.so_far ∙ ap measured (omega (arith, none, size_of_batch-is records))
