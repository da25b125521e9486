use Rattle.std.proofs.Common.{◌≤◌, ◌<◌, ◌∙◌, ◌^◌, ap, sym, subst, ◌++◌, length, map, arith}
use Rattle.std.proofs.lemmas.List.{length-map}
use Rattle.kp_batch.specs.declared.relative.RelativeRecord.{RelativeRecord}
use Rattle.kp_batch.specs.Record.{relative_record}
use Rattle.kp_batch.proofs.RelativeLemmas.{relative_as}
use Rattle.kp_batch.proofs.SizeLemmas.{bytes_from-here, many_records}
use Rattle.kp_batch.proofs.ListedLemmas.{record_here}
use Rattle.kp_batch.proofs.WritingLemmas.{record_more, fits_more}
use Rattle.kp_batch.proofs.writing.put_records.Goals as goal

pub overflow_cast-k : goal.overflow_cast-k
overflow_cast-k g c =
    let items = c.args.records.now in
    let records = map g.T.AsRecord.body items in
    record { sfits = omega (arith, c.requires, many_records c.args.base 0 records, length-map items g.T.AsRecord.body) }

pub put_record-requires : goal.put_record-requires
put_record-requires g c =
    let records = map g.T.AsRecord.body c.args.records.now in
    let base = c.args.base in
    let body = c.as_record-body.result.now in
    let k = c.loop-k.k in
    let here = record_here g.T.AsRecord.body c.args.records.now k c.index-records-k.result body (omega arith) c.index-records-k.is c.as_record-body.ensures in
    let few : k < 2 ^ 31 = omega (arith, c.requires, here.0, many_records base 0 records) in
    let same = relative_as _ _ base k body c.millis.ensures.value c.millis.ensures.fits c.millis-in-loop-k.ensures.value c.millis-in-loop-k.ensures.fits few in
    subst (λ (r : RelativeRecord). length (relative_record.spell r) ≤ 2147483647) (sym same) (omega (arith, c.requires, bytes_from-here base k records body here.0 here.1, c.loop-k.invariant.left))

pub loop-k-preserved : goal.loop-k-preserved
loop-k-preserved g c =
    let records = map g.T.AsRecord.body c.args.records.now in
    let base = c.args.base in
    let body = c.as_record-body.result.now in
    let k = c.loop-k.k in
    let here = record_here g.T.AsRecord.body c.args.records.now k c.index-records-k.result body (omega arith) c.index-records-k.is c.as_record-body.ensures in
    let few : k < 2 ^ 31 = omega (arith, c.requires, here.0, many_records base 0 records) in
    let same = relative_as _ _ base k body c.millis.ensures.value c.millis.ensures.fits c.millis-in-loop-k.ensures.value c.millis-in-loop-k.ensures.fits few in
    let spelled = c.in_ok-put_record.ensures.spelled ∙ ap (λ (r : RelativeRecord). c.loop-k.out.items ++ relative_record.spell r) same in
    record {
      spelled = record_more base k records body c.loop-k.out.items _ _ here.0 here.1 spelled c.loop-k.invariant.spelled;
      fits = fits_more base k records body _ here.0 here.1 (subst relative_record.Fits same c.in_ok-put_record.ensures.fits) c.loop-k.invariant.fits;
      left = omega (arith, bytes_from-here base k records body here.0 here.1, c.loop-k.invariant.left);
    }
