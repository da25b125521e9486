use Rattle.std.proofs.Common.{◌≡◌, ◌++◌, ◌<◌, ◌≤◌, ◌^◌, length, map, pos, arith, rules}
use Rattle.std.specs.Prelude.{◌-ℤ◌, FitsSigned}
use Rattle.std.specs.Int.{w16, w32, w64}
use mir.Val.{to_z, of_z}
use Rattle.std.proofs.lemmas.Int.{ints}
use Rattle.std.proofs.lemmas.List.{length-map}
use Rattle.kp_batch.specs.Spelling.{summary, summary_of, base_timestamp, max_timestamp}
use Rattle.kp_batch.proofs.SizeLemmas.{size_of_batch-is, many_items}
use Rattle.kp_batch.proofs.ListedLemmas.{first_timestamp, latest_timestamp}
use Rattle.kp_batch.proofs.WritingLemmas.{moments_up_to, summary_fits, covered_spelled}
use Rattle.kp_batch.proofs.writing.put_covered.Goals as goal

pub put_records-requires : goal.put_records-requires
put_records-requires g c =
    let rs = map g.T.AsRecord.body c.args.records.now in
    let first = first_timestamp g.T.AsRecord.body c.args.records.now _ _ c.requires.some c.index-records-0.is c.as_record.ensures in
    let whole = size_of_batch-is rs in
    rw first (omega (arith, whole, c.requires.fits))

pub returns : goal.returns
returns g c =
    let items = c.args.records.now in
    let rs = map g.T.AsRecord.body items in
    let many = length-map items g.T.AsRecord.body in
    let some : 0 < length rs = omega (arith, many, c.requires.some) in
    let few : length rs ≤ 2147483647 = omega (arith, many, many_items g.T.AsRecord.body items, c.requires.fits) in
    let first = first_timestamp g.T.AsRecord.body items _ _ c.requires.some c.index-records-0.is c.as_record.ensures in
    let latest = latest_timestamp rs in
    let last-is : to_z w32 (of_z w32 (to_z w32 (length items) -ℤ pos 1)) ≡ pos (length rs) -ℤ pos 1 = omega (arith, ints, many, some, few) in
    let base-is : to_z w64 (of_z w64 c.millis.result) ≡ pos (base_timestamp rs) = omega (arith, ints, c.millis.ensures.value, c.millis.ensures.fits, first) in
    let max-is : to_z w64 (of_z w64 c.millis-2.result) ≡ pos (max_timestamp rs) = omega (arith, ints, c.millis-2.ensures.value, c.millis-2.ensures.fits, c.latest_of.ensures, first, latest) in
    let count-is : to_z w32 (length items) ≡ pos (length rs) = omega (arith, ints, many, few) in
    let summarized : c.put_summary.new.out.items ≡ c.args.out.now.items ++ summary.spell (summary_of c.args.h rs) = rw (last-is, base-is, max-is, count-is) at c.in_ok-put_summary.ensures in
    let id : FitsSigned w64 c.args.h.producer_id = search rules in
    let epoch : FitsSigned w16 c.args.h.epoch = search rules in
    let sequence : FitsSigned w32 c.args.h.base_sequence = search rules in
    let early : base_timestamp rs < 2 ^ 63 = omega (arith, c.millis.ensures.fits, first) in
    let late : max_timestamp rs < 2 ^ 63 = omega (arith, c.millis-2.ensures.fits, c.latest_of.ensures, first, latest) in
    record {
      spelled = covered_spelled c.args.h rs c.args.out.now.items _ _ summarized (rw first at c.in_ok-put_records.ensures.spelled);
      fits = record {
        some = some;
        moments = moments_up_to rs late;
        summary = summary_fits c.args.h rs id epoch sequence some few early late;
        records = rw first at c.in_ok-put_records.ensures.fits;
      };
    }
