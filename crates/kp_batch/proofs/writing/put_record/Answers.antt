use Rattle.std.proofs.Common.{◌≡◌, ◌≤◌, ◌∙◌, ◌++◌, ap, length, pos, ℤ, arith}
use Rattle.std.specs.Prelude.{FitsSigned}
use Rattle.std.specs.Int.{w32, w64}
use mir.Val.{to_z}
use Rattle.std.proofs.lemmas.Int.{to_z-of_z, ints}
use Rattle.kp_wire.specs.Varint.{varint}
use Rattle.kp_batch.specs.Record.{fields_size, relative_record}
use Rattle.kp_batch.specs.Spelling.{relative_by, up_to_limit}
use Rattle.kp_batch.proofs.SizeLemmas.{length-relative_record}
use Rattle.kp_batch.proofs.WritingLemmas.{record_spelled, record_fits}
use Rattle.kp_batch.proofs.writing.put_record.Goals as goal

pub overflow_cast-size : goal.overflow_cast-size
overflow_cast-size c =
    let delta : FitsSigned w64 c.args.timestamp_delta = c.ranges.timestamp_delta in
    let offset : FitsSigned w32 c.args.offset_delta = c.ranges.offset_delta in
    let r = relative_by c.args.timestamp_delta c.args.offset_delta c.args.body.now in
    let size : up_to_limit c.record_fields_size-size.result ≡ up_to_limit (fields_size r) = rw (to_z-of_z, to_z-of_z) at c.record_fields_size-size.ensures.told in
    let limit : length (relative_record.spell r) ≤ 2147483647 = c.requires in
    record { sfits = omega (arith, size, limit, length-relative_record r) }

pub put_fields-requires : goal.put_fields-requires
put_fields-requires c =
    let delta : FitsSigned w64 c.args.timestamp_delta = c.ranges.timestamp_delta in
    let offset : FitsSigned w32 c.args.offset_delta = c.ranges.offset_delta in
    let r = relative_by c.args.timestamp_delta c.args.offset_delta c.args.body.now in
    let size : up_to_limit c.record_fields_size-size.result ≡ up_to_limit (fields_size r) = rw (to_z-of_z, to_z-of_z) at c.record_fields_size-size.ensures.told in
    let limit : length (relative_record.spell r) ≤ 2147483647 = c.requires in
    c.record_fields_size-size.ensures.fits (omega (arith, size, limit, length-relative_record r))

pub returns : goal.returns
returns c =
    let delta : FitsSigned w64 c.args.timestamp_delta = c.ranges.timestamp_delta in
    let offset : FitsSigned w32 c.args.offset_delta = c.ranges.offset_delta in
    let r = relative_by c.args.timestamp_delta c.args.offset_delta c.args.body.now in
    let size : up_to_limit c.record_fields_size-size.result ≡ up_to_limit (fields_size r) = rw (to_z-of_z, to_z-of_z) at c.record_fields_size-size.ensures.told in
    let limit : length (relative_record.spell r) ≤ 2147483647 = c.requires in
    let small : fields_size r ≤ 2147483647 = omega (arith, limit, length-relative_record r) in
    let told : c.record_fields_size-size.result ≡ fields_size r = omega (arith, size, small) in
    let widened : to_z w32 c.record_fields_size-size.result ≡ pos (fields_size r) = omega (arith, ints, told, small) in
    let first : c.put_varint.new.out.items ≡ c.args.out.now.items ++ varint.spell (pos (fields_size r)) = c.in_ok-put_varint.ensures.ok ∙ ap (λ (z : ℤ). c.args.out.now.items ++ varint.spell z) widened in
    record {
      fits = record_fits r small (rw (to_z-of_z, to_z-of_z) at (c.record_fields_size-size.ensures.fits (omega (arith, told, small))));
      spelled = record_spelled r c.args.out.now.items _ _ first (rw (to_z-of_z, to_z-of_z) at c.in_ok-put_fields.ensures);
    }
