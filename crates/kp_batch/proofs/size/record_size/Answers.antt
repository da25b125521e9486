use Rattle.std.proofs.Common.{◌≡◌, ◌∙◌, length, sym, ap, pos, ℤ, arith}
use Rattle.std.specs.Prelude.{FitsSigned}
use Rattle.std.specs.Int.{w32, w64}
use mir.Val.{to_z}
use Rattle.std.proofs.lemmas.Int.{to_z-of_z, ints}
use Rattle.kp_wire.specs.Varint.{varint}
use Rattle.kp_batch.specs.Record.{fields_size}
use Rattle.kp_batch.specs.Spelling.{relative_by, measured, up_to_limit}
use Rattle.kp_batch.proofs.SizeLemmas.{measured_small, measured_large, told_small, told_large, length-relative_record}
use Rattle.kp_batch.proofs.size.record_size.Goals as goal

pub returns-then-fields-gt-SIZE_LIMIT : goal.returns-then-fields-gt-SIZE_LIMIT
returns-then-fields-gt-SIZE_LIMIT c =
    let delta : FitsSigned w64 c.args.timestamp_delta = c.ranges.timestamp_delta in
    let offset : FitsSigned w32 c.args.offset_delta = c.ranges.offset_delta in
    let r = relative_by c.args.timestamp_delta c.args.offset_delta c.args.body.now in
    let fields : up_to_limit c.record_fields_size-fields.result ≡ up_to_limit (fields_size r) = rw (to_z-of_z, to_z-of_z) at c.record_fields_size-fields.ensures.told in
    let large = told_large _ (fields_size r) fields c.if-fields-gt-SIZE_LIMIT.true in
    sym (measured_large _ (omega (arith, large, length-relative_record r)))

pub returns : goal.returns
returns c =
    let delta : FitsSigned w64 c.args.timestamp_delta = c.ranges.timestamp_delta in
    let offset : FitsSigned w32 c.args.offset_delta = c.ranges.offset_delta in
    let r = relative_by c.args.timestamp_delta c.args.offset_delta c.args.body.now in
    let fields : up_to_limit c.record_fields_size-fields.result ≡ up_to_limit (fields_size r) = rw (to_z-of_z, to_z-of_z) at c.record_fields_size-fields.ensures.told in
    let small : c.record_fields_size-fields.result ≡ fields_size r = told_small _ (fields_size r) fields c.if-fields-gt-SIZE_LIMIT.false in
    let widened : to_z w32 c.record_fields_size-fields.result ≡ pos (fields_size r) = omega (arith, ints, small) in
    let len : c.varint_len.result ≡ length (varint.spell (pos (fields_size r))) = c.varint_len.ensures.value ∙ ap (λ (z : ℤ). length (varint.spell z)) widened in
    c.add_sizes.ensures _ (fields_size r) (sym (measured_small c.varint_len.result (omega (arith, c.varint_len.ensures.few)))) (small ∙ sym (measured_small (fields_size r) (omega arith)))
    ∙ ap measured (omega (arith, len, length-relative_record r))
