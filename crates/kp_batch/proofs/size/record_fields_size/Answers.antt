use Rattle.std.proofs.Common.{arith}
use Rattle.std.specs.Prelude.{FitsSigned}
use Rattle.std.specs.Int.{w32, w64}
use Rattle.std.proofs.lemmas.Int.{to_z-of_z}
use Rattle.kp_batch.specs.Spelling.{relative_by}
use Rattle.kp_batch.proofs.SizeLemmas.{fields_size-parts, fields_fit}
use Rattle.kp_batch.proofs.size.record_fields_size.Goals as goal

pub returns-clause-told : goal.returns-clause-told
returns-clause-told c =
    let delta : FitsSigned w64 c.args.timestamp_delta = c.ranges.timestamp_delta in
    let offset : FitsSigned w32 c.args.offset_delta = c.ranges.offset_delta in
    let t = rw to_z-of_z at c.varlong_len.ensures.value in
    let i = rw to_z-of_z at c.varint_len.ensures.value in
    let h = rw c.as_slice.ensures at c.headers_size.ensures.told in
    omega (arith, t, i, h, c.nullable_size.ensures.told, c.nullable_size-2.ensures.told, fields_size-parts (relative_by c.args.timestamp_delta c.args.offset_delta c.args.body.now))

pub returns-clause-fits : goal.returns-clause-fits
returns-clause-fits c = λ small.
    let delta : FitsSigned w64 c.args.timestamp_delta = c.ranges.timestamp_delta in
    let offset : FitsSigned w32 c.args.offset_delta = c.ranges.offset_delta in
    let r = relative_by c.args.timestamp_delta c.args.offset_delta c.args.body.now in
    let t = rw to_z-of_z at c.varlong_len.ensures.value in
    let i = rw to_z-of_z at c.varint_len.ensures.value in
    let h = rw c.as_slice.ensures at c.headers_size.ensures.told in
    let headers_fit = rw c.as_slice.ensures at (c.headers_size.ensures.fits (omega (arith, small))) in
    fields_fit r delta offset headers_fit (omega (arith, small, t, i, h, c.nullable_size.ensures.told, c.nullable_size-2.ensures.told, fields_size-parts r))
