use Rattle.std.specs.Prelude.{FitsSigned}
use Rattle.std.specs.Int.{w32, w64}
use Rattle.std.proofs.lemmas.Int.{to_z-of_z}
use Rattle.kp_batch.specs.Spelling.{relative_by}
use Rattle.kp_batch.proofs.WritingLemmas.{fields_spelled}
use Rattle.kp_batch.proofs.writing.put_fields.Goals as goal

pub returns : goal.returns
returns c =
    let delta : FitsSigned w64 c.args.timestamp_delta = c.ranges.timestamp_delta in
    let offset : FitsSigned w32 c.args.offset_delta = c.ranges.offset_delta in
    let r = relative_by c.args.timestamp_delta c.args.offset_delta c.args.body.now in
    let t = rw to_z-of_z at c.in_ok-put_varlong.ensures.ok in
    let i = rw to_z-of_z at c.in_ok-put_varint.ensures.ok in
    let h = rw c.as_slice.ensures at c.in_ok-put_headers.ensures in
    fields_spelled r c.args.out.now.items _ _ _ _ _ _ c.in_ok-push.ensures.items t i c.in_ok-put_nullable.ensures c.in_ok-put_nullable-2.ensures h
