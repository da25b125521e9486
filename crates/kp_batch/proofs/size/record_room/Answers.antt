use Rattle.std.proofs.Common.{pos, arith}
use Rattle.kp_batch.specs.Record.{fields_size}
use Rattle.kp_batch.specs.Spelling.{relative_by}
use Rattle.kp_batch.proofs.SizeLemmas.{length-relative_record, fields_size-parts, varint_few, varlong_few}
use Rattle.kp_batch.proofs.size.record_room.Goals as goal

pub returns : goal.returns
returns c = λ timestamp_delta offset_delta.
    let r = relative_by timestamp_delta offset_delta c.args.body.now in
    let h = rw c.as_slice.ensures at c.headers_room.ensures in
    omega (arith, h, length-relative_record r, fields_size-parts r, varint_few (pos (fields_size r)), varlong_few timestamp_delta, varint_few offset_delta, c.len_of.ensures, c.len_of-2.ensures, c.saturating_add.ensures, c.saturating_add-2.ensures, c.saturating_add-3.ensures)
