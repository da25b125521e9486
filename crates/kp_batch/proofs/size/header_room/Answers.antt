use Rattle.std.proofs.Common.{length, pos, arith}
use Rattle.kp_batch.proofs.SizeLemmas.{length-header, varint_few}
use Rattle.kp_batch.proofs.size.header_room.Goals as goal

pub returns : goal.returns
returns c =
    let h = c.args.h.now in
    omega (arith, length-header h, varint_few (pos (length h.key)), c.len.ensures, c.len_of.ensures, c.saturating_add.ensures, c.saturating_add-2.ensures)
