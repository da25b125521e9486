use Rattle.std.proofs.Common.{arith}
use Rattle.kp_wire.specs.Fields.{spell_array, FitsArray}
use Rattle.kp_wire.proofs.array.size_of_array.Goals as goal

pub returns : goal.returns
unfolding spell_array FitsArray
returns g c =
    let part = rw c.as_slice.ensures at c.in_ok-sizes_of.ensures in
    ((omega (arith, c.len.ensures, c.if-len-gt-COUNT_LIMIT.false), part.0), omega (arith, part.1, c.add_sizes.ensures))
