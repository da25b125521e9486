use Rattle.std.proofs.Common.{arith}
use Rattle.std.specs.Prelude.{FitsSigned}
use Rattle.std.specs.Int.{w16}
use Rattle.std.proofs.lemmas.Int.{to_z-of_z}
use Rattle.kp_wire.proofs.CodecLemmas.{int_exact, wide16}
use Rattle.kp_wire.proofs.string.read_string.Goals as goal

pub returns : goal.returns
returns c =
    let fits : FitsSigned w16 c.in_ok-len.len = ((int_exact w16 wide16).takes c.args.bytes.now (c.in_ok-len.len, c.in_ok-len.rest.now) (λ i. omega (arith, c.type_inv.bytes i)) c.in_ok-len.ensures).1 in
    rw c.in_ok-len.ensures (rw to_z-of_z at c.read_string_by.ensures)
