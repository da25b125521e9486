use Rattle.std.proofs.Common.{arith}
use Rattle.std.specs.Prelude.{FitsSigned}
use Rattle.std.specs.Int.{w32}
use Rattle.std.proofs.lemmas.Int.{to_z-of_z}
use Rattle.kp_wire.specs.Fields.{records}
use Rattle.kp_wire.proofs.CodecLemmas.{int_exact, wide32}
use Rattle.kp_wire.proofs.records.read_records.Goals as goal

pub returns : goal.returns
unfolding records
returns c =
    let fits : FitsSigned w32 c.in_ok-len.len = ((int_exact w32 wide32).takes c.args.bytes.now (c.in_ok-len.len, c.in_ok-len.rest.now) (λ i. omega (arith, c.type_inv.bytes i)) c.in_ok-len.ensures).1 in
    rw c.in_ok-len.ensures (rw to_z-of_z at c.read_blob_by.ensures)
