use Rattle.std.proofs.Common.{arith}
use Rattle.std.specs.Prelude.{FitsSigned}
use Rattle.std.specs.Int.{w32}
use Rattle.std.proofs.lemmas.Int.{to_z-of_z}
use Rattle.kp_batch.specs.Record.{bytes_or_null}
use Rattle.kp_batch.proofs.RecordLemmas.{length_fits}
use Rattle.kp_batch.proofs.fields.read_bytes_or_null.Goals as goal

pub returns : goal.returns
unfolding bytes_or_null
returns c =
    let fits : FitsSigned w32 c.in_ok-len.len = length_fits c.args.after c.args.bytes.now c.in_ok-len.len c.in_ok-len.rest.now (λ i. omega (arith, c.type_inv.bytes i)) c.in_ok-len.ensures in
    rw c.in_ok-len.ensures (rw to_z-of_z at c.read_bytes_by.ensures)
