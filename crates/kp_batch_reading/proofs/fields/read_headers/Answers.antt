use Rattle.std.proofs.Common.{arith}
use Rattle.std.specs.Prelude.{FitsSigned}
use Rattle.std.specs.Int.{w32}
use Rattle.std.proofs.lemmas.Int.{to_z-of_z}
use Rattle.kp_batch.specs.Record.{headers}
use Rattle.kp_batch.proofs.RecordLemmas.{length_fits}
use Rattle.kp_batch_reading.proofs.fields.read_headers.Goals as goal

pub returns : goal.returns
unfolding headers
returns c =
    let fits : FitsSigned w32 c.in_ok-count.count = length_fits c.args.after c.args.bytes.now c.in_ok-count.count c.in_ok-count.rest.now (λ i. omega (arith, c.type_inv.bytes i)) c.in_ok-count.ensures in
    rw c.in_ok-count.ensures (rw to_z-of_z at c.read_headers_by.ensures)
