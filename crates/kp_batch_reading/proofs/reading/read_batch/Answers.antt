use Rattle.std.proofs.Common.{arith}
use Rattle.kp_batch.proofs.BatchLemmas.{found, only}
use Rattle.kp_batch_reading.proofs.reading.read_batch.Goals as goal

pub returns-clause-found : goal.returns-clause-found
returns-clause-found c = found c.args.bytes.now c.read_whole.result (λ i. omega (arith, c.type_inv.bytes i)) c.read_whole.ensures

pub returns-clause-only : goal.returns-clause-only
returns-clause-only c = λ b p. only c.args.bytes.now c.read_whole.result b c.read_whole.ensures p
