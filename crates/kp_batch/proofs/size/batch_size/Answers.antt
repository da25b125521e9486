use Rattle.std.proofs.Common.{arith}
use Rattle.kp_batch.proofs.SizeLemmas.{small_measured}
use Rattle.kp_batch.proofs.size.batch_size.Goals as goal

pub returns-clause-fits : goal.returns-clause-fits
returns-clause-fits g c = λ le. let small = small_measured _ _ c.measure.ensures le in omega arith
