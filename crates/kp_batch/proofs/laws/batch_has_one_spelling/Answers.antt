use Rattle.kp_batch.proofs.BatchLemmas.{one_spelling}
use Rattle.kp_batch.proofs.laws.batch_has_one_spelling.Goals as goal

pub returns : goal.returns
returns c = one_spelling
