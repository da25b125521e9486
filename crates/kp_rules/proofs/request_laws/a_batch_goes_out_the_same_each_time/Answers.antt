use Rattle.kp_rules.proofs.SameBatchLemmas.{same_batch}
use Rattle.kp_rules.proofs.request_laws.a_batch_goes_out_the_same_each_time.Goals as goal

pub returns : goal.returns
returns c = same_batch
