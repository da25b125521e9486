use Rattle.kp_send.proofs.NearLemmas.{near}
use Rattle.kp_send.proofs.laws.a_percentile_is_near.Goals as goal

pub returns : goal.returns
returns c = near
