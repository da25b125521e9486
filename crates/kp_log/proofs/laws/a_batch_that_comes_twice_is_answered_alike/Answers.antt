use Rattle.kp_log.proofs.RuleLemmas.{answered_alike}
use Rattle.kp_log.proofs.laws.a_batch_that_comes_twice_is_answered_alike.Goals as goal

pub returns : goal.returns
returns c = answered_alike
