use Rattle.kp_broker.proofs.AgainLemmas.{answer_elsewhere}
use Rattle.kp_broker.proofs.laws.a_request_that_comes_again_elsewhere_is_answered_alike.Goals as goal

pub returns : goal.returns
returns c = answer_elsewhere
