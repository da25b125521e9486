use Rattle.kp_broker.proofs.AgainLemmas.{answer_alike, broker_again}
use Rattle.kp_broker.proofs.laws.a_request_that_comes_again_is_answered_alike.Goals as goal

pub returns-clause-answer : goal.returns-clause-answer
returns-clause-answer c = answer_alike

pub returns-clause-broker : goal.returns-clause-broker
returns-clause-broker c = broker_again
