use Rattle.kp_broker.proofs.broker.Broker.answer.Goals as goal

pub returns : goal.returns
returns c = c.answer_as.ensures
