use Rattle.kp_broker.proofs.broker.Broker.serve.Goals as goal

pub returns : goal.returns
returns g c = c.serve_as.ensures
