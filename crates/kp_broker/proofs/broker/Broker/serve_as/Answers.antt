use Rattle.kp_broker.proofs.ServedLemmas.{not-begun}
use Rattle.kp_broker.proofs.broker.Broker.serve_as.Goals as goal

pub returns-in_err-piece : goal.returns-in_err-piece
returns-in_err-piece g c =
    not-begun g.C.Connection.answers g.met.C.Connection.answers_nothing c.args.node c.args.plan.now c.args.self.now c.args.connection.now c.from_residual.result c.from_residual.ensures.1

pub returns : goal.returns
returns g c = c.serve_pieces.ensures
