use Rattle.kp_broker.proofs.AnswerLemmas.{replied_as}
use Rattle.kp_broker.proofs.broker.Broker.handle.Goals as goal

pub returns : goal.returns
returns c =
    replied_as c.args.node c.args.plan.now c.args.content.now c.args.self.now _ c.in_ok-request.request c.planned-action.result c.act.result c.act.new.self
    c.act.ensures c.planned-action.ensures (assumption c) c.in_ok-request.ensures.exact
