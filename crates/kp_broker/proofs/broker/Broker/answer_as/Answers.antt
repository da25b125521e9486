use Rattle.kp_broker.proofs.AnswerLemmas.{answered_as}
use Rattle.kp_broker.proofs.broker.Broker.answer_as.Goals as goal

pub returns : goal.returns
returns c =
    answered_as (λ bytes. bytes.items) c.args.node c.args.content.now c.args.self.now _ c.in_ok-request.request c.respond.result c.respond.new.self
    c.respond.ensures (assumption c) c.in_ok-request.ensures.exact
