use Rattle.kp_broker.proofs.ReplyLemmas.{repeat-failed, repeat-second}
use Rattle.kp_broker.proofs.broker.Broker.reply_to_repeat.Goals as goal

pub returns-in_err-respond : goal.returns-in_err-respond
returns-in_err-respond c =
    repeat-failed c.args.node c.args.request.now c.args.self.now c.respond.new.self c.in_err-respond.field-0.0
    c.from_residual.result c.from_residual.ensures.1 c.in_err-respond.ensures

pub returns : goal.returns
returns c =
    repeat-second c.args.node c.args.request.now c.args.self.now c.respond.new.self c.reply.new.self c.in_ok-respond.field-0
    c.reply.result c.in_ok-respond.ensures c.reply.ensures
