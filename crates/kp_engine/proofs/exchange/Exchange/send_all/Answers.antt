use Rattle.std.proofs.Common.{◌≡◌, length, vec_len, arith, rules}
use Rattle.kp_engine.proofs.SendLemmas.{all_until, everyone_sent, mails_then, next_sent, nobody_sent}
use Rattle.kp_engine.proofs.exchange.Exchange.send_all.Goals as goal

pub loop-sender-init : goal.loop-sender-init
loop-sender-init c = nobody_sent c.args.self.now

pub returns-in-Err-clause-sends : goal.returns-in-Err-clause-sends
returns-in-Err-clause-sends c = all_until c.loop-sender.sender c.args.self.now c.loop-sender.self c.send_from.new.self c.loop-sender.all c.loop-sender.invariant c.in-Err.ensures.sends c.send_from.ensures.only

pub returns-in-Err-clause-only : goal.returns-in-Err-clause-only
returns-in-Err-clause-only c = mails_then c.loop-sender.sender c.args.self.now c.loop-sender.self c.send_from.new.self c.loop-sender.invariant.only c.send_from.ensures.only

pub loop-sender-preserved : goal.loop-sender-preserved
loop-sender-preserved c =
    next_sent c.loop-sender.sender c.args.self.now c.loop-sender.self c.send_from.new.self c.loop-sender.all c.in-Ok.sent c.both-all.result c.loop-sender.invariant c.in-Ok.ensures.sends c.send_from.ensures.only c.both-all.ensures

pub returns-clause-sends : goal.returns-clause-sends
returns-clause-sends c =
    let many : vec_len c.args.self.now.items ≡ length c.args.self.now.items.items = search rules in
    let whole : c.loop-sender.sender ≡ length c.args.self.now.items.items = omega (arith, c.len-sender-end.ensures, many) in
    everyone_sent c.loop-sender.sender c.args.self.now c.loop-sender.self c.loop-sender.all whole c.loop-sender.invariant

pub returns-clause-only : goal.returns-clause-only
returns-clause-only c = c.loop-sender.invariant.only
