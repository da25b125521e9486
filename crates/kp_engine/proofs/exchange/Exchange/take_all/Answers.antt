use Rattle.std.proofs.Common.{◌≡◌, length, vec_len, arith, rules}
use Rattle.kp_engine.proofs.AllLemmas.{all_taken, next_taken, nobody_taken, sides_then, until_taken}
use Rattle.kp_engine.proofs.exchange.Exchange.take_all.Goals as goal

pub loop-sender-init : goal.loop-sender-init
loop-sender-init c = nobody_taken c.args.self.now

pub returns-in-Err-clause-takes : goal.returns-in-Err-clause-takes
returns-in-Err-clause-takes c = until_taken c.loop-sender.sender c.args.self.now c.loop-sender.self c.take_from.new.self c.loop-sender.idle c.loop-sender.invariant c.in-Err.ensures.takes c.take_from.ensures.only

pub returns-in-Err-clause-only : goal.returns-in-Err-clause-only
returns-in-Err-clause-only c = sides_then c.loop-sender.sender c.args.self.now c.loop-sender.self c.take_from.new.self c.loop-sender.invariant.only c.take_from.ensures.only

pub loop-sender-preserved : goal.loop-sender-preserved
loop-sender-preserved c =
    next_taken c.loop-sender.sender c.args.self.now c.loop-sender.self c.take_from.new.self c.loop-sender.idle c.in-Ok.found_empty c.both-idle.result c.loop-sender.invariant c.in-Ok.ensures.takes c.take_from.ensures.only c.both-idle.ensures

pub returns-clause-takes : goal.returns-clause-takes
returns-clause-takes c =
    let many : vec_len c.args.self.now.items ≡ length c.args.self.now.items.items = search rules in
    let whole : c.loop-sender.sender ≡ length c.args.self.now.items.items = omega (arith, c.len-sender-end.ensures, many) in
    all_taken c.loop-sender.sender c.args.self.now c.loop-sender.self c.loop-sender.idle whole c.loop-sender.invariant
