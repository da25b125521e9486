use Rattle.std.proofs.Common.{sym, ◌∙◌}
use Rattle.kp_engine.proofs.AllLemmas.{both_true, closed_then, left_open, until_closed, until_viewed}
use Rattle.kp_engine.proofs.exchange.Exchange.take_items.Goals as goal

pub returns-in-Err-clause-takes : goal.returns-in-Err-clause-takes
returns-in-Err-clause-takes c = until_viewed c.args.self.now c.is_quiet-quiet.new.self c.take_all.new.self c.is_quiet-quiet.ensures.only c.in-Err.ensures.takes c.take_all.ensures.only

pub returns-then-not-both-clause-takes : goal.returns-then-not-both-clause-takes
returns-then-not-both-clause-takes c = left_open c.args.self.now c.is_quiet-quiet.new.self c.take_all.new.self c.is_quiet-quiet.ensures.only c.in-Ok.idle c.is_quiet-quiet.result
    (sym c.both.ensures ∙ c.if-not-both.true) c.is_quiet-quiet.ensures.loud c.in-Ok.ensures.takes c.take_all.ensures.only

pub returns-in-Ok-close-clause-takes : goal.returns-in-Ok-close-clause-takes
returns-in-Ok-close-clause-takes c =
    let yes = both_true c.is_quiet-quiet.result c.in-Ok.idle (sym c.both.ensures ∙ c.if-not-both.false) in
    let quiet = c.is_quiet-quiet.ensures.quiet yes.0 in
    closed_then c.args.self.now c.is_quiet-quiet.new.self c.take_all.new.self c.is_quiet-quiet.ensures.only c.close.new.self c.in-Ok.idle yes.1 quiet.0 quiet.1 c.in-Ok.ensures.takes c.take_all.ensures.only c.in-Ok-close.ensures.ok

pub returns-in-Err-close-clause-takes : goal.returns-in-Err-close-clause-takes
returns-in-Err-close-clause-takes c =
    until_closed c.args.self.now c.is_quiet-quiet.new.self c.take_all.new.self c.is_quiet-quiet.ensures.only c.close.new.self c.in-Ok.idle c.in-Ok.ensures.takes c.take_all.ensures.only c.in-Err-close.ensures.err.0 c.in-Err-close.ensures.err.1
