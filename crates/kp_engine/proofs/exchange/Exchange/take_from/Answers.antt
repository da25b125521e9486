use Rattle.kp_engine.proofs.SideLemmas.{side_then}
use Rattle.kp_engine.proofs.TakingLemmas.{whole_part, until_flush}
use Rattle.kp_engine.proofs.exchange.Exchange.take_from.Goals as goal

pub returns-in-Ok-flush_if_asked-clause-takes : goal.returns-in-Ok-flush_if_asked-clause-takes
returns-in-Ok-flush_if_asked-clause-takes c =
    whole_part c.args.sender c.args.self.now c.append_from.new.self c.flush_if_asked.new.self c.in-Ok.found_empty c.in-Ok.ensures.appends c.in-Ok-flush_if_asked.ensures.ok c.flush_if_asked.ensures.only

pub returns-in-Ok-flush_if_asked-clause-only : goal.returns-in-Ok-flush_if_asked-clause-only
returns-in-Ok-flush_if_asked-clause-only c = side_then c.args.sender c.args.self.now c.append_from.new.self c.flush_if_asked.new.self c.append_from.ensures.only c.flush_if_asked.ensures.only

pub returns-in-Err-flush_if_asked-clause-takes : goal.returns-in-Err-flush_if_asked-clause-takes
returns-in-Err-flush_if_asked-clause-takes c =
    until_flush c.args.sender c.args.self.now c.append_from.new.self c.flush_if_asked.new.self c.in-Ok.found_empty c.in-Ok.ensures.appends c.in-Err-flush_if_asked.ensures.err.0 c.in-Err-flush_if_asked.ensures.err.1

pub returns-in-Err-flush_if_asked-clause-only : goal.returns-in-Err-flush_if_asked-clause-only
returns-in-Err-flush_if_asked-clause-only c = side_then c.args.sender c.args.self.now c.append_from.new.self c.flush_if_asked.new.self c.append_from.ensures.only c.flush_if_asked.ensures.only
