use Rattle.std.proofs.Common.{sym, ◌∙◌}
use Rattle.kp_engine.proofs.SideLemmas.{of_item, side_then}
use Rattle.kp_engine.proofs.TakingLemmas.{from_held, from_none}
use Rattle.kp_engine.proofs.exchange.Exchange.append_from.Goals as goal

pub returns-in-None-clause-appends : goal.returns-in-None-clause-appends
returns-in-None-clause-appends c =
    from_none c.args.sender c.args.self.now c.take_held.new.self c.append_taken.new.self c.append_taken.result (sym c.take_held.ensures.held ∙ c.in-None.is) c.take_held.ensures.now c.append_taken.ensures.appends

pub returns-in-None-clause-only : goal.returns-in-None-clause-only
returns-in-None-clause-only c =
    side_then c.args.sender c.args.self.now c.take_held.new.self c.append_taken.new.self (of_item c.args.sender c.args.self.now c.take_held.new.self _ c.take_held.ensures.now.only) c.append_taken.ensures.only

pub returns-in-Some-clause-appends : goal.returns-in-Some-clause-appends
returns-in-Some-clause-appends c =
    from_held c.args.sender c.in-Some.item c.args.self.now c.take_held.new.self c.append_held.new.self c.requires (sym c.take_held.ensures.held ∙ c.in-Some.is) c.take_held.ensures.now c.in-Some.ensures.its c.append_held.result c.append_held.ensures.appends

pub returns-in-Some-clause-only : goal.returns-in-Some-clause-only
returns-in-Some-clause-only c =
    side_then c.args.sender c.args.self.now c.take_held.new.self c.append_held.new.self (of_item c.args.sender c.args.self.now c.take_held.new.self _ c.take_held.ensures.now.only) c.append_held.ensures.only
