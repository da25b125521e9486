use Rattle.std.proofs.Common.{refl, sym, subst}
use Rattle.kp_engine.specs.Steps.{AppendsHeld}
use Rattle.kp_engine.proofs.TakingLemmas.{held_done, held_refused, only_one}
use Rattle.kp_engine.proofs.exchange.Exchange.append_held.Goals as goal

pub returns-in-Ok-clause-appends : goal.returns-in-Ok-clause-appends
returns-in-Ok-clause-appends c = (refl, held_done c.args.sender c.args.item c.args.self.now c.append.new.self c.requires.free c.in-Ok.ensures)

pub returns-in-Ok-clause-only : goal.returns-in-Ok-clause-only
returns-in-Ok-clause-only c = only_one c.args.sender c.args.item c.append.result c.args.self.now c.append.new.self c.append.ensures

pub returns-in-Err-clause-appends : goal.returns-in-Err-clause-appends
returns-in-Err-clause-appends c =
    subst (λ r. AppendsHeld c.args.sender c.args.item c.args.self.now r c.append.new.self) (sym c.ended_by.ensures)
    (held_refused c.args.sender c.args.item c.in-Err.fault c.args.self.now c.append.new.self c.requires.place c.in-Err.ensures)

pub returns-in-Err-clause-only : goal.returns-in-Err-clause-only
returns-in-Err-clause-only c = only_one c.args.sender c.args.item c.append.result c.args.self.now c.append.new.self c.append.ensures
