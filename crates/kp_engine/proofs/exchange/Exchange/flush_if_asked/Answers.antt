use Rattle.std.proofs.Common.{◌<◌, [], ◌∷◌, length, true, false, refl, sym, ◌∙◌, arith}
use Rattle.kp_lanes.specs.Intake.{lanes_of}
use Rattle.kp_rules.specs.Calls.{Flush}
use Rattle.kp_engine.proofs.AgreementLemmas.{agree_on, agree_taken}
use Rattle.kp_engine.proofs.RunLemmas.{runs_none, runs_one, noted_behind}
use Rattle.kp_engine.proofs.TakingLemmas.{flushed, only_asked}
use Rattle.kp_engine.proofs.exchange.Exchange.flush_if_asked.Goals as goal

pub returns-in_default-clause-err : goal.returns-in_default-clause-err
returns-in_default-clause-err c = (runs_none _ _ refl c.reserve.ensures.same, record { intake = refl; items = refl; reports = refl; closed = refl })

pub returns-then-not-asked-clause-ok : goal.returns-then-not-asked-clause-ok
returns-then-not-asked-clause-ok c =
    let near : c.args.sender < length (lanes_of c.args.self.now.intake) = omega (arith, c.requires, c.args.self.now.agree.lanes) in
    flushed c.args.sender c.args.self.now _ false near (sym c.if-not-asked.true ∙ c.asked.ensures.answer) (runs_none c.args.self.now _ refl c.reserve.ensures.same)
    c.asked.ensures.same.1 c.asked.ensures.since refl

pub returns-then-not-asked-clause-only : goal.returns-then-not-asked-clause-only
returns-then-not-asked-clause-only c = only_asked c.args.sender c.args.self.now _ c.asked.ensures.same.0 c.asked.ensures.same.1 c.asked.ensures.same.2 c.asked.ensures.since refl refl refl

pub invariant_of-self-2 : goal.invariant_of-self-2
invariant_of-self-2 c = record {
  agree = agree_on _ _ _ _ _ Flush c.flush.ensures
      (agree_taken c.args.self.now.core c.args.self.now.intake c.asked.new.self c.args.self.now.items.items c.args.self.now.reports.items c.asked.ensures.same.0.lanes c.asked.ensures.same.0.limits c.args.self.now.agree);
  nothing_yet = c.args.self.now.nothing_yet;
  room = c.args.self.now.room;
}

pub returns-clause-ok : goal.returns-clause-ok
returns-clause-ok c =
    let near : c.args.sender < length (lanes_of c.args.self.now.intake) = omega (arith, c.requires, c.args.self.now.agree.lanes) in
    flushed c.args.sender c.args.self.now _ true near (sym c.if-not-asked.false ∙ c.asked.ensures.answer)
    (runs_one c.args.self.now _ Flush tt c.flush.ensures (noted_behind (Flush ∷ []) _ _ _ c.add.ensures c.reserve.ensures.same))
    c.asked.ensures.same.1 c.asked.ensures.since refl

pub returns-clause-only : goal.returns-clause-only
returns-clause-only c = only_asked c.args.sender c.args.self.now _ c.asked.ensures.same.0 c.asked.ensures.same.1 c.asked.ensures.same.2 c.asked.ensures.since refl refl refl
