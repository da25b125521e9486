use Rattle.std.proofs.Common.{[], ◌∷◌, refl}
use Rattle.kp_rules.specs.Calls.{Tick}
use Rattle.kp_engine.proofs.AgreementLemmas.{agree_on}
use Rattle.kp_engine.proofs.RunLemmas.{runs_none, runs_one, noted_behind}
use Rattle.kp_engine.proofs.exchange.Exchange.tick.Goals as goal

pub returns-in_default-clause-err : goal.returns-in_default-clause-err
returns-in_default-clause-err c = runs_none _ _ refl c.reserve.ensures.same

pub invariant_of-self-2 : goal.invariant_of-self-2
invariant_of-self-2 c = record {
  agree = agree_on _ _ _ _ _ (Tick c.args.node c.args.now c.tick-ticked.result) c.tick-ticked.ensures c.args.self.now.agree;
  nothing_yet = c.args.self.now.nothing_yet;
  room = c.args.self.now.room;
}

pub returns-clause-ok : goal.returns-clause-ok
returns-clause-ok c = runs_one _ _ (Tick c.args.node c.args.now c.tick-ticked.result) tt c.tick-ticked.ensures (noted_behind (Tick c.args.node c.args.now c.tick-ticked.result ∷ []) _ _ _ c.add.ensures c.reserve.ensures.same)
