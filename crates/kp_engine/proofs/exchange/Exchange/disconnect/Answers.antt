use Rattle.std.proofs.Common.{[], ◌∷◌, refl}
use Rattle.kp_rules.specs.Calls.{Disconnect}
use Rattle.kp_engine.proofs.AgreementLemmas.{agree_on}
use Rattle.kp_engine.proofs.RunLemmas.{runs_none, runs_one, noted_behind}
use Rattle.kp_engine.proofs.exchange.Exchange.disconnect.Goals as goal

pub returns-in_default-clause-err : goal.returns-in_default-clause-err
returns-in_default-clause-err c = runs_none _ _ refl c.reserve.ensures.same

pub invariant_of-self-2 : goal.invariant_of-self-2
invariant_of-self-2 c = record {
  agree = agree_on _ _ _ _ _ (Disconnect c.args.node c.args.now) c.on_disconnect.ensures c.args.self.now.agree;
  nothing_yet = c.args.self.now.nothing_yet;
  room = c.args.self.now.room;
}

pub returns-clause-ok : goal.returns-clause-ok
returns-clause-ok c = runs_one _ _ (Disconnect c.args.node c.args.now) tt c.on_disconnect.ensures (noted_behind (Disconnect c.args.node c.args.now ∷ []) _ _ _ c.add.ensures c.reserve.ensures.same)
