use Rattle.std.proofs.Common.{[], ◌∷◌, refl}
use Rattle.kp_rules.specs.Calls.{Close}
use Rattle.kp_engine.proofs.AgreementLemmas.{agree_on}
use Rattle.kp_engine.proofs.RunLemmas.{runs_none, runs_one, noted_behind}
use Rattle.kp_engine.proofs.exchange.Exchange.close.Goals as goal

pub returns-in_default-clause-err : goal.returns-in_default-clause-err
returns-in_default-clause-err c = (runs_none _ _ refl c.reserve.ensures.same, record { intake = refl; items = refl; reports = refl; closed = refl })

pub invariant_of-self-2 : goal.invariant_of-self-2
invariant_of-self-2 c = record {
  agree = agree_on _ _ _ _ _ Close c.close.ensures c.args.self.now.agree;
  nothing_yet = c.args.self.now.nothing_yet;
  room = c.args.self.now.room;
}

pub returns-clause-ok : goal.returns-clause-ok
returns-clause-ok c = record {
  runs = runs_one c.args.self.now _ Close tt c.close.ensures (noted_behind (Close ∷ []) _ _ _ c.add.ensures c.reserve.ensures.same);
  closed = refl;
  intake = refl;
  items = refl;
  reports = refl;
}
