use Rattle.kp_rules.specs.Calls.{End}
use Rattle.kp_engine.proofs.AgreementLemmas.{agree_on}
use Rattle.kp_engine.proofs.exchange.Exchange.end.Goals as goal

pub invariant_of-self : goal.invariant_of-self
invariant_of-self c = record {
  agree = agree_on _ _ _ _ _ (End c.end.result) c.end.ensures c.args.self.now.agree;
  nothing_yet = c.args.self.now.nothing_yet;
  room = c.args.self.now.room;
}
