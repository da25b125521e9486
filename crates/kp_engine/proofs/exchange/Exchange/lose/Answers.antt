use Rattle.kp_rules.specs.Calls.{Disconnect}
use Rattle.kp_engine.proofs.AgreementLemmas.{agree_on}
use Rattle.kp_engine.proofs.exchange.Exchange.lose.Goals as goal

pub invariant_of-self : goal.invariant_of-self
invariant_of-self c = record {
  agree = agree_on _ _ _ _ _ (Disconnect c.args.node c.args.now) c.on_disconnect.ensures c.args.self.now.agree;
  nothing_yet = c.args.self.now.nothing_yet;
  room = c.args.self.now.room;
}
