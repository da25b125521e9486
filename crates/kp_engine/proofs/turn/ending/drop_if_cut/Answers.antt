use Rattle.std.proofs.Common.{refl}
use Rattle.kp_engine.proofs.EndingLemmas.{drops_none}
use Rattle.kp_engine.proofs.RunLemmas.{runs_none}
use Rattle.kp_engine.proofs.turn.ending.drop_if_cut.Goals as goal

pub returns-in-None-clause-ok : goal.returns-in-None-clause-ok
returns-in-None-clause-ok c = drops_none c.args.node c.args.now c.args.cut c.args.exchange.now c.in-None.is (runs_none _ _ refl refl)
