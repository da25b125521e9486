use Rattle.kp_engine.proofs.OpeningLemmas.{may_turn}
use Rattle.kp_engine.proofs.laws.an_engine_may_be_made.Goals as goal

pub returns : goal.returns
returns c = may_turn
