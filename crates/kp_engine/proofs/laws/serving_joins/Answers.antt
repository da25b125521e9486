use Rattle.kp_engine.proofs.ServedLemmas.{joined}
use Rattle.kp_engine.proofs.laws.serving_joins.Goals as goal

pub returns : goal.returns
returns c = joined
