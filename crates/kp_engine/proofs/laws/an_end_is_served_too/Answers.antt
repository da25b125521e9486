use Rattle.kp_engine.proofs.SinceLemmas.{end_served}
use Rattle.kp_engine.proofs.laws.an_end_is_served_too.Goals as goal

pub returns : goal.returns
returns c = end_served
