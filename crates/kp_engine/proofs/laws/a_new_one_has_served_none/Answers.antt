use Rattle.kp_engine.proofs.SinceLemmas.{none_served}
use Rattle.kp_engine.proofs.laws.a_new_one_has_served_none.Goals as goal

pub returns : goal.returns
returns c = none_served
