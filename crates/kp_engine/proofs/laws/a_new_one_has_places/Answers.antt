use Rattle.kp_engine.proofs.BegunLemmas.{new_places}
use Rattle.kp_engine.proofs.laws.a_new_one_has_places.Goals as goal

pub returns : goal.returns
returns c = new_places
