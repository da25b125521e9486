use Rattle.kp_engine.proofs.BegunLemmas.{since_new}
use Rattle.kp_engine.proofs.laws.what_was_taken_is_appended_or_held.Goals as goal

pub returns : goal.returns
returns c = λ core intake keeps x y calls may is_new served i near. since_new core intake keeps x may is_new i calls y served near
