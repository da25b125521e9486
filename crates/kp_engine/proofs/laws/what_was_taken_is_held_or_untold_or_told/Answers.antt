use Rattle.kp_engine.proofs.BegunLemmas.{taken_is}
use Rattle.kp_engine.proofs.laws.what_was_taken_is_held_or_untold_or_told.Goals as goal

pub returns : goal.returns
returns c = λ core intake calls y h i near f. taken_is core intake calls y h i near f
