use Rattle.kp_world.proofs.RuledLemmas.{ruled_step}
use Rattle.kp_world.proofs.accounts.each_outcome_has_its_cause.Goals as goal

pub returns : goal.returns
returns c = ruled_step
