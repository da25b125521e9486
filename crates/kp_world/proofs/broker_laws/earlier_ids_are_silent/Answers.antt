use Rattle.kp_world.proofs.LogLawLemmas.{earlier_ids_are_silent}
use Rattle.kp_world.proofs.broker_laws.earlier_ids_are_silent.Goals as goal

pub returns : goal.returns
returns c = earlier_ids_are_silent
