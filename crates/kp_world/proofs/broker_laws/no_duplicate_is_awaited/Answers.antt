use Rattle.kp_world.proofs.LogLawLemmas.{no_duplicate_is_awaited}
use Rattle.kp_world.proofs.broker_laws.no_duplicate_is_awaited.Goals as goal

pub returns : goal.returns
returns c = no_duplicate_is_awaited
