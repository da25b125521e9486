use Rattle.kp_world.proofs.LogLawLemmas.{log_is_prefix}
use Rattle.kp_world.proofs.broker_laws.the_log_is_a_prefix.Goals as goal

pub returns : goal.returns
returns c = log_is_prefix
