use Rattle.kp_log.proofs.LoopbackLemmas.{loopback_step, late_step}
use Rattle.kp_log.proofs.laws.loopback_is_a_broker.Goals as goal

pub returns-clause-offered : goal.returns-clause-offered
returns-clause-offered c = loopback_step

pub returns-clause-late : goal.returns-clause-late
returns-clause-late c = late_step
