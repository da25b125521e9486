use Rattle.kp_cluster.proofs.IdLemmas.{run_is_distinct}
use Rattle.kp_cluster.proofs.laws.no_broker_has_two_slots.Goals as goal

pub returns : goal.returns
returns c = run_is_distinct
