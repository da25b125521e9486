use Rattle.kp_cluster.proofs.IdLemmas.{run_goes_on}
use Rattle.kp_cluster.proofs.laws.slots_are_never_used_again.Goals as goal

pub returns : goal.returns
returns c = run_goes_on
