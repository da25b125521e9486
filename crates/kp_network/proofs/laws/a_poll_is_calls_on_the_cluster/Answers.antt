use Rattle.kp_network.proofs.NewsLemmas.{knows_runs}
use Rattle.kp_network.proofs.laws.a_poll_is_calls_on_the_cluster.Goals as goal

pub returns : goal.returns
returns g c = λ now a b news knows. knows_runs now a b news knows
