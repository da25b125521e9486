use Rattle.kp_engine.proofs.SinceLemmas.{poll_served}
use Rattle.kp_engine.proofs.laws.a_poll_is_served_too.Goals as goal

pub returns : goal.returns
returns g c = λ core intake calls line x result y left h polls. poll_served core intake calls x y h g.S.Stream.answers line result left polls
