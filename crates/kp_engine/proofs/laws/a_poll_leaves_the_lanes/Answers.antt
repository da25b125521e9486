use Rattle.kp_engine.proofs.LaneLemmas.{of_poll}
use Rattle.kp_engine.proofs.laws.a_poll_leaves_the_lanes.Goals as goal

pub returns : goal.returns
returns g c = of_poll g.S.Stream.answers
