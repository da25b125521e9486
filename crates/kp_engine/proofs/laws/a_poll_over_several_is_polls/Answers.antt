use Rattle.kp_engine.proofs.LineLemmas.{cluster_polled}
use Rattle.kp_engine.proofs.laws.a_poll_over_several_is_polls.Goals as goal

pub returns : goal.returns
returns g c = cluster_polled g.S.Stream.answers g.S.Stream.answers g.C.Clock.moments
