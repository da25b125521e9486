use Rattle.kp_engine.proofs.ClosingLemmas.{polls_close}
use Rattle.kp_polls.proofs.AroundLemmas.{places}
use Rattle.kp_polls.proofs.laws.the_core_is_closed_where_nobody_can_send.Goals as goal

pub returns : goal.returns
returns g c = λ o calls x p. polls_close g.S.Stream.answers p.first x calls (places g.S.Stream.answers o calls x p) p.polled
