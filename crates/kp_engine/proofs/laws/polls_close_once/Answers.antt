use Rattle.kp_engine.proofs.ClosingLemmas.{polls_close}
use Rattle.kp_engine.proofs.laws.polls_close_once.Goals as goal

pub returns : goal.returns
returns g c = polls_close g.S.Stream.answers
