use Rattle.kp_engine.proofs.ClosingLemmas.{polls_then}
use Rattle.kp_engine.proofs.laws.polls_join.Goals as goal

pub returns : goal.returns
returns g c = polls_then g.S.Stream.answers
