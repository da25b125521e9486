use Rattle.kp_engine.proofs.ClosingLemmas.{polls_serve}
use Rattle.kp_engine.proofs.laws.polls_serve.Goals as goal

pub returns : goal.returns
returns g c = polls_serve g.S.Stream.answers
