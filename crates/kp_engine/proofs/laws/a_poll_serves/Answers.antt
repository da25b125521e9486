use Rattle.kp_engine.proofs.ServedLemmas.{poll_serves}
use Rattle.kp_engine.proofs.laws.a_poll_serves.Goals as goal

pub returns : goal.returns
returns g c = λ line x result y left places polls. poll_serves g.S.Stream.answers line x result y left places polls
