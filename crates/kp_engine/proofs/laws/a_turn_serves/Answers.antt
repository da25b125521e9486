use Rattle.kp_engine.proofs.ServedLemmas.{turn_serves}
use Rattle.kp_engine.proofs.laws.a_turn_serves.Goals as goal

pub returns : goal.returns
returns g c = λ node now x w result y v places turns. turn_serves g.S.Stream.answers node now x w y v places result turns
