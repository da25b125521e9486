use Rattle.kp_engine.proofs.FrameLemmas.{turn_goes}
use Rattle.kp_engine.proofs.laws.calls_go_over_the_connection.Goals as goal

pub returns : goal.returns
returns c = turn_goes
