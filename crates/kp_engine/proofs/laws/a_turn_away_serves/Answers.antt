use Rattle.kp_engine.proofs.ServedLemmas.{away_serves}
use Rattle.kp_engine.proofs.laws.a_turn_away_serves.Goals as goal

pub returns : goal.returns
returns c = away_serves
