use Rattle.kp_engine.proofs.SinceLemmas.{away_served}
use Rattle.kp_engine.proofs.laws.a_turn_away_is_served_too.Goals as goal

pub returns : goal.returns
returns c = λ core intake calls cause x stop y h turn. away_served core intake calls x y h cause stop turn
