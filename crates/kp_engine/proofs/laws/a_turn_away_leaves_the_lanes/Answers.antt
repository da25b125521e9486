use Rattle.kp_engine.proofs.LaneLemmas.{of_turn_away}
use Rattle.kp_engine.proofs.laws.a_turn_away_leaves_the_lanes.Goals as goal

pub returns : goal.returns
returns c = of_turn_away
