use Rattle.kp_headline.proofs.LeaderMoves.{moved}
use Rattle.kp_headline.proofs.exhibits.a_leader_may_move.Goals as goal

pub returns : goal.returns
returns c = moved
