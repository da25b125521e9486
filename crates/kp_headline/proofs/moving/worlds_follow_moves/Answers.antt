use Rattle.kp_headline.proofs.MoveLemmas.{all_moved}
use Rattle.kp_headline.proofs.moving.worlds_follow_moves.Goals as goal

pub returns : goal.returns
returns c = all_moved
