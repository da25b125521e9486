use Rattle.kp_headline.proofs.SomeMoves.{shown}
use Rattle.kp_headline.proofs.exhibits.a_batch_may_be_lost_and_repeated.Goals as goal

pub returns : goal.returns
returns c = shown
