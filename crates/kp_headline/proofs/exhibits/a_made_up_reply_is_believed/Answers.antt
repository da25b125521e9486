use Rattle.kp_headline.proofs.SomeMoves.{misled}
use Rattle.kp_headline.proofs.exhibits.a_made_up_reply_is_believed.Goals as goal

pub returns : goal.returns
returns c = misled
