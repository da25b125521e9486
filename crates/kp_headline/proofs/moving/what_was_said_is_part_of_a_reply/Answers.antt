use Rattle.kp_headline.proofs.LawLemmas.{part_of_reply}
use Rattle.kp_headline.proofs.moving.what_was_said_is_part_of_a_reply.Goals as goal

pub returns : goal.returns
returns c = part_of_reply
