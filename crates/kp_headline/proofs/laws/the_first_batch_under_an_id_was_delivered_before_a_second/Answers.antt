use Rattle.kp_headline.proofs.LawLemmas.{delivered_first}
use Rattle.kp_headline.proofs.laws.the_first_batch_under_an_id_was_delivered_before_a_second.Goals as goal

pub returns : goal.returns
returns c = delivered_first
