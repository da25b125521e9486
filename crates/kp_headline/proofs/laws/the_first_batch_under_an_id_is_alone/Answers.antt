use Rattle.kp_headline.proofs.LawLemmas.{alone}
use Rattle.kp_headline.proofs.laws.the_first_batch_under_an_id_is_alone.Goals as goal

pub returns : goal.returns
returns c = alone
