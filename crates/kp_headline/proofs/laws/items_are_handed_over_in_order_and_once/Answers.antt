use Rattle.kp_headline.proofs.LawLemmas.{ordered}
use Rattle.kp_headline.proofs.laws.items_are_handed_over_in_order_and_once.Goals as goal

pub returns : goal.returns
returns c = ordered
