use Rattle.kp_headline.proofs.LawLemmas.{items_stand}
use Rattle.kp_headline.proofs.laws.own_records_are_the_items_handed_over.Goals as goal

pub returns : goal.returns
returns c = items_stand
