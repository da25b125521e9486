use Rattle.kp_headline.proofs.LawLemmas.{told_once}
use Rattle.kp_headline.proofs.laws.each_item_is_told_once.Goals as goal

pub returns : goal.returns
returns c = told_once
