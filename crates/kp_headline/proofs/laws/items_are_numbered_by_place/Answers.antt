use Rattle.kp_headline.proofs.LawLemmas.{placed}
use Rattle.kp_headline.proofs.laws.items_are_numbered_by_place.Goals as goal

pub returns : goal.returns
returns c = placed
