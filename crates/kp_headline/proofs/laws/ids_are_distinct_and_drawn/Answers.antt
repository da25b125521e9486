use Rattle.kp_headline.proofs.LawLemmas.{ids_drawn}
use Rattle.kp_headline.proofs.laws.ids_are_distinct_and_drawn.Goals as goal

pub returns : goal.returns
returns c = ids_drawn
