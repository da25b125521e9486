use Rattle.kp_headline.proofs.LawLemmas.{memory}
use Rattle.kp_headline.proofs.laws.memory_is_of_what_is_not_told.Goals as goal

pub returns : goal.returns
returns c = memory
