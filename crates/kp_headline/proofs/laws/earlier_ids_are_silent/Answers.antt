use Rattle.kp_headline.proofs.LawLemmas.{silent}
use Rattle.kp_headline.proofs.laws.earlier_ids_are_silent.Goals as goal

pub returns : goal.returns
returns c = silent
