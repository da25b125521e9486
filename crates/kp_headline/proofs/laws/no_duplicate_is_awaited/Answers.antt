use Rattle.kp_headline.proofs.LawLemmas.{no_duplicate}
use Rattle.kp_headline.proofs.laws.no_duplicate_is_awaited.Goals as goal

pub returns : goal.returns
returns c = no_duplicate
