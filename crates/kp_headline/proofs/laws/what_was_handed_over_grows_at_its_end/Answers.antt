use Rattle.kp_headline.proofs.LawLemmas.{grown}
use Rattle.kp_headline.proofs.laws.what_was_handed_over_grows_at_its_end.Goals as goal

pub returns : goal.returns
returns c = grown
