use Rattle.kp_headline.proofs.LawLemmas.{accounted}
use Rattle.kp_headline.proofs.laws.what_was_accepted_is_accounted_for.Goals as goal

pub returns : goal.returns
returns c = accounted
