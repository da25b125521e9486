use Rattle.kp_headline.proofs.LawLemmas.{closed}
use Rattle.kp_headline.proofs.laws.nothing_is_accepted_after_close.Goals as goal

pub returns : goal.returns
returns c = closed
