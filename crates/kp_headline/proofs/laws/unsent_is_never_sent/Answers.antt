use Rattle.kp_headline.proofs.LawLemmas.{never_sent}
use Rattle.kp_headline.proofs.laws.unsent_is_never_sent.Goals as goal

pub returns : goal.returns
returns c = never_sent
