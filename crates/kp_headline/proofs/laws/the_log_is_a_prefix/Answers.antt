use Rattle.kp_headline.proofs.LawLemmas.{prefixes}
use Rattle.kp_headline.proofs.laws.the_log_is_a_prefix.Goals as goal

pub returns : goal.returns
returns c = prefixes
