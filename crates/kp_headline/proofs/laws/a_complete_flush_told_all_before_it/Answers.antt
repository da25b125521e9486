use Rattle.kp_headline.proofs.LawLemmas.{flushed_all}
use Rattle.kp_headline.proofs.laws.a_complete_flush_told_all_before_it.Goals as goal

pub returns : goal.returns
returns c = flushed_all
