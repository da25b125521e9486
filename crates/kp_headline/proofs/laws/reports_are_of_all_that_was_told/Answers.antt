use Rattle.kp_headline.proofs.LawLemmas.{all_reported}
use Rattle.kp_headline.proofs.laws.reports_are_of_all_that_was_told.Goals as goal

pub returns : goal.returns
returns c = all_reported
