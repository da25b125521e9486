use Rattle.kp_polls.proofs.AroundLemmas.{reported}
use Rattle.kp_polls.proofs.laws.reports_are_of_all_that_was_told.Goals as goal

pub returns : goal.returns
returns g c = reported g.S.Stream.answers
