use Rattle.kp_polls.proofs.SettledLemmas.{have_accepted}
use Rattle.kp_polls.proofs.settled.laws_are_of_all_that_was_accepted.Goals as goal

pub returns : goal.returns
returns g c = λ o calls x finished s lists p settled had. have_accepted g.S.Stream.answers o calls x finished s lists p settled had
