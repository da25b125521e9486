use Rattle.kp_polls.proofs.SettledLemmas.{accepted_is}
use Rattle.kp_polls.proofs.settled.what_was_accepted_was_taken_or_is_left.Goals as goal

pub returns : goal.returns
returns g c = λ o calls x finished s lists p settled had. accepted_is g.S.Stream.answers o calls x finished s lists p settled had
