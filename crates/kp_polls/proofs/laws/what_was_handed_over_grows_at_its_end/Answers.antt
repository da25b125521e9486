use Rattle.kp_polls.proofs.AlongLemmas.{grows}
use Rattle.kp_polls.proofs.laws.what_was_handed_over_grows_at_its_end.Goals as goal

pub returns : goal.returns
returns g c = grows g.S.Stream.answers
