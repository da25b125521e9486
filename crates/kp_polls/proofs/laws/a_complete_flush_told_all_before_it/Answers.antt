use Rattle.kp_polls.proofs.AlongLemmas.{flushed}
use Rattle.kp_polls.proofs.laws.a_complete_flush_told_all_before_it.Goals as goal

pub returns : goal.returns
returns g c = flushed g.S.Stream.answers
