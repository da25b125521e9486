use Rattle.kp_polls.proofs.AroundLemmas.{alone}
use Rattle.kp_polls.proofs.polling.polls_may_stand_alone.Goals as goal

pub returns : goal.returns
returns g c = alone g.S.Stream.answers
