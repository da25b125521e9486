use Rattle.kp_polls.proofs.AroundLemmas.{feed_in_turn}
use Rattle.kp_polls.proofs.polling.polls_feed_the_core_in_turn.Goals as goal

pub returns : goal.returns
returns g c = feed_in_turn g.S.Stream.answers
