use Rattle.kp_polls.proofs.ClosedLemmas.{closed_to_all, known_for_good}
use Rattle.kp_polls.proofs.laws.nothing_is_accepted_after_close.Goals as goal

pub returns : goal.returns
returns g c = record { closed = closed_to_all g.S.Stream.answers; for_good = known_for_good }
