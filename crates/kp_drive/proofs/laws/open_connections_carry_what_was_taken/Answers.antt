use Rattle.kp_drive.proofs.UseLemmas.{has_carried}
use Rattle.kp_drive.proofs.laws.open_connections_carry_what_was_taken.Goals as goal

pub returns : goal.returns
returns g c = λ first p links uses node b is.
    has_carried g.S.Stream.answers g.met.S.Stream.answers_nothing g.met.S.Stream.answers_in_order first p links uses node b is
