use Rattle.kp_drive.proofs.UseLemmas.{has_carried}
use Rattle.kp_drive_laws.proofs.CarryingLemmas.{carries_on}
use Rattle.kp_drive_laws.proofs.laws.open_connections_carry_frames.Goals as goal

pub returns : goal.returns
returns g c = λ first p links uses node b is.
    carries_on g.S.Stream.answers node p b (has_carried g.S.Stream.answers g.met.S.Stream.answers_nothing g.met.S.Stream.answers_in_order first p links uses node b is)
