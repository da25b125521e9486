use Rattle.kp_drive.proofs.TurnLemmas.{turn_acts}
use Rattle.kp_drive.proofs.laws.a_turn_is_calls.Goals as goal

pub returns : goal.returns
returns g c = λ now p q ls ms t. turn_acts g.S.Stream.answers now p q ls ms t
