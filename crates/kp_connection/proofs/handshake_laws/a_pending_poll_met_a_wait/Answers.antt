use Rattle.kp_connection.proofs.IntroducingLemmas.{met_a_wait}
use Rattle.kp_connection.proofs.handshake_laws.a_pending_poll_met_a_wait.Goals as goal

pub returns : goal.returns
returns g c = λ old new w. met_a_wait g.S.Stream.answers old new w
