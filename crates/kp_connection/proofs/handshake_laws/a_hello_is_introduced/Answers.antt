use Rattle.kp_connection.specs.Introducing.{fresh}
use Rattle.kp_connection.proofs.HandshakeLemmas.{concludes_then}
use Rattle.kp_connection.proofs.IntroducingLemmas.{introduces, waited_steps}
use Rattle.kp_connection.proofs.handshake_laws.a_hello_is_introduced.Goals as goal

pub returns : goal.returns
returns g c =
    λ names stream back last hello waited ends.
    introduces names stream g.S.Stream.answers hello back
    (concludes_then g.S.Stream.answers g.met.S.Stream.answers_in_order (fresh names stream) last hello back
    (waited_steps g.S.Stream.answers g.met.S.Stream.answers_nothing g.met.S.Stream.answers_in_order (fresh names stream) last waited) ends)
