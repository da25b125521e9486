use Rattle.kp_connection.specs.Introducing.{fresh}
use Rattle.kp_connection.proofs.HandshakeLemmas.{ends_with_then}
use Rattle.kp_connection.proofs.IntroducingLemmas.{ends_speaking, waited_steps}
use Rattle.kp_connection.proofs.handshake_laws.a_fault_leaves_a_beginning.Goals as goal

pub returns : goal.returns
returns g c =
    λ names stream last fault waited ends.
    ends_speaking names stream g.S.Stream.answers fault
    (ends_with_then g.S.Stream.answers g.met.S.Stream.answers_in_order (fresh names stream) last fault
    (waited_steps g.S.Stream.answers g.met.S.Stream.answers_nothing g.met.S.Stream.answers_in_order (fresh names stream) last waited) ends)
