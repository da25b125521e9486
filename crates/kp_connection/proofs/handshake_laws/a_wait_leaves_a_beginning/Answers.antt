use Rattle.std.proofs.Common.{[]}
use Rattle.kp_connection.specs.Introducing.{fresh}
use Rattle.kp_connection.proofs.IntroducingLemmas.{speaks_to, waited_steps, waited_one}
use Rattle.kp_connection.proofs.handshake_laws.a_wait_leaves_a_beginning.Goals as goal

pub returns : goal.returns
returns g c =
    λ names stream last waited.
    let steps = waited_steps g.S.Stream.answers g.met.S.Stream.answers_nothing g.met.S.Stream.answers_in_order (fresh names stream) last waited in
    speaks_to names stream g.S.Stream.answers last.stage [] steps.xs last.wire steps.comes (waited_one g.S.Stream.answers names stream last waited)
