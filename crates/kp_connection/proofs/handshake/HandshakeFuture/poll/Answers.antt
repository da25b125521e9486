use Rattle.kp_connection.proofs.TalkLemmas.{same_behind}
use Rattle.kp_connection.proofs.handshake.HandshakeFuture.poll.Goals as goal

pub returns-clause-same : goal.returns-clause-same
returns-clause-same g c =
    same_behind g.S.Stream.answers g.met.S.Stream.answers_in_order c.poll_hello.result c.args.self.now c.poll_hello.new.self c.poll_hello.ensures.pending c.poll_hello.ensures.again
