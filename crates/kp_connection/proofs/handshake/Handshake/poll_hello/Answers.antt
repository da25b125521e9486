use Rattle.std.proofs.Common.{sym, ◌∙◌}
use Rattle.kp_connection.proofs.handshake.Handshake.poll_hello.Goals as goal

pub poll_hello-requires : goal.poll_hello-requires
poll_hello-requires g c = c.self.invariant c.unwrap-talk.result (sym c.take.ensures.value ∙ c.unwrap-talk.ensures)
