use Rattle.std.proofs.Common.{subst}
use Rattle.std.specs.Prelude.{Result}
use Rattle.std.specs.declared.io.Error.{Error}
use Rattle.futures.specs.declared.task.Poll.TheVariants.{Ready}
use Rattle.kp_connection.specs.Wire.{Writes}
use Rattle.kp_connection.proofs.ListeningLemmas.{listens_behind, write_waits, write_fails}
use Rattle.kp_connection.proofs.handshake.listening.poll_answer.Goals as goal

pub returns-in-Pending-clause-listens : goal.returns-in-Pending-clause-listens
returns-in-Pending-clause-listens g c = write_waits g.S.Stream.answers c.args.wire.now c.poll_write.new.self c.in-Pending.ensures.writes c.requires

pub returns-in-Ready-Err-clause-listens : goal.returns-in-Ready-Err-clause-listens
returns-in-Ready-Err-clause-listens g c =
    let w = subst (λ (r : Result (Unit {0}) Error). Writes g.S.Stream.answers c.args.wire.now (Ready r) c.poll_write.new.self) c.in-Ready-Err.field-0-is c.in-Ready-Err.ensures.writes in
    write_fails g.S.Stream.answers c.args.wire.now c.poll_write.new.self c.in-Ready-Err.field-0-0 w c.requires

pub returns-clause-listens : goal.returns-clause-listens
returns-clause-listens g c =
    let w = subst (λ (r : Result (Unit {0}) Error). Writes g.S.Stream.answers c.args.wire.now (Ready r) c.poll_write.new.self) c.in-Ready-Ok.field-0-is c.in-Ready-Ok.ensures.writes in
    listens_behind g.S.Stream.answers g.met.S.Stream.answers_in_order c.args.wire.now c.poll_write.new.self c.poll_content.new.wire (w.xs, w.goes) c.poll_content.result c.poll_content.ensures.listens
