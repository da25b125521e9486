use Rattle.std.proofs.Common.{sym, subst}
use Rattle.kp_drive.specs.Flow.{ByFlow}
use Rattle.kp_drive.specs.Serving.{Serves, Stops}
use Rattle.kp_drive.specs.declared.flow.Flow.{Flow}
use Rattle.kp_drive.proofs.ServeLemmas.{by_moved, serves_by, serves_then, stops_here}
use Rattle.kp_drive.proofs.pipe.Pipe.poll_serve.Goals as goal

pub returns-in-Idle-clause-serves : goal.returns-in-Idle-clause-serves
returns-in-Idle-clause-serves g c =
    let a = c.args.self.now in
    let p = c.args.embed.now in
    let q = c.refill.new.embed in
    let written = serves_then g.S.Stream.answers g.met.S.Stream.answers_in_order c.args.node c.args.now p q q a c.refill.new.self c.poll_write.new.self c.refill.ensures
    (c.poll_write.ensures.serves c.args.node c.args.now q) in
    serves_by g.S.Stream.answers g.met.S.Stream.answers_in_order c.args.node c.args.now p q c.poll_read.new.embed a c.poll_write.new.self c.poll_read.new.self c.poll_read.result written c.poll_read.ensures.serves

pub returns-in-Moved-clause-serves : goal.returns-in-Moved-clause-serves
returns-in-Moved-clause-serves g c =
    let a = c.args.self.now in
    let p = c.args.embed.now in
    let q = c.refill.new.embed in
    let r = c.poll_read-in-Moved.new.embed in
    let d = c.poll_read-in-Moved.new.self in
    let written = serves_then g.S.Stream.answers g.met.S.Stream.answers_in_order c.args.node c.args.now p q q a c.refill.new.self c.poll_write.new.self c.refill.ensures
    (c.poll_write.ensures.serves c.args.node c.args.now q) in
    subst (λ (flow : Flow). ByFlow flow (Serves g.S.Stream.answers c.args.node c.args.now p a r d) (Stops g.S.Stream.answers c.args.node c.args.now p a r)) (sym c.moved.ensures)
    (by_moved (Serves g.S.Stream.answers c.args.node c.args.now p a r d) (Stops g.S.Stream.answers c.args.node c.args.now p a r) c.poll_read-in-Moved.result
    (serves_by g.S.Stream.answers g.met.S.Stream.answers_in_order c.args.node c.args.now p q r a c.poll_write.new.self d c.poll_read-in-Moved.result written c.poll_read-in-Moved.ensures.serves))

pub returns-then-is_err-clause-serves : goal.returns-then-is_err-clause-serves
returns-then-is_err-clause-serves g c = stops_here g.S.Stream.answers c.args.node c.args.now c.args.embed.now c.refill.new.embed c.args.self.now c.refill.new.self c.refill.ensures

pub returns-in-Ended-clause-serves : goal.returns-in-Ended-clause-serves
returns-in-Ended-clause-serves g c =
    let p = c.args.embed.now in
    let q = c.refill.new.embed in
    stops_here g.S.Stream.answers c.args.node c.args.now p q c.args.self.now c.poll_write.new.self
    (serves_then g.S.Stream.answers g.met.S.Stream.answers_in_order c.args.node c.args.now p q q c.args.self.now c.refill.new.self c.poll_write.new.self c.refill.ensures
    (c.poll_write.ensures.serves c.args.node c.args.now q))
