use Rattle.std.proofs.Common.{Some, None, Ok, Err, ℕ, arith, rules, sym, ap, subst, ◌≤◌, ◌<◌}
use Rattle.kp_connection.specs.Wire.{Wired}
use Rattle.kp_engine.specs.Talking.{WritesOn}
use Rattle.kp_engine.proofs.WritingLemmas.{nothing_written, idle_written, write_waited, write_failed, enough_written, none_given, none_made, one_written, wrote_by, asks_by}
use Rattle.kp_engine.proofs.turn.writing.write_requests.Goals as goal

pub returns-then-is_idle-clause-writes : goal.returns-then-is_idle-clause-writes
returns-then-is_idle-clause-writes g c =
    subst (λ (most : ℕ). WritesOn g.S.Stream.answers most c.args.node c.args.now c.args.exchange.now c.args.wire.now c.args.exchange.now c.args.wire.now) (sym c.if-most-eq0.true)
    (idle_written g.S.Stream.answers g.met.S.Stream.answers_nothing c.args.node c.args.now c.args.exchange.now c.args.wire.now (c.is_idle.ensures.0 c.if-is_idle.true))

pub loop-init : goal.loop-init
loop-init g c = record {
  so_far = nothing_written g.S.Stream.answers g.met.S.Stream.answers_nothing c.args.node c.args.now c.args.exchange.now c.args.wire.now;
  keeps = search rules;
}

pub returns-in-Pending-clause-writes : goal.returns-in-Pending-clause-writes
returns-in-Pending-clause-writes g c =
    let few : c.loop.counter ≤ c.args.most = omega arith in
    write_waited g.S.Stream.answers g.met.S.Stream.answers_nothing g.met.S.Stream.answers_in_order c.args.most c.args.node c.args.now c.loop.counter c.args.exchange.now c.args.wire.now c.loop.exchange c.loop.wire c.poll_write.new.self c.loop.invariant.so_far few c.in-Pending.ensures.writes

pub returns-in-Ready-Err-clause-writes : goal.returns-in-Ready-Err-clause-writes
returns-in-Ready-Err-clause-writes g c =
    let few : c.loop.counter ≤ c.args.most = omega arith in
    write_failed g.S.Stream.answers g.met.S.Stream.answers_nothing g.met.S.Stream.answers_in_order c.args.most c.args.node c.args.now c.loop.counter c.args.exchange.now c.args.wire.now c.loop.exchange c.loop.wire c.poll_write.new.self c.loop.invariant.so_far few c.in-Ready-Err.field-0-0
    (wrote_by g.S.Stream.answers _ _ _ (Err c.in-Ready-Err.field-0-0) c.in-Ready-Err.field-0-is c.in-Ready-Err.ensures.writes)

pub returns-in-Err-clause-writes : goal.returns-in-Err-clause-writes
returns-in-Err-clause-writes g c =
    let few : c.loop.counter < c.args.most = omega arith in
    none_made g.S.Stream.answers g.met.S.Stream.answers_nothing g.met.S.Stream.answers_in_order c.args.most c.args.node c.args.now c.loop.counter c.args.exchange.now c.args.wire.now c.loop.exchange c.loop.wire c.poll_write.new.self c.loop.invariant.so_far c.next_frame.new.self few c.in-Err.refused
    (wrote_by g.S.Stream.answers _ _ _ (Ok tt) c.in-Ready-Ok.field-0-is c.in-Ready-Ok.ensures.writes) c.in-Err.ensures.asks c.next_frame.ensures.same

pub returns-in-Ok-None-clause-writes : goal.returns-in-Ok-None-clause-writes
returns-in-Ok-None-clause-writes g c =
    let few : c.loop.counter < c.args.most = omega arith in
    none_given g.S.Stream.answers g.met.S.Stream.answers_nothing g.met.S.Stream.answers_in_order c.args.most c.args.node c.args.now c.loop.counter c.args.exchange.now c.args.wire.now c.loop.exchange c.loop.wire c.poll_write.new.self c.loop.invariant.so_far c.next_frame.new.self few
    (wrote_by g.S.Stream.answers _ _ _ (Ok tt) c.in-Ready-Ok.field-0-is c.in-Ready-Ok.ensures.writes)
    (asks_by c.args.node c.args.now _ _ _ None c.in-Ok-None.field-0-is c.in-Ok-None.ensures.asks) c.next_frame.ensures.same

pub loop-preserved : goal.loop-preserved
loop-preserved g c = record {
  so_far = one_written g.S.Stream.answers g.met.S.Stream.answers_nothing g.met.S.Stream.answers_in_order c.args.most c.args.node c.args.now c.loop.counter c.args.exchange.now c.args.wire.now c.loop.exchange c.loop.wire c.poll_write.new.self c.loop.invariant.so_far c.next_frame.new.self c.send.new.self c.in-Ok-Some.frame
      (wrote_by g.S.Stream.answers _ _ _ (Ok tt) c.in-Ready-Ok.field-0-is c.in-Ready-Ok.ensures.writes)
      (asks_by c.args.node c.args.now _ _ _ (Some c.in-Ok-Some.frame) c.in-Ok-Some.field-0-is c.in-Ok-Some.ensures.asks) c.next_frame.ensures.same
      c.send.ensures.goes (ap (λ (t : Wired g.row.S.Denot). t.held) c.send.ensures.kept);
  keeps = search rules;
}

pub returns-in-Pending-poll_write-clause-writes : goal.returns-in-Pending-poll_write-clause-writes
returns-in-Pending-poll_write-clause-writes g c =
    let few : c.loop.counter ≤ c.args.most = omega arith in
    write_waited g.S.Stream.answers g.met.S.Stream.answers_nothing g.met.S.Stream.answers_in_order c.args.most c.args.node c.args.now c.loop.counter c.args.exchange.now c.args.wire.now c.loop.exchange c.loop.wire c.poll_write-2.new.self c.loop.invariant.so_far few c.in-Pending-poll_write.ensures.writes

pub returns-in-Ready-Err-poll_write-clause-writes : goal.returns-in-Ready-Err-poll_write-clause-writes
returns-in-Ready-Err-poll_write-clause-writes g c =
    let few : c.loop.counter ≤ c.args.most = omega arith in
    write_failed g.S.Stream.answers g.met.S.Stream.answers_nothing g.met.S.Stream.answers_in_order c.args.most c.args.node c.args.now c.loop.counter c.args.exchange.now c.args.wire.now c.loop.exchange c.loop.wire c.poll_write-2.new.self c.loop.invariant.so_far few c.in-Ready-Err-poll_write.field-0-0
    (wrote_by g.S.Stream.answers _ _ _ (Err c.in-Ready-Err-poll_write.field-0-0) c.in-Ready-Err-poll_write.field-0-is c.in-Ready-Err-poll_write.ensures.writes)

pub returns-in-Ready-Ok-poll_write-clause-writes : goal.returns-in-Ready-Ok-poll_write-clause-writes
returns-in-Ready-Ok-poll_write-clause-writes g c =
    enough_written g.S.Stream.answers g.met.S.Stream.answers_nothing g.met.S.Stream.answers_in_order c.args.most c.args.node c.args.now c.loop.counter c.args.exchange.now c.args.wire.now c.loop.exchange c.loop.wire c.poll_write-2.new.self c.loop.invariant.so_far (omega arith)
    (wrote_by g.S.Stream.answers _ _ _ (Ok tt) c.in-Ready-Ok-poll_write.field-0-is c.in-Ready-Ok-poll_write.ensures.writes)
