use Rattle.std.specs.Prelude.{Ok}
use Rattle.kp_connection.specs.declared.fault.ReadFault.TheVariants as read
use Rattle.kp_engine.specs.declared.turn.hearing.AtHand.TheVariants as at_hand
use Rattle.kp_engine.proofs.HearingLemmas.{read_waits, read_failed, read_ended, read_lacked, read_more, read_by, fault_by, at_hand_by, large_then_refused, large_then_lacking, large_then_all, large_then_enough}
use Rattle.kp_engine.proofs.turn.hearing.read_once.Goals as goal

pub returns-in-Pending-clause-listens : goal.returns-in-Pending-clause-listens
returns-in-Pending-clause-listens g c =
    read_waits g.S.Stream.answers c.args.now c.args.exchange.now c.args.wire.now c.poll_read_once.new.self c.args.most c.requires.sound c.requires.none_left c.in-Pending.ensures.reads

pub returns-in-Ready-Ok-eq0-clause-listens : goal.returns-in-Ready-Ok-eq0-clause-listens
returns-in-Ready-Ok-eq0-clause-listens g c =
    let brings = read_by g.S.Stream.answers 18446744073709551615 c.args.wire.now c.poll_read_once.new.self c.in-Ready-Ok-eq0.field-0 (Ok c.in-Ready-Ok-eq0.field-0-0) c.in-Ready-Ok-eq0.field-0-is c.in-Ready-Ok-eq0.ensures.reads in
    read_ended g.S.Stream.answers c.args.now c.args.exchange.now c.args.wire.now c.poll_read_once.new.self c.args.most 18446744073709551615 c.requires.none_left (rw c.in-Ready-Ok-eq0.field-0-0-test at brings)

pub returns-in-Ready-Ok-clause-listens : goal.returns-in-Ready-Ok-clause-listens
returns-in-Ready-Ok-clause-listens g c =
    read_more g.S.Stream.answers c.args.now c.args.exchange.now c.args.wire.now c.poll_read_once.new.self c.args.most 18446744073709551615 c.in-Ready-Ok.field-0-0 c.requires.some c.requires.sound c.requires.none_left c.in-Ready-Ok.field-0-0-test.1
    (read_by g.S.Stream.answers 18446744073709551615 c.args.wire.now c.poll_read_once.new.self c.in-Ready-Ok.field-0 (Ok c.in-Ready-Ok.field-0-0) c.in-Ready-Ok.field-0-is c.in-Ready-Ok.ensures.reads)

pub returns-in-Ready-Err-Io-clause-listens : goal.returns-in-Ready-Err-Io-clause-listens
returns-in-Ready-Err-Io-clause-listens g c =
    read_failed g.S.Stream.answers c.args.now c.args.exchange.now c.args.wire.now c.poll_read_once.new.self c.args.most c.requires.none_left
    (fault_by g.S.Stream.answers 18446744073709551615 c.args.wire.now c.poll_read_once.new.self c.in-Ready-Err-Io.field-0 c.in-Ready-Err-Io.field-0-0 (read.Io c.in-Ready-Err-Io.field-0-0-0) c.in-Ready-Err-Io.field-0-is c.in-Ready-Err-Io.field-0-0-is c.in-Ready-Err-Io.ensures.reads)

pub returns-in-Ready-Err-OutOfMemory-clause-listens : goal.returns-in-Ready-Err-OutOfMemory-clause-listens
returns-in-Ready-Err-OutOfMemory-clause-listens g c =
    read_lacked g.S.Stream.answers c.args.now c.args.exchange.now c.args.wire.now c.poll_read_once.new.self c.args.most 18446744073709551615
    (fault_by g.S.Stream.answers 18446744073709551615 c.args.wire.now c.poll_read_once.new.self c.in-Ready-Err-OutOfMemory.field-0 c.in-Ready-Err-OutOfMemory.field-0-0 read.OutOfMemory c.in-Ready-Err-OutOfMemory.field-0-is c.in-Ready-Err-OutOfMemory.field-0-0-is c.in-Ready-Err-OutOfMemory.ensures.reads)

pub returns-in-Err-clause-listens : goal.returns-in-Err-clause-listens
returns-in-Err-clause-listens g c =
    large_then_lacking g.S.Stream.answers g.met.S.Stream.answers_in_order c.args.now c.args.most 18446744073709551615 c.args.exchange.now c.args.wire.now c.poll_read_once.new.self c.hear_at_hand.new.exchange c.hear_at_hand.new.wire
    (fault_by g.S.Stream.answers 18446744073709551615 c.args.wire.now c.poll_read_once.new.self c.in-Ready-Err-TooLarge.field-0 c.in-Ready-Err-TooLarge.field-0-0 read.TooLarge c.in-Ready-Err-TooLarge.field-0-is c.in-Ready-Err-TooLarge.field-0-0-is c.in-Ready-Err-TooLarge.ensures.reads)
    c.in-Err.refused c.in-Err.ensures

pub returns-in-Ok-Refused-clause-listens : goal.returns-in-Ok-Refused-clause-listens
returns-in-Ok-Refused-clause-listens g c =
    large_then_refused g.S.Stream.answers g.met.S.Stream.answers_in_order c.args.now c.args.most 18446744073709551615 c.args.exchange.now c.args.wire.now c.poll_read_once.new.self c.hear_at_hand.new.exchange c.hear_at_hand.new.wire
    (fault_by g.S.Stream.answers 18446744073709551615 c.args.wire.now c.poll_read_once.new.self c.in-Ready-Err-TooLarge.field-0 c.in-Ready-Err-TooLarge.field-0-0 read.TooLarge c.in-Ready-Err-TooLarge.field-0-is c.in-Ready-Err-TooLarge.field-0-0-is c.in-Ready-Err-TooLarge.ensures.reads)
    c.in-Ok-Refused.fault
    (at_hand_by g.S.Stream.answers c.args.now c.args.most c.args.exchange.now c.poll_read_once.new.self c.hear_at_hand.new.exchange c.hear_at_hand.new.wire c.in-Ok-Refused.field-0 (at_hand.Refused c.in-Ok-Refused.fault) c.in-Ok-Refused.field-0-is c.in-Ok-Refused.ensures)

pub returns-in-Ok-All-clause-listens : goal.returns-in-Ok-All-clause-listens
returns-in-Ok-All-clause-listens g c =
    large_then_all g.S.Stream.answers g.met.S.Stream.answers_in_order c.args.now c.args.most 18446744073709551615 c.args.exchange.now c.args.wire.now c.poll_read_once.new.self c.hear_at_hand.new.exchange c.hear_at_hand.new.wire
    (fault_by g.S.Stream.answers 18446744073709551615 c.args.wire.now c.poll_read_once.new.self c.in-Ready-Err-TooLarge.field-0 c.in-Ready-Err-TooLarge.field-0-0 read.TooLarge c.in-Ready-Err-TooLarge.field-0-is c.in-Ready-Err-TooLarge.field-0-0-is c.in-Ready-Err-TooLarge.ensures.reads)
    c.in-Ok-All.field-0-0
    (at_hand_by g.S.Stream.answers c.args.now c.args.most c.args.exchange.now c.poll_read_once.new.self c.hear_at_hand.new.exchange c.hear_at_hand.new.wire c.in-Ok-All.field-0 (at_hand.All c.in-Ok-All.field-0-0) c.in-Ok-All.field-0-is c.in-Ok-All.ensures)

pub returns-in-Ok-Enough-clause-listens : goal.returns-in-Ok-Enough-clause-listens
returns-in-Ok-Enough-clause-listens g c =
    large_then_enough g.S.Stream.answers g.met.S.Stream.answers_in_order c.args.now c.args.most 18446744073709551615 c.args.exchange.now c.args.wire.now c.poll_read_once.new.self c.hear_at_hand.new.exchange c.hear_at_hand.new.wire
    (fault_by g.S.Stream.answers 18446744073709551615 c.args.wire.now c.poll_read_once.new.self c.in-Ready-Err-TooLarge.field-0 c.in-Ready-Err-TooLarge.field-0-0 read.TooLarge c.in-Ready-Err-TooLarge.field-0-is c.in-Ready-Err-TooLarge.field-0-0-is c.in-Ready-Err-TooLarge.ensures.reads)
    (at_hand_by g.S.Stream.answers c.args.now c.args.most c.args.exchange.now c.poll_read_once.new.self c.hear_at_hand.new.exchange c.hear_at_hand.new.wire c.in-Ok-Enough.field-0 at_hand.Enough c.in-Ok-Enough.field-0-is c.in-Ok-Enough.ensures)
