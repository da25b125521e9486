use Rattle.std.proofs.Common.{rules}
use Rattle.kp_connection.specs.Listening.{Listens}
use Rattle.kp_connection.proofs.ListeningLemmas.{wants, wants_more, read_waits, read_ends, read_fails, brought, gives, none_yet, no_room, nearer, brings_by, fails_by, some_by, none_by}
use Rattle.kp_connection.proofs.TalkLemmas.{given_back}
use Rattle.kp_connection.proofs.handshake.listening.poll_content.Goals as goal

pub poll_read_once-requires : goal.poll_read_once-requires
poll_read_once-requires g c = wants_more c.loop-fault.wire.held c.wanted.result c.loop-fault.invariant.underway.partial c.wanted.ensures

pub returns-in-Pending-clause-listens : goal.returns-in-Pending-clause-listens
returns-in-Pending-clause-listens g c =
    read_waits g.S.Stream.answers g.met.S.Stream.answers_in_order c.args.wire.now c.loop-fault.wire c.poll_read_once.new.self c.loop-fault.invariant.underway c.in-Pending.ensures.reads

pub returns-in-Ready-Ok-eq0-clause-listens : goal.returns-in-Ready-Ok-eq0-clause-listens
returns-in-Ready-Ok-eq0-clause-listens g c =
    let brings = brings_by g.S.Stream.answers c.wanted.result c.loop-fault.wire c.poll_read_once.new.self _ c.in-Ready-Ok-eq0.field-0-0 c.in-Ready-Ok-eq0.field-0-is c.in-Ready-Ok-eq0.ensures.reads in
    read_ends g.S.Stream.answers g.met.S.Stream.answers_in_order c.args.wire.now c.loop-fault.wire c.poll_read_once.new.self c.wanted.result c.loop-fault.invariant.underway (rw c.in-Ready-Ok-eq0.field-0-0-test at brings)

pub returns-in-Ready-Err-clause-listens : goal.returns-in-Ready-Err-clause-listens
returns-in-Ready-Err-clause-listens g c =
    let is = wants c.loop-fault.wire.held c.wanted.result c.loop-fault.invariant.underway.partial c.wanted.ensures in
    let reads = fails_by g.S.Stream.answers c.wanted.result c.loop-fault.wire c.poll_read_once.new.self _ c.in-Ready-Err.fault c.in-Ready-Err.field-0-is c.in-Ready-Err.ensures.reads in
    rw c.from.ensures (read_fails g.S.Stream.answers g.met.S.Stream.answers_in_order c.args.wire.now c.loop-fault.wire c.poll_read_once.new.self c.wanted.result c.in-Ready-Err.fault is c.loop-fault.invariant.underway reads)

pub returns-in_err-content-clause-listens : goal.returns-in_err-content-clause-listens
returns-in_err-content-clause-listens g c =
    let is = wants c.loop-fault.wire.held c.wanted.result c.loop-fault.invariant.underway.partial c.wanted.ensures in
    let brings = brings_by g.S.Stream.answers c.wanted.result c.loop-fault.wire c.poll_read_once.new.self _ c.in-Ready-Ok.field-0-0 c.in-Ready-Ok.field-0-is c.in-Ready-Ok.ensures.reads in
    let b = brought g.S.Stream.answers g.met.S.Stream.answers_in_order c.args.wire.now c.loop-fault.wire c.poll_read_once.new.self c.wanted.result c.in-Ready-Ok.field-0-0 is c.in-Ready-Ok.field-0-0-test.1 c.loop-fault.invariant.underway brings in
    given_back (λ r. Listens g.S.Stream.answers c.args.wire.now r c.next_frame.new.self) c.from_residual.result _ c.from_residual.ensures.1
    (no_room g.S.Stream.answers g.met.S.Stream.answers_in_order c.args.wire.now c.loop-fault.wire c.poll_read_once.new.self c.next_frame.new.self b c.in_err-content.ensures.1)

pub returns-in-Some-clause-listens : goal.returns-in-Some-clause-listens
returns-in-Some-clause-listens g c =
    let is = wants c.loop-fault.wire.held c.wanted.result c.loop-fault.invariant.underway.partial c.wanted.ensures in
    let brings = brings_by g.S.Stream.answers c.wanted.result c.loop-fault.wire c.poll_read_once.new.self _ c.in-Ready-Ok.field-0-0 c.in-Ready-Ok.field-0-is c.in-Ready-Ok.ensures.reads in
    let b = brought g.S.Stream.answers g.met.S.Stream.answers_in_order c.args.wire.now c.loop-fault.wire c.poll_read_once.new.self c.wanted.result c.in-Ready-Ok.field-0-0 is c.in-Ready-Ok.field-0-0-test.1 c.loop-fault.invariant.underway brings in
    gives g.S.Stream.answers g.met.S.Stream.answers_in_order c.args.wire.now c.loop-fault.wire c.poll_read_once.new.self c.next_frame.new.self b c.in-Some.content.items
    (some_by g.S.Stream.answers c.poll_read_once.new.self c.next_frame.new.self c.in_ok-content.field-0 c.in-Some.content c.in-Some.is c.in_ok-content.ensures)

pub loop-fault-smaller : goal.loop-fault-smaller
loop-fault-smaller g c =
    let is = wants c.loop-fault.wire.held c.wanted.result c.loop-fault.invariant.underway.partial c.wanted.ensures in
    let brings = brings_by g.S.Stream.answers c.wanted.result c.loop-fault.wire c.poll_read_once.new.self _ c.in-Ready-Ok.field-0-0 c.in-Ready-Ok.field-0-is c.in-Ready-Ok.ensures.reads in
    let b = brought g.S.Stream.answers g.met.S.Stream.answers_in_order c.args.wire.now c.loop-fault.wire c.poll_read_once.new.self c.wanted.result c.in-Ready-Ok.field-0-0 is c.in-Ready-Ok.field-0-0-test.1 c.loop-fault.invariant.underway brings in
    let none = none_by g.S.Stream.answers c.poll_read_once.new.self c.next_frame.new.self c.in_ok-content.field-0 c.in_default.is c.in_ok-content.ensures in
    nearer g.S.Stream.answers c.args.wire.now c.loop-fault.wire c.poll_read_once.new.self c.next_frame.new.self b none.1

pub loop-fault-preserved : goal.loop-fault-preserved
loop-fault-preserved g c =
    let is = wants c.loop-fault.wire.held c.wanted.result c.loop-fault.invariant.underway.partial c.wanted.ensures in
    let brings = brings_by g.S.Stream.answers c.wanted.result c.loop-fault.wire c.poll_read_once.new.self _ c.in-Ready-Ok.field-0-0 c.in-Ready-Ok.field-0-is c.in-Ready-Ok.ensures.reads in
    let b = brought g.S.Stream.answers g.met.S.Stream.answers_in_order c.args.wire.now c.loop-fault.wire c.poll_read_once.new.self c.wanted.result c.in-Ready-Ok.field-0-0 is c.in-Ready-Ok.field-0-0-test.1 c.loop-fault.invariant.underway brings in
    let none = none_by g.S.Stream.answers c.poll_read_once.new.self c.next_frame.new.self c.in_ok-content.field-0 c.in_default.is c.in_ok-content.ensures in
    record {
      underway = none_yet g.S.Stream.answers g.met.S.Stream.answers_in_order c.args.wire.now c.loop-fault.wire c.poll_read_once.new.self c.next_frame.new.self b none.0 none.1;
      keeps = search rules;
    }
