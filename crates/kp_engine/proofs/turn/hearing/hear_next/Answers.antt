use Rattle.std.proofs.Common.{refl}
use Rattle.std.specs.Prelude.{None}
use Rattle.kp_engine.proofs.HearingLemmas.{none_heard, no_room, heard_next, lacking_next, given_by, none_by, one_by}
use Rattle.kp_engine.proofs.turn.hearing.hear_next.Goals as goal

pub returns-in_default : goal.returns-in_default
returns-in_default g c = no_room g.S.Stream.answers g.met.S.Stream.answers_nothing c.args.now c.args.exchange.now _ c.args.wire.now c.args.wire.now
    (record { core = refl; calls = c.reserve.ensures.same; only = record { intake = refl; items = refl; reports = refl; closed = refl } }) refl

pub returns-in-Err : goal.returns-in-Err
returns-in-Err g c = no_room g.S.Stream.answers g.met.S.Stream.answers_nothing c.args.now c.args.exchange.now _ c.args.wire.now c.next_frame.new.self
    (record { core = refl; calls = c.reserve.ensures.same; only = record { intake = refl; items = refl; reports = refl; closed = refl } }) c.in-Err.ensures.1

pub returns-in-Ok-None : goal.returns-in-Ok-None
returns-in-Ok-None g c = none_heard g.S.Stream.answers g.met.S.Stream.answers_nothing c.args.now c.args.exchange.now _ c.args.wire.now c.next_frame.new.self
    (record { core = refl; calls = c.reserve.ensures.same; only = record { intake = refl; items = refl; reports = refl; closed = refl } })
    (none_by g.S.Stream.answers c.args.wire.now c.next_frame.new.self c.in-Ok-None.field-0 c.in-Ok-None.field-0-is c.in-Ok-None.ensures)

pub returns-in-Err-hear : goal.returns-in-Err-hear
returns-in-Err-hear g c = lacking_next g.S.Stream.answers c.args.now c.args.exchange.now _ c.hear.new.self c.args.wire.now c.next_frame.new.self c.in-Ok-Some.content.items
    (record { core = refl; calls = c.reserve.ensures.same; only = record { intake = refl; items = refl; reports = refl; closed = refl } })
    (given_by g.S.Stream.answers c.args.wire.now c.next_frame.new.self c.in-Ok-Some.field-0 c.in-Ok-Some.content c.in-Ok-Some.field-0-is c.in-Ok-Some.ensures)
    c.hear.ensures.same c.in-Err-hear.refused c.in-Err-hear.ensures.hears

pub returns-in-Ok-None-hear : goal.returns-in-Ok-None-hear
returns-in-Ok-None-hear g c = heard_next g.S.Stream.answers c.args.now c.args.exchange.now _ c.hear.new.self c.args.wire.now c.next_frame.new.self c.in-Ok-Some.content.items
    (record { core = refl; calls = c.reserve.ensures.same; only = record { intake = refl; items = refl; reports = refl; closed = refl } })
    (given_by g.S.Stream.answers c.args.wire.now c.next_frame.new.self c.in-Ok-Some.field-0 c.in-Ok-Some.content c.in-Ok-Some.field-0-is c.in-Ok-Some.ensures)
    c.hear.ensures.same (one_by c.args.now c.in-Ok-Some.content.items _ c.hear.new.self c.in-Ok-None-hear.field-0 None c.in-Ok-None-hear.field-0-is c.in-Ok-None-hear.ensures.hears)
