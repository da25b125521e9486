use Rattle.kp_engine.specs.Turn.{lacking_memory, refused_with}
use Rattle.std.specs.Prelude.{Some}
use Rattle.kp_engine.specs.declared.turn.hearing.Next.TheVariants as next
use Rattle.kp_engine.proofs.HearingLemmas.{nobody_heard, one_more, each_heard, last_heard, next_by}
use Rattle.kp_engine.proofs.turn.hearing.hear_at_hand.Goals as goal

pub loop-heard-init : goal.loop-heard-init
loop-heard-init g c = nobody_heard g.S.Stream.answers g.met.S.Stream.answers_nothing c.args.now c.args.exchange.now c.args.wire.now

pub returns-in-Err : goal.returns-in-Err
returns-in-Err g c =
    let last = c.in-Err.ensures in (
      last.0,
      last_heard g.S.Stream.answers g.met.S.Stream.answers_in_order c.args.now c.loop-heard.heard c.args.exchange.now c.args.wire.now c.loop-heard.exchange c.loop-heard.wire c.hear_next.new.exchange c.hear_next.new.wire
          c.loop-heard.invariant c.args.most (lacking_memory last.0) c.loop-heard-test.true last.1,
    )

pub returns-in-Ok-None : goal.returns-in-Ok-None
returns-in-Ok-None g c =
    each_heard g.S.Stream.answers g.met.S.Stream.answers_in_order c.args.now c.loop-heard.heard c.args.exchange.now c.args.wire.now c.loop-heard.exchange c.loop-heard.wire c.hear_next.new.exchange c.hear_next.new.wire
    c.loop-heard.invariant c.args.most c.loop-heard-test.true
    (next_by g.S.Stream.answers c.args.now c.loop-heard.exchange c.loop-heard.wire c.hear_next.new.exchange c.hear_next.new.wire c.in-Ok-None.field-0 next.None c.in-Ok-None.field-0-is c.in-Ok-None.ensures)

pub returns-in-Ok-Refused : goal.returns-in-Ok-Refused
returns-in-Ok-Refused g c =
    let last = next_by g.S.Stream.answers c.args.now c.loop-heard.exchange c.loop-heard.wire c.hear_next.new.exchange c.hear_next.new.wire c.in-Ok-Refused.field-0 (next.Refused c.in-Ok-Refused.fault) c.in-Ok-Refused.field-0-is c.in-Ok-Refused.ensures in (
      last.0,
      last_heard g.S.Stream.answers g.met.S.Stream.answers_in_order c.args.now c.loop-heard.heard c.args.exchange.now c.args.wire.now c.loop-heard.exchange c.loop-heard.wire c.hear_next.new.exchange c.hear_next.new.wire
          c.loop-heard.invariant c.args.most (refused_with (Some (last.0, c.in-Ok-Refused.fault))) c.loop-heard-test.true last.1,
    )

pub loop-heard-preserved : goal.loop-heard-preserved
loop-heard-preserved g c =
    one_more g.S.Stream.answers g.met.S.Stream.answers_in_order c.args.now c.loop-heard.heard c.args.exchange.now c.args.wire.now c.loop-heard.exchange c.loop-heard.wire c.hear_next.new.exchange c.hear_next.new.wire
    c.loop-heard.invariant
    (next_by g.S.Stream.answers c.args.now c.loop-heard.exchange c.loop-heard.wire c.hear_next.new.exchange c.hear_next.new.wire c.in-Ok-Heard.field-0 next.Heard c.in-Ok-Heard.field-0-is c.in-Ok-Heard.ensures)
