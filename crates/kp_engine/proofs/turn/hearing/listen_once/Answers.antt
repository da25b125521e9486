use Rattle.std.proofs.Common.{◌-◌, arith}
use Rattle.kp_engine.specs.declared.turn.hearing.AtHand.TheVariants as at_hand
use Rattle.kp_engine.proofs.HearingLemmas.{at_hand_refused, at_hand_lacking, at_hand_enough, at_hand_sound, at_hand_then, at_hand_by}
use Rattle.kp_engine.proofs.turn.hearing.listen_once.Goals as goal

pub read_once-requires-clause-sound : goal.read_once-requires-clause-sound
read_once-requires-clause-sound g c =
    at_hand_sound g.S.Stream.answers c.args.now c.args.most c.args.exchange.now c.args.wire.now c.hear_at_hand.new.exchange c.hear_at_hand.new.wire c.in-Ok-All.heard c.requires.sound
    (at_hand_by g.S.Stream.answers c.args.now c.args.most c.args.exchange.now c.args.wire.now c.hear_at_hand.new.exchange c.hear_at_hand.new.wire c.in-Ok-All.field-0 (at_hand.All c.in-Ok-All.heard) c.in-Ok-All.field-0-is c.in-Ok-All.ensures)

pub returns-in-Err-clause-listens : goal.returns-in-Err-clause-listens
returns-in-Err-clause-listens g c =
    at_hand_lacking g.S.Stream.answers c.args.now c.args.most c.args.exchange.now c.args.wire.now c.hear_at_hand.new.exchange c.hear_at_hand.new.wire c.in-Err.refused c.in-Err.ensures

pub returns-in-Ok-Refused-clause-listens : goal.returns-in-Ok-Refused-clause-listens
returns-in-Ok-Refused-clause-listens g c =
    at_hand_refused g.S.Stream.answers c.args.now c.args.most c.args.exchange.now c.args.wire.now c.hear_at_hand.new.exchange c.hear_at_hand.new.wire c.in-Ok-Refused.fault
    (at_hand_by g.S.Stream.answers c.args.now c.args.most c.args.exchange.now c.args.wire.now c.hear_at_hand.new.exchange c.hear_at_hand.new.wire c.in-Ok-Refused.field-0 (at_hand.Refused c.in-Ok-Refused.fault) c.in-Ok-Refused.field-0-is c.in-Ok-Refused.ensures)

pub returns-in-Ok-Enough-clause-listens : goal.returns-in-Ok-Enough-clause-listens
returns-in-Ok-Enough-clause-listens g c =
    at_hand_enough g.S.Stream.answers c.args.now c.args.most c.args.exchange.now c.args.wire.now c.hear_at_hand.new.exchange c.hear_at_hand.new.wire c.requires.sound
    (at_hand_by g.S.Stream.answers c.args.now c.args.most c.args.exchange.now c.args.wire.now c.hear_at_hand.new.exchange c.hear_at_hand.new.wire c.in-Ok-Enough.field-0 at_hand.Enough c.in-Ok-Enough.field-0-is c.in-Ok-Enough.ensures)

pub returns-in-Ok-All-clause-listens : goal.returns-in-Ok-All-clause-listens
returns-in-Ok-All-clause-listens g c =
    let all = at_hand_by g.S.Stream.answers c.args.now c.args.most c.args.exchange.now c.args.wire.now c.hear_at_hand.new.exchange c.hear_at_hand.new.wire c.in-Ok-All.field-0 (at_hand.All c.in-Ok-All.heard) c.in-Ok-All.field-0-is c.in-Ok-All.ensures in
    at_hand_then g.S.Stream.answers c.args.now c.args.most c.args.exchange.now c.args.wire.now c.hear_at_hand.new.exchange c.hear_at_hand.new.wire g.met.S.Stream.answers_in_order c.in-Ok-All.heard (c.args.most - c.in-Ok-All.heard) (omega (arith, all.0)) all
    c.read_once.new.exchange c.read_once.new.wire c.read_once.result c.read_once.ensures.listens
