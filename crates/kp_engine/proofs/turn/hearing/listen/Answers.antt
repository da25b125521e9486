use Rattle.std.proofs.Common.{arith, rules}
use Rattle.std.specs.Prelude.{Some, None, Ok, Err}
use Rattle.kp_engine.specs.declared.turn.hearing.Listened.TheVariants as listened
use Rattle.kp_engine.proofs.HearingLemmas.{nothing_listened, listened_more, listened_then, listened_by}
use Rattle.kp_engine.proofs.turn.hearing.listen.Goals as goal

pub loop-refused-init : goal.loop-refused-init
loop-refused-init g c = record {
  listened = nothing_listened g.S.Stream.answers g.met.S.Stream.answers_nothing c.args.now 16 c.args.exchange.now c.args.wire.now (omega arith) c.requires;
  keeps = search rules;
}

pub returns-in-Err-clause-listens : goal.returns-in-Err-clause-listens
returns-in-Err-clause-listens g c =
    listened_then g.S.Stream.answers g.met.S.Stream.answers_in_order c.args.now 16 c.loop-refused.most c.args.exchange.now c.args.wire.now c.loop-refused.exchange c.loop-refused.wire c.listen_once.new.exchange c.listen_once.new.wire c.loop-refused.invariant.listened
    (Err c.in-Err.refused) c.in-Err.ensures.listens

pub returns-in-Ok-Cut-clause-listens : goal.returns-in-Ok-Cut-clause-listens
returns-in-Ok-Cut-clause-listens g c =
    listened_then g.S.Stream.answers g.met.S.Stream.answers_in_order c.args.now 16 c.loop-refused.most c.args.exchange.now c.args.wire.now c.loop-refused.exchange c.loop-refused.wire c.listen_once.new.exchange c.listen_once.new.wire c.loop-refused.invariant.listened
    (Ok (Some c.in-Ok-Cut.cause))
    (listened_by g.S.Stream.answers c.args.now c.loop-refused.most c.loop-refused.exchange c.loop-refused.wire c.listen_once.new.exchange c.listen_once.new.wire c.in-Ok-Cut.field-0 (listened.Cut c.in-Ok-Cut.cause) c.in-Ok-Cut.field-0-is c.in-Ok-Cut.ensures.listens)

pub returns-in-Ok-Waits-clause-listens : goal.returns-in-Ok-Waits-clause-listens
returns-in-Ok-Waits-clause-listens g c =
    listened_then g.S.Stream.answers g.met.S.Stream.answers_in_order c.args.now 16 c.loop-refused.most c.args.exchange.now c.args.wire.now c.loop-refused.exchange c.loop-refused.wire c.listen_once.new.exchange c.listen_once.new.wire c.loop-refused.invariant.listened
    (Ok None)
    (listened_by g.S.Stream.answers c.args.now c.loop-refused.most c.loop-refused.exchange c.loop-refused.wire c.listen_once.new.exchange c.listen_once.new.wire c.in-Ok-Waits.field-0 listened.Waits c.in-Ok-Waits.field-0-is c.in-Ok-Waits.ensures.listens)

pub loop-refused-preserved : goal.loop-refused-preserved
loop-refused-preserved g c = record {
  listened = listened_more g.S.Stream.answers g.met.S.Stream.answers_in_order c.args.now 16 c.loop-refused.most c.args.exchange.now c.args.wire.now c.loop-refused.exchange c.loop-refused.wire c.listen_once.new.exchange c.listen_once.new.wire c.loop-refused.invariant.listened c.in-Ok-More.left
      (listened_by g.S.Stream.answers c.args.now c.loop-refused.most c.loop-refused.exchange c.loop-refused.wire c.listen_once.new.exchange c.listen_once.new.wire c.in-Ok-More.field-0 (listened.More c.in-Ok-More.left) c.in-Ok-More.field-0-is c.in-Ok-More.ensures.listens);
  keeps = search rules;
}
