use Rattle.std.proofs.Common.{Ok, sym, subst}
use Rattle.futures.specs.declared.task.Poll.{Poll}
use Rattle.kp_engine.specs.Polls.{GoesOnBehind, IsUndone, Turns}
use Rattle.kp_engine.specs.declared.stop.Stop.{Stop}
use Rattle.kp_engine.proofs.TalkingLemmas.{talks_only}
use Rattle.kp_engine.proofs.TurnLemmas.{goes_undone, out_in_items, out_before_the_tick, out_in_talk, out_in_reports, turned, undone_turned}
use Rattle.kp_engine.proofs.turn.turn.Goals as goal

pub returns-in_default-clause-turns : goal.returns-in_default-clause-turns
returns-in_default-clause-turns g c =
    out_in_items g.S.Stream.answers g.met.S.Stream.answers_nothing c.args.node c.args.now c.args.exchange.now c.take_items.new.self c.args.wire.now c.take_items.ensures.mail c.take_items.ensures.lanes c.in_default.ensures.takes

pub returns-in_default-tick-clause-turns : goal.returns-in_default-tick-clause-turns
returns-in_default-tick-clause-turns g c =
    out_before_the_tick g.S.Stream.answers g.met.S.Stream.answers_nothing c.args.node c.args.now c.args.exchange.now c.take_items.new.self c.args.wire.now c.take_items.ensures.mail c.take_items.ensures.lanes
    c.in-Ok.idle c.in-Ok.ensures.takes c.tick.new.self c.tick.ensures.same c.in_default-tick.ensures.err

pub returns-in_default-talk-clause-turns : goal.returns-in_default-talk-clause-turns
returns-in_default-talk-clause-turns g c =
    out_in_talk g.S.Stream.answers g.met.S.Stream.answers_nothing c.args.node c.args.now c.args.exchange.now c.take_items.new.self c.args.wire.now c.take_items.ensures.mail c.take_items.ensures.lanes
    c.in-Ok.idle c.in-Ok.ensures.takes c.tick.new.self c.tick.ensures.same c.in-Ok-tick.ticked c.talk.new.exchange c.talk.new.wire c.in-Ok-tick.ensures.ok c.in_default-talk.ensures.talks

pub returns-in_default-finish-clause-turns : goal.returns-in_default-finish-clause-turns
returns-in_default-finish-clause-turns g c =
    out_in_reports c.args.node c.args.now c.args.exchange.now c.take_items.new.self c.tick.new.self c.talk.new.exchange c.finish.new.exchange c.in-Ok.idle c.in-Ok-tick.ticked c.in-Ok.ensures.takes c.take_items.ensures.mail c.take_items.ensures.lanes
    c.in-Ok-tick.ensures.ok c.tick.ensures.same (talks_only g.S.Stream.answers 16 c.args.node c.args.now c.in-Ok-tick.ticked.reconnect c.tick.new.self c.args.wire.now (Ok c.in-Ok-talk.cut) c.talk.new.exchange c.talk.new.wire c.in-Ok-talk.ensures.talks) c.finish.ensures.only g.S.Stream.answers c.args.wire.now c.talk.new.wire c.in-Ok-talk.cut c.in-Ok-talk.ensures.talks c.in_default-finish.ensures.finishes

pub returns-clause-turns : goal.returns-clause-turns
returns-clause-turns g c =
    subst (λ (r : Poll Stop). Turns g.S.Stream.answers c.args.node c.args.now c.args.exchange.now c.args.wire.now r c.finish.new.exchange c.talk.new.wire) (sym c.stop_of.ensures)
    (turned c.args.node c.args.now c.args.exchange.now c.take_items.new.self c.tick.new.self c.talk.new.exchange c.finish.new.exchange c.in-Ok.idle c.in-Ok-tick.ticked c.in-Ok.ensures.takes c.take_items.ensures.mail c.take_items.ensures.lanes
    c.in-Ok-tick.ensures.ok c.tick.ensures.same (talks_only g.S.Stream.answers 16 c.args.node c.args.now c.in-Ok-tick.ticked.reconnect c.tick.new.self c.args.wire.now (Ok c.in-Ok-talk.cut) c.talk.new.exchange c.talk.new.wire c.in-Ok-talk.ensures.talks) c.finish.ensures.only g.S.Stream.answers c.args.wire.now c.talk.new.wire c.in-Ok-finish.done c.in-Ok-talk.cut c.in-Ok-talk.ensures.talks c.in-Ok-finish.ensures.finishes)

pub returns-clause-undone : goal.returns-clause-undone
returns-clause-undone g c =
    subst (λ (r : Poll Stop). GoesOnBehind r → IsUndone c.args.exchange.now c.finish.new.exchange) (sym c.stop_of.ensures)
    (λ goes. undone_turned c.args.node c.args.now c.args.exchange.now c.take_items.new.self c.tick.new.self c.talk.new.exchange c.finish.new.exchange c.in-Ok.idle c.in-Ok-tick.ticked c.in-Ok.ensures.takes c.take_items.ensures.mail c.take_items.ensures.lanes
    c.in-Ok-tick.ensures.ok c.tick.ensures.same (talks_only g.S.Stream.answers 16 c.args.node c.args.now c.in-Ok-tick.ticked.reconnect c.tick.new.self c.args.wire.now (Ok c.in-Ok-talk.cut) c.talk.new.exchange c.talk.new.wire c.in-Ok-talk.ensures.talks) c.finish.ensures.only c.in-Ok-finish.done c.in-Ok-talk.cut c.in-Ok-finish.ensures.finishes (goes_undone c.in-Ok-finish.done c.in-Ok-talk.cut goes))
