use Rattle.std.proofs.Common.{List, sym, subst}
use Rattle.std.specs.Prelude.{Option}
use Rattle.futures.specs.declared.task.Poll.TheVariants.{Ready}
use Rattle.kp_rules.specs.Calls.{Call}
use Rattle.kp_engine.specs.Away.{EndsAway}
use Rattle.kp_engine.specs.Polls.{FinishesAll, FinishesUntil, GoesOnBehind, IsUndone}
use Rattle.kp_engine.specs.declared.stop.Cause.{Cause}
use Rattle.kp_engine.specs.declared.stop.Stop.{Stop}
use Rattle.kp_engine.proofs.AwayLemmas.{away_before_the_tick, away_in_items, away_in_reports, ended_away, undone_away}
use Rattle.kp_engine.proofs.turn.away.turn_away.Goals as goal

pub returns-in_default-clause-turns : goal.returns-in_default-clause-turns
returns-in_default-clause-turns c =
    away_in_items c.args.node c.args.now c.args.cause c.args.exchange.now c.take_items.new.self c.take_items.ensures.mail c.take_items.ensures.lanes c.in_default.ensures.takes

pub returns-in_default-tick-clause-turns : goal.returns-in_default-tick-clause-turns
returns-in_default-tick-clause-turns c =
    away_before_the_tick c.args.node c.args.now c.args.cause c.args.exchange.now c.take_items.new.self c.take_items.ensures.mail c.take_items.ensures.lanes
    c.in-Ok.idle c.in-Ok.ensures.takes c.tick.new.self c.tick.ensures.same c.in_default-tick.ensures.err

pub returns-in_default-finish-clause-turns : goal.returns-in_default-finish-clause-turns
returns-in_default-finish-clause-turns c =
    away_in_reports c.args.node c.args.now c.args.cause c.args.exchange.now c.take_items.new.self c.take_items.ensures.mail c.take_items.ensures.lanes
    c.in-Ok.idle c.in-Ok.ensures.takes c.tick.new.self c.tick.ensures.same c.in-Ok-tick.ticked c.in-Ok-tick.ensures.ok c.finish.new.exchange c.finish.ensures.only
    (subst (λ (cut : Option Cause). FinishesUntil c.args.node c.args.now cut c.tick.new.self c.finish.new.exchange) c.cut_if_late-cut.ensures c.in_default-finish.ensures.finishes)

pub returns-clause-turns : goal.returns-clause-turns
returns-clause-turns c =
    subst (λ (stop : Stop). (calls : List Call) × EndsAway c.args.node c.args.now c.args.cause c.args.exchange.now calls stop c.finish.new.exchange) (sym c.stop_away.ensures)
    (ended_away c.args.node c.args.now c.args.cause c.args.exchange.now c.take_items.new.self c.take_items.ensures.mail c.take_items.ensures.lanes
    c.in-Ok.idle c.in-Ok.ensures.takes c.tick.new.self c.tick.ensures.same c.in-Ok-tick.ticked c.in-Ok-tick.ensures.ok c.finish.new.exchange c.finish.ensures.only c.in-Ok-finish.done
    (subst (λ (cut : Option Cause). FinishesAll c.args.node c.args.now cut c.tick.new.self c.in-Ok.idle c.in-Ok-finish.done c.finish.new.exchange) c.cut_if_late-cut.ensures c.in-Ok-finish.ensures.finishes))

pub returns-clause-undone : goal.returns-clause-undone
returns-clause-undone c =
    subst (λ (stop : Stop). GoesOnBehind (Ready stop) → IsUndone c.args.exchange.now c.finish.new.exchange) (sym c.stop_away.ensures)
    (undone_away c.args.node c.args.now c.args.cause c.args.exchange.now c.take_items.new.self c.take_items.ensures.mail c.take_items.ensures.lanes
    c.in-Ok.idle c.in-Ok.ensures.takes c.tick.new.self c.tick.ensures.same c.in-Ok-tick.ticked c.in-Ok-tick.ensures.ok c.finish.new.exchange c.finish.ensures.only c.in-Ok-finish.done
    (subst (λ (cut : Option Cause). FinishesAll c.args.node c.args.now cut c.tick.new.self c.in-Ok.idle c.in-Ok-finish.done c.finish.new.exchange) c.cut_if_late-cut.ensures c.in-Ok-finish.ensures.finishes))
