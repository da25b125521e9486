-- The polls of an engine that was run to its stop.
use Rattle.std.proofs.Common.{◌≡◌, ℕ, Bool, List, [], ◌∷◌, ◌++◌, subst, append_assoc}
use Rattle.futures.specs.declared.task.Poll.{Poll}
use Rattle.futures.specs.declared.task.Poll.TheVariants.{Ready, Pending}
use Rattle.kp_connection.specs.Answers.{Answer}
use Rattle.kp_connection.specs.Wire.{Told}
use Rattle.kp_engine.specs.Clocked.{PollsOnce}
use Rattle.kp_engine.specs.Closing.{Polled, calls_of_poll}
use Rattle.kp_engine.specs.declared.engine.Engine.{Engine}
use Rattle.kp_engine.specs.declared.exchange.Exchange.{Exchange}
use Rattle.kp_engine.specs.declared.stop.Stop.{Stop}
use Rattle.kp_rules.specs.Calls.{Call}
use Rattle.kp_running.specs.Running.{GoesThrough, Reaches}
use Rattle.kp_running.specs.declared.over.Over.{Over}
use Rattle.kp_world.specs.World.{Opening}
use Rattle.kp_polls.specs.Bytes.{OverStream, answered_in_poll}
use Rattle.kp_polls.specs.Polling.{Polling}

module _ {S C : Type 0} (answers : Told S) (moments : C → List ℕ) where
  module _ (first : Exchange) where
    run_polled : (between : List (Engine S C)) (old new : Engine S C) (stop : Stop) (calls : List Call) → Polled answers first calls old.exchange
        → GoesThrough (PollsOnce answers moments) old between stop new → (more : List Call) × Polled answers first (calls ++ more) new.exchange
    run_polled [] old new stop calls polled went = (
      calls_of_poll answers old.line old.exchange (Ready stop) new.exchange new.line went.polls,
      Polled.once_more old.exchange new.exchange calls old.line new.line (Ready stop) polled went.polls,
    )
    run_polled (next ∷ between) old new stop calls polled went =
        let mine : List Call = calls_of_poll answers old.line old.exchange Pending next.exchange next.line went.0.polls in
        let later = run_polled between next new stop (calls ++ mine) (Polled.once_more old.exchange next.exchange calls old.line next.line Pending polled went.0.polls) went.1 in
        (mine ++ later.0, subst (λ (cs : List Call). Polled answers first cs new.exchange) (append_assoc calls mine later.0) later.1)

  module _ (x : Exchange) (given : S) where
    run_over : (between : List (Engine S C)) (old new : Engine S C) (stop : Stop) (calls mine : List Call) (xs : List Answer) → OverStream answers given x calls mine xs old.exchange old.line
        → GoesThrough (PollsOnce answers moments) old between stop new
        → (more : List Call) × (ys : List Answer) × OverStream answers given x (calls ++ more) (mine ++ more) (xs ++ ys) new.exchange new.line
    run_over [] old new stop calls mine xs over went = (
      calls_of_poll answers old.line old.exchange (Ready stop) new.exchange new.line went.polls,
      answered_in_poll answers old.line old.exchange (Ready stop) new.exchange new.line went.polls,
      OverStream.once_more old.exchange new.exchange calls mine xs old.line new.line (Ready stop) over went.polls,
    )
    run_over (next ∷ between) old new stop calls mine xs over went =
        let its : List Call = calls_of_poll answers old.line old.exchange Pending next.exchange next.line went.0.polls in
        let heard : List Answer = answered_in_poll answers old.line old.exchange Pending next.exchange next.line went.0.polls in
        let later = run_over between next new stop (calls ++ its) (mine ++ its) (xs ++ heard)
        (OverStream.once_more old.exchange next.exchange calls mine xs old.line next.line Pending over went.0.polls) went.1 in (
          its ++ later.0,
          heard ++ later.1,
          subst (λ (cs : List Call). OverStream answers given x cs (mine ++ (its ++ later.0)) (xs ++ (heard ++ later.1)) new.exchange new.line) (append_assoc calls its later.0)
              (subst (λ (ms : List Call). OverStream answers given x ((calls ++ its) ++ later.0) ms (xs ++ (heard ++ later.1)) new.exchange new.line) (append_assoc mine its later.0)
              (subst (λ (ys : List Answer). OverStream answers given x ((calls ++ its) ++ later.0) ((mine ++ its) ++ later.0) ys new.exchange new.line) (append_assoc xs heard later.1) later.2)),
        )

  pub run_polls : (o : Opening) (calls : List Call) (old new : Engine S C) (stop : Stop) → Polling answers o calls old.exchange → Reaches (PollsOnce answers moments) old stop new
      → (more : List Call) × Polling answers o (calls ++ more) new.exchange
  run_polls o calls old new stop p reaches =
      let all = run_polled p.first reaches.between old new stop calls p.polled reaches.goes in (
        all.0,
        record { may_begin = p.may_begin; intake = p.intake; may_turn = p.may_turn; keeps = p.keeps; first = p.first; is_new = p.is_new; polled = all.1 },
      )

  pub run_over_stream : (x : Exchange) (given : S) (calls mine : List Call) (xs : List Answer) (old new : Engine S C) (stop : Stop)
      → OverStream answers given x calls mine xs old.exchange old.line → Reaches (PollsOnce answers moments) old stop new
      → (more : List Call) × (ys : List Answer) × OverStream answers given x (calls ++ more) (mine ++ more) (xs ++ ys) new.exchange new.line
  run_over_stream x given calls mine xs old new stop over reaches = run_over x given reaches.between old new stop calls mine xs over reaches.goes

  -- what is run to its stop, where each of its polls is some
  module _ {E : Type 0} (exchange : E → Exchange) (polls : E → Poll Over → E → Type 0)
      (each : (was is : E) (result : Poll Over) → polls was result is → (first : Exchange) (calls : List Call) → Polled answers first calls (exchange was)
      → (more : List Call) × Polled answers first (calls ++ more) (exchange is)) where
    all_polled : (first : Exchange) (between : List E) (old new : E) (stop : Over) (calls : List Call) → Polled answers first calls (exchange old)
        → GoesThrough polls old between stop new → (more : List Call) × Polled answers first (calls ++ more) (exchange new)
    all_polled first [] old new stop calls polled went = each old new (Ready stop) went first calls polled
    all_polled first (next ∷ between) old new stop calls polled went =
        let mine = each old next Pending went.0 first calls polled in
        let later = all_polled first between next new stop (calls ++ mine.0) mine.1 went.1 in
        (mine.0 ++ later.0, subst (λ (cs : List Call). Polled answers first cs (exchange new)) (append_assoc calls mine.0 later.0) later.1)

    pub all_polls : (o : Opening) (calls : List Call) (old new : E) (stop : Over) → Polling answers o calls (exchange old) → Reaches polls old stop new
        → (more : List Call) × Polling answers o (calls ++ more) (exchange new)
    all_polls o calls old new stop p reaches =
        let all = all_polled p.first reaches.between old new stop calls p.polled reaches.goes in (
          all.0,
          record { may_begin = p.may_begin; intake = p.intake; may_turn = p.may_turn; keeps = p.keeps; first = p.first; is_new = p.is_new; polled = all.1 },
        )
