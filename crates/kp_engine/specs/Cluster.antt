-- What contracts see of an engine over several connections.
use Rattle.std.specs.Prelude.{◌≡◌, ◌++◌, ◌∷◌, ℕ, List, [], not, filter, Option, Some, None, Result, Ok, Err}
use Rattle.std.specs.declared.alloc.AllocError.{AllocError}
use Rattle.futures.specs.declared.task.Poll.{Poll}
use Rattle.futures.specs.declared.task.Poll.TheVariants.{Ready, Pending}
use Rattle.kp_connection.specs.Wire.{Told}
use Rattle.kp_rules.specs.Calls.{Disconnect, Lead, Step}
use Rattle.kp_engine.specs.Away.{MakesTurnAway}
use Rattle.kp_engine.specs.Exchange.{OnlyCore}
use Rattle.kp_engine.specs.Lines.{RoundsEach, goes_to}
use Rattle.kp_engine.specs.Polls.{GoesOnBehind}
use Rattle.kp_engine.specs.declared.cluster.ClusterEngine.{ClusterEngine}
use Rattle.kp_engine.specs.declared.exchange.Exchange.{Exchange}
use Rattle.kp_engine.specs.declared.stop.Cause.TheVariants.{Io}
use Rattle.kp_engine.specs.declared.stop.Stop.{Stop}
use Rattle.kp_engine.specs.declared.stop.Stop.TheVariants.{OutOfMemory}

-- ---- a poll

-- At the moment that the clock tells, a turn was made with no connection: items, and the close; the tick; reports.
pub record HadTurn {S C : Type 0} (moments : C → List ℕ) (old new : ClusterEngine S C) (stop : Stop) (mid : Exchange) : Type 0 where
  pub turn : MakesTurnAway Io old.exchange stop mid
  pub told : moments new.clock ≡ moments old.clock ++ turn.now ∷ []

-- what a poll answers for its rounds
abbrev pub answered_for : Result (Unit {0}) AllocError → Poll Stop
answered_for (Ok done) = Pending
answered_for (Err refused) = Ready OutOfMemory

-- what the engine is over for behind them
abbrev pub over_for : Result (Unit {0}) AllocError → Option Stop
over_for (Ok done) = None
over_for (Err refused) = Some OutOfMemory

-- One poll: a turn with no connection, and behind it a round for each connection at the same moment. Where nothing is left to do,
-- or memory is refused, the engine is over, and then each poll answers the same.
pub data PollsCluster {S C : Type 0} (answers : Told S) (moments : C → List ℕ) (old : ClusterEngine S C) : Poll Stop → ClusterEngine S C → Type 0 where
  was_over : (stop : Stop) → old.over ≡ Some stop → PollsCluster answers moments old (Ready stop) old
  is_over : (new : ClusterEngine S C) (stop : Stop) → old.over ≡ None → HadTurn moments old new stop new.exchange → (GoesOnBehind (Ready stop) → ⊥)
      → new.lines.items ≡ old.lines.items → new.over ≡ Some stop → PollsCluster answers moments old (Ready stop) new
  goes_on : (new : ClusterEngine S C) (stop : Stop) (mid : Exchange) (result : Result (Unit {0}) AllocError) → old.over ≡ None
      → (had : HadTurn moments old new stop mid) → GoesOnBehind (Ready stop)
      → RoundsEach answers had.turn.now mid old.lines.items result new.exchange new.lines.items → new.over ≡ over_for result
      → PollsCluster answers moments old (answered_for result) new

-- ---- connections that are dropped

-- At the moment that the clock tells, what is in flight to the node is dropped, and its connections with it; nothing else is changed.
pub record DropsNow {S C : Type 0} (moments : C → List ℕ) (node : ℕ) (old new : ClusterEngine S C) : Type 0 where
  pub now : ℕ
  pub told : moments new.clock ≡ moments old.clock ++ now ∷ []
  pub step : Step old.exchange.core (Disconnect node now) new.exchange.core
  pub only : OnlyCore old.exchange new.exchange
  pub notes : new.exchange.notes ≡ old.exchange.notes
  pub lines : new.lines.items ≡ filter (λ l. not (goes_to node l)) old.lines.items
  pub over : new.over ≡ old.over

-- ---- leaders

-- At the moment that the clock tells, another node leads the partition; nothing else is changed.
pub record LeadsNow {S C : Type 0} (moments : C → List ℕ) (partition leader : ℕ) (old new : ClusterEngine S C) : Type 0 where
  pub now : ℕ
  pub told : moments new.clock ≡ moments old.clock ++ now ∷ []
  pub step : Step old.exchange.core (Lead partition leader now) new.exchange.core
  pub only : OnlyCore old.exchange new.exchange
  pub notes : new.exchange.notes ≡ old.exchange.notes
  pub lines : new.lines.items ≡ old.lines.items
  pub over : new.over ≡ old.over
