-- A turn with no connection, while the engine needs a stream.
use Rattle.std.specs.Prelude.{◌≡◌, ℕ, Bool, true, false, List, [], ◌∷◌, flat_map, Option, Some, None}
use Rattle.futures.specs.declared.task.Poll.TheVariants.{Ready}
use Rattle.kp_rules.specs.Calls.{Call, Reply, Request}
use Rattle.kp_engine.specs.Engine.{Cleared}
use Rattle.kp_engine.specs.Exchange.{Runs, SameLanes}
use Rattle.kp_engine.specs.Polls.{GoesOnBehind, IsDone, IsUndone, Turn, TurnUntil}
use Rattle.kp_engine.specs.declared.exchange.Exchange.{Exchange}
use Rattle.kp_engine.specs.declared.stop.Cause.{Cause}
use Rattle.kp_engine.specs.declared.stop.Cause.TheVariants.{TimedOut}
use Rattle.kp_engine.specs.declared.stop.Stop.{Stop}
use Rattle.kp_engine.specs.declared.stop.Stop.TheVariants.{Done, NeedStream, OutOfMemory}

-- ---- a turn

-- this call, where it asks for a request or hears a reply
abbrev pub talking : Call → List Call
talking (Request node now answer) = Request node now answer ∷ []
talking (Reply now content answer) = Reply now content answer ∷ []
talking call = []

-- what a turn is cut for, if a request has waited too long
abbrev pub cut_if_late : Bool → Option Cause
cut_if_late true = Some TimedOut
cut_if_late false = None

-- One turn was made with no connection: items, and the close; the tick; reports. No request was asked for, and no reply
-- heard.
pub record TurnsAway (node now : ℕ) (x : Exchange) (calls : List Call) (y : Exchange) : Type 0 where
  pub late : Bool
  pub turn : Turn node now x [] [] None (cut_if_late late) calls y
  pub runs : Runs x calls y
  pub lanes : SameLanes x y
  pub silent : flat_map talking calls ≡ []

-- The same until memory was refused.
pub record TurnsAwayUntil (node now : ℕ) (x : Exchange) (calls : List Call) (y : Exchange) : Type 0 where
  pub turn : TurnUntil node now x y [] [] calls
  pub runs : Runs x calls y
  pub lanes : SameLanes x y
  pub silent : flat_map talking calls ≡ []

-- what it answers
abbrev pub stop_away : Bool → Cause → Stop
stop_away true cause = Done
stop_away false cause = NeedStream cause

-- By what it answers: all is done; or a stream is needed still, in place of the one that was given up for this; or memory
-- was refused.
abbrev pub EndsAway : ℕ → ℕ → Cause → Exchange → List Call → Stop → Exchange → Type 0
EndsAway node now cause x calls Done y = IsDone y × TurnsAway node now x calls y
EndsAway node now cause x calls (NeedStream still) y = (still ≡ cause) × TurnsAway node now x calls y
EndsAway node now cause x calls OutOfMemory y = TurnsAwayUntil node now x calls y

-- ---- a poll

-- One turn was made, for a node, where the connection had been given up for this. The engine is done where nothing is left to
-- do.
pub record MakesTurnAway (cause : Cause) (old : Exchange) (stop : Stop) (new : Exchange) : Type 0 where
  pub node : ℕ
  pub now : ℕ
  pub begun : Exchange
  pub cleared : Cleared old begun
  pub calls : List Call
  pub turns : EndsAway node now cause begun calls stop new
  pub undone : GoesOnBehind (Ready stop) → IsUndone begun new
