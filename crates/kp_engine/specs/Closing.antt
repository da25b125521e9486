-- Polls of the engine one after the other, with all their calls, and how often they close the core.
use Rattle.std.specs.Prelude.{◌≡◌, ◌||◌, ℕ, Bool, false, List, [], ◌∷◌, ◌++◌, flat_map, IsTrue}
use Rattle.std.specs.List.{AllByRecursion}
use Rattle.std.proofs.Common.{inl, inr}
use Rattle.futures.specs.declared.task.Poll.{Poll}
use Rattle.futures.specs.declared.task.Poll.TheVariants.{Ready, Pending}
use Rattle.kp_connection.specs.Wire.{Told, Wired}
use Rattle.kp_rules.specs.Calls.{Call, Close, Disconnect, End, Lead, Life, Lives, Reply, Request, Step, Tick}
use Rattle.kp_rules.specs.InOrder.{IsHeld}
use Rattle.kp_engine.specs.Away.{MakesTurnAway}
use Rattle.kp_engine.specs.Engine.{Polls}
use Rattle.kp_engine.specs.Exchange.{AreIdle, IsQuiet, OnlyCore}
use Rattle.kp_engine.specs.Polls.{Turns}
use Rattle.kp_engine.specs.Serving.{Served}
use Rattle.kp_engine.specs.Turn.{if_so}
use Rattle.kp_engine.specs.declared.engine.Line.{Line}
use Rattle.kp_engine.specs.declared.engine.Line.TheVariants.{Open, Stopped}
use Rattle.kp_engine.specs.declared.exchange.Exchange.{Exchange}
use Rattle.kp_engine.specs.declared.stop.Cause.{Cause}
use Rattle.kp_engine.specs.declared.stop.Stop.{Stop}
use Rattle.kp_engine.specs.declared.stop.Stop.TheVariants.{Done, NeedStream, OutOfMemory}

-- ---- polls, one after the other

-- the calls of a turn
abbrev pub calls_of_turn : {S : Type 0} (answers : Told S) (node now : ℕ) (x : Exchange) (w : Wired S) (result : Poll Stop) (y : Exchange) (v : Wired S)
    → Turns answers node now x w result y v → List Call
calls_of_turn answers node now x w Pending y v turn = turn.calls
calls_of_turn answers node now x w (Ready Done) y v (done, inl turn) = turn.calls
calls_of_turn answers node now x w (Ready Done) y v (done, inr (cause, turn)) = turn.calls
calls_of_turn answers node now x w (Ready (NeedStream cause)) y v turn = turn.calls
calls_of_turn answers node now x w (Ready OutOfMemory) y v turn = turn.calls

-- the calls of a poll: none, where the connection was given up before
abbrev pub calls_of_poll : {S : Type 0} (answers : Told S) (line : Line S) (x : Exchange) (result : Poll Stop) (y : Exchange) (left : Line S)
    → Polls answers line x result y left → List Call
calls_of_poll answers (Open wire) x result y left poll = calls_of_turn answers poll.node poll.now poll.begun wire result y poll.after poll.turns
calls_of_poll answers (Stopped stop) x result y left poll = []

-- it looks at the clock for a node, asks for a request, hears a reply or drops what is in flight
abbrev pub IsTalk : Call → Type 0
IsTalk (Tick node now answer) = Unit {0}
IsTalk (Request node now answer) = Unit {0}
IsTalk (Reply now content answer) = Unit {0}
IsTalk (Disconnect node now) = Unit {0}
IsTalk call = ⊥

-- Polls, ends and leaders told, one after the other, each poll over whatever connection there is then, or with none, and behind
-- it the rounds of several, and connections that are dropped: all their calls.
pub data Polled {S : Type 0} (answers : Told S) (x : Exchange) : List Call → Exchange → Type 0 where
  not_yet : Polled answers x [] x
  once_more : (y z : Exchange) (calls : List Call) (line left : Line S) (result : Poll Stop) → Polled answers x calls y
      → (poll : Polls answers line y result z left) → Polled answers x (calls ++ calls_of_poll answers line y result z left poll) z
  away : (y z : Exchange) (calls : List Call) (cause : Cause) (stop : Stop) → Polled answers x calls y
      → (turn : MakesTurnAway cause y stop z) → Polled answers x (calls ++ turn.calls) z
  talked : (y z : Exchange) (calls its : List Call) (life : Life) → Polled answers x calls y → AllByRecursion IsTalk its
      → Lives y.core its life z.core → AllByRecursion IsHeld its → OnlyCore y z → Polled answers x (calls ++ its) z
  ended : (y z : Exchange) (calls : List Call) (told : ℕ) → Polled answers x calls y → Step y.core (End told) z.core
      → OnlyCore y z → Polled answers x (calls ++ End told ∷ []) z
  led : (y z : Exchange) (calls : List Call) (partition leader now : ℕ) → Polled answers x calls y
      → Step y.core (Lead partition leader now) z.core → OnlyCore y z → Polled answers x (calls ++ Lead partition leader now ∷ []) z

-- ---- the close

-- this call, where it closes the core
abbrev pub closing : Call → List Call
closing Close = Close ∷ []
closing call = []

-- Between these two the core was closed by one call. After the poll that made it, it was known that no sender could send
-- any more before each lane was found empty, and nothing was held.
pub record ClosedBetween (x : Exchange) (calls : List Call) (y : Exchange) : Type 0 where
  pub before : List Call
  pub at : Exchange
  pub after : List Call
  pub made : calls ≡ before ++ after
  pub closes : flat_map closing before ≡ Close ∷ []
  pub served : Served x before at
  pub quiet : IsQuiet at
  pub idle : AreIdle at
  pub goes_on : Served at after y

-- Close stands at most once among the calls, and it stands there where the core is closed now and was not before.
pub record ClosesOnce (x : Exchange) (calls : List Call) (y : Exchange) : Type 0 where
  pub closes : Bool
  pub stands : flat_map closing calls ≡ if_so closes Close
  pub closed : y.closed ≡ (x.closed || closes)
  pub only : IsTrue closes → (x.closed ≡ false) × ClosedBetween x calls y
