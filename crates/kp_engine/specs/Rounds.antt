-- A connection's round in a poll over several: what is done over it, beside the others.
use Rattle.std.specs.Prelude.{◌≡◌, ◌<◌, ◌≤◌, ℕ, false, List, [], ◌∷◌, ◌++◌, Option, Some, None, Result, Ok, Err}
use Rattle.std.specs.declared.alloc.AllocError.{AllocError}
use Rattle.kp_connection.specs.Answers.{Answer}
use Rattle.kp_connection.specs.Wire.{Told, Wired}
use Rattle.kp_frames.specs.declared.fault.FrameFault.TheVariants.{Mismatch}
use Rattle.kp_rules.specs.Calls.{Call, Disconnect}
use Rattle.kp_rules.specs.Tick.{has_timed_out}
use Rattle.kp_engine.specs.Exchange.{OnlyCore, Runs}
use Rattle.kp_engine.specs.Polls.{TalksCut, TalksOn, TalksOut}
use Rattle.kp_engine.specs.declared.engine.Line.{Line}
use Rattle.kp_engine.specs.declared.engine.Line.TheVariants.{Open, Stopped}
use Rattle.kp_engine.specs.declared.exchange.Exchange.{Exchange}
use Rattle.kp_engine.specs.declared.stop.Cause.{Cause}
use Rattle.kp_engine.specs.declared.stop.Cause.TheVariants.{BadReply}
use Rattle.kp_engine.specs.declared.stop.Stop.TheVariants.{NeedStream, OutOfMemory}
use Rattle.kp_engine.specs.declared.strays.TheConstants.{STRAY_LIMIT}

-- ---- its parts

-- These calls were made on the core, and nothing else of the exchange has changed.
pub record Makes (calls : List Call) (x y : Exchange) : Type 0 where
  pub runs : Runs x calls y
  pub only : OnlyCore x y

abbrev pub Drops : (node now : ℕ) → Exchange → Exchange → Type 0
Drops node now x y = Makes (Disconnect node now ∷ []) x y

-- ---- all of it

-- Requests, so many at most, and replies, behind which the connection is of no use any more: a request to its node has waited too
-- long; it was cut; or 1,000 replies in a row, now and before, named no request in flight.
pub data IsCut {S : Type 0} (answers : Told S) (most node now : ℕ) (x : Exchange) (w : Wired S) : List Call → List Answer → Cause → Exchange → Wired S → Type 0 where
  by_talk : (cause : Cause) (y : Exchange) (v : Wired S) → (talks : TalksCut answers most node now (has_timed_out node now x.core) x w cause y v)
      → IsCut answers most node now x w (talks.asked ++ talks.replied) talks.xs cause y v
  by_strays : (y : Exchange) (v : Wired S) → has_timed_out node now x.core ≡ false → (talks : TalksOn answers most node now x w y v) → STRAY_LIMIT ≤ y.notes.strays
      → IsCut answers most node now x w (talks.asked ++ talks.replied) talks.xs (BadReply Mismatch) y v

-- It goes on; or it is of no use any more, and what is in flight to its node is dropped; or memory was refused. These are the calls on
-- the core, and what the stream's calls answered.
pub data Rounds {S : Type 0} (answers : Told S) (most node now : ℕ) (x : Exchange) (w : Wired S) : List Call → List Answer → Exchange → Line S → Type 0 where
  goes_on : (y : Exchange) (v : Wired S) → has_timed_out node now x.core ≡ false → (talks : TalksOn answers most node now x w y v) → y.notes.strays < STRAY_LIMIT
      → Rounds answers most node now x w (talks.asked ++ talks.replied) talks.xs y (Open v)
  is_cut : (calls : List Call) (xs : List Answer) (after y : Exchange) (cause : Cause) (v : Wired S) → IsCut answers most node now x w calls xs cause after v
      → Drops node now after y → Rounds answers most node now x w (calls ++ Disconnect node now ∷ []) xs y (Stopped (NeedStream cause))
  no_talk : (y : Exchange) (v : Wired S) → (talks : TalksOut answers most node now x w y v) → Rounds answers most node now x w talks.calls talks.xs y (Stopped OutOfMemory)
  no_drop : (calls : List Call) (xs : List Answer) (after y : Exchange) (cause : Cause) (v : Wired S) → IsCut answers most node now x w calls xs cause after v
      → Makes [] after y → Rounds answers most node now x w calls xs y (Stopped OutOfMemory)

-- how it leaves the connection
abbrev pub line_behind : {S : Type 0} → Result (Option Cause) AllocError → Wired S → Line S
line_behind (Ok None) wire = Open wire
line_behind (Ok (Some cause)) wire = Stopped (NeedStream cause)
line_behind (Err refused) wire = Stopped OutOfMemory

-- By some calls it was made so.
pub record HasRound {S : Type 0} (answers : Told S) (most node now : ℕ) (x : Exchange) (w : Wired S) (y : Exchange) (left : Line S) : Type 0 where
  pub calls : List Call
  pub told : List Answer
  pub round : Rounds answers most node now x w calls told y left
