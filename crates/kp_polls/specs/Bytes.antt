-- What goes over one stream, from when it is given to the engine on.
use Rattle.std.specs.Prelude.{◌≡◌, ℕ, List, [], ◌∷◌, ◌++◌, map, flat_map}
use Rattle.std.proofs.Common.{inl, inr}
use Rattle.futures.specs.declared.task.Poll.{Poll}
use Rattle.futures.specs.declared.task.Poll.TheVariants.{Ready, Pending}
use Rattle.kp_accum.specs.declared.config.Config.{Config}
use Rattle.kp_connection.specs.Answers.{Answer, came, gone}
use Rattle.kp_connection.specs.Wire.{Told, Wired, frames}
use Rattle.kp_engine.specs.Away.{MakesTurnAway}
use Rattle.kp_engine.specs.Closing.{Polled, calls_of_poll}
use Rattle.kp_engine.specs.Engine.{Polls, fresh_wire}
use Rattle.kp_engine.specs.Exchange.{with_strays}
use Rattle.kp_engine.specs.Polls.{Turns}
use Rattle.kp_engine.specs.Rounds.{Rounds}
use Rattle.kp_engine.specs.Serving.{asked_by, replied_by}
use Rattle.kp_engine.specs.declared.engine.Line.{Line}
use Rattle.kp_engine.specs.declared.engine.Line.TheVariants.{Open, Stopped}
use Rattle.kp_engine.specs.declared.exchange.Exchange.{Exchange}
use Rattle.kp_engine.specs.declared.stop.Cause.{Cause}
use Rattle.kp_engine.specs.declared.stop.Stop.{Stop}
use Rattle.kp_engine.specs.declared.stop.Stop.TheVariants.{Done, NeedStream, OutOfMemory}
use Rattle.kp_frames.specs.Stream.{stream}
use Rattle.kp_rules.specs.Calls.{Call, Life, Lives}
use Rattle.kp_rules.specs.Framing.{content_of, frame_of}
use Rattle.kp_rules.specs.Records.{Core}
use Rattle.kp_rules.specs.Requesting.{Packet}
use Rattle.kp_rules.specs.declared.names.Names.{Names}

-- ---- polls over one stream

-- what the stream's calls answered in a turn
abbrev pub answered_in_turn : {S : Type 0} (answers : Told S) (node now : ℕ) (x : Exchange) (w : Wired S) (result : Poll Stop) (y : Exchange) (v : Wired S)
    → Turns answers node now x w result y v → List Answer
answered_in_turn answers node now x w Pending y v turn = turn.xs
answered_in_turn answers node now x w (Ready Done) y v (done, inl turn) = turn.xs
answered_in_turn answers node now x w (Ready Done) y v (done, inr (cause, turn)) = turn.xs
answered_in_turn answers node now x w (Ready (NeedStream cause)) y v turn = turn.xs
answered_in_turn answers node now x w (Ready OutOfMemory) y v turn = turn.xs

-- in a poll: nothing, where the stream was given up before
abbrev pub answered_in_poll : {S : Type 0} (answers : Told S) (line : Line S) (x : Exchange) (result : Poll Stop) (y : Exchange) (left : Line S)
    → Polls answers line x result y left → List Answer
answered_in_poll answers (Open wire) x result y left poll = answered_in_turn answers poll.node poll.now poll.begun wire result y poll.after poll.turns
answered_in_poll answers (Stopped stop) x result y left poll = []

-- Polls over one stream and its rounds, from when it was given, behind it those with no connection, and meanwhile others: polls over
-- other streams and their rounds, ends, leaders told. All their calls on the core; those of the polls over the stream and behind it;
-- and all that the stream's calls answered.
pub data OverStream {S : Type 0} (answers : Told S) (given : S) (x : Exchange) : List Call → List Call → List Answer → Exchange → Line S → Type 0 where
  not_yet : OverStream answers given x [] [] [] x (Open (fresh_wire given))
  once_more : (y z : Exchange) (calls mine : List Call) (xs : List Answer) (line left : Line S) (result : Poll Stop) → OverStream answers given x calls mine xs y line
      → (poll : Polls answers line y result z left)
      → OverStream answers given x (calls ++ calls_of_poll answers line y result z left poll) (mine ++ calls_of_poll answers line y result z left poll)
      (xs ++ answered_in_poll answers line y result z left poll) z left
  talked : (y z : Exchange) (calls mine its : List Call) (xs news : List Answer) (most node now strays : ℕ) (wire : Wired S) (left : Line S) → OverStream answers given x calls mine xs y (Open wire)
      → Rounds answers most node now (with_strays strays y) wire its news z left → OverStream answers given x (calls ++ its) (mine ++ its) (xs ++ news) z left
  away : (y z : Exchange) (calls mine : List Call) (xs : List Answer) (cause : Cause) (stop : Stop) → OverStream answers given x calls mine xs y (Stopped (NeedStream cause))
      → (turn : MakesTurnAway cause y stop z) → OverStream answers given x (calls ++ turn.calls) (mine ++ turn.calls) xs z (Stopped stop)
  meanwhile : (y z : Exchange) (calls mine others : List Call) (xs : List Answer) (line : Line S) → OverStream answers given x calls mine xs y line
      → Polled answers y others z → OverStream answers given x (calls ++ others) mine xs z line

-- These stand among those, in their order.
pub data Among {A : Type 0} : List A → List A → Type 0 where
  none : Among [] []
  taken : (x : A) (xs ys : List A) → Among xs ys → Among (x ∷ xs) (x ∷ ys)
  passed : (y : A) (xs ys : List A) → Among xs ys → Among xs (y ∷ ys)

-- ---- its bytes

-- What was written is a beginning of the frames of these packets; each whole frame in it is that of one of them, from the
-- first on.
pub record AreWritten (c : Config) (names : Names) (packets : List Packet) (bytes : List ℕ) : Type 0 where
  pub unwritten : List ℕ
  pub begins : bytes ++ unwritten ≡ flat_map (frame_of c names) packets
  pub whole : List Packet
  pub others : List Packet
  pub first : packets ≡ whole ++ others
  pub frames : (stream bytes).frames ≡ map (content_of c names) whole

-- What was heard are the first whole frames of what came.
abbrev pub AreHeard : List Call → List ℕ → Type 0
AreHeard calls bytes = (more : List (List ℕ)) × ((stream bytes).frames ≡ flat_map replied_by calls ++ more)

-- These calls were made from this core on, and of them those over one stream: of the packets that went out, in their order,
-- some are the stream's own, and its calls gave their frames.
pub record SentOver (c : Config) (names : Names) (s : Core) (calls mine : List Call) (t : Core) : Type 0 where
  pub life : Life
  pub lives : Lives s calls life t
  pub packets : List Packet
  pub among : Among packets life.packets
  pub its : flat_map asked_by mine ≡ map (frame_of c names) packets

-- What went over a stream since it was given: these are the answers of its calls, the bytes written are of its packets, and
-- the contents heard are frames of the bytes that came.
pub record GoesOver {S : Type 0} (answers : Told S) (given : S) (c : Config) (names : Names) (s : Core) (calls mine : List Call) (xs : List Answer) (t : Core) : Type 0 where
  pub left : S
  pub told : answers given xs left
  pub sent : SentOver c names s calls mine t
  pub written : AreWritten c names sent.packets (gone xs)
  pub heard : AreHeard mine (came xs)

-- The same while the stream is there, to the byte: the bytes written, and behind them those that the wire keeps, are the
-- frames of all its packets; and the frames that were heard, and behind them the bytes that it holds, are all that came.
pub record GoesOnOver {S : Type 0} (answers : Told S) (given : S) (c : Config) (names : Names) (s : Core) (calls mine : List Call) (xs : List Answer) (t : Core) (wire : Wired S) : Type 0 where
  pub told : answers given xs wire.stream
  pub sent : SentOver c names s calls mine t
  pub written : gone xs ++ wire.kept ≡ flat_map (frame_of c names) sent.packets
  pub heard : frames (flat_map replied_by mine) ++ wire.held ≡ came xs
