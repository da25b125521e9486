-- A poll of the engine, and its clock.
use Rattle.std.specs.Prelude.{◌≡◌, ◌++◌, ◌∷◌, [], ℕ, List}
use Rattle.futures.specs.declared.task.Poll.{Poll}
use Rattle.kp_connection.specs.Wire.{Told}
use Rattle.kp_engine.specs.Away.{MakesTurnAway}
use Rattle.kp_engine.specs.Engine.{IsFor, Polls, moments_in}
use Rattle.kp_engine.specs.declared.engine.Engine.{Engine}
use Rattle.kp_engine.specs.declared.engine.Line.TheVariants.{Stopped}
use Rattle.kp_engine.specs.declared.stop.Cause.{Cause}
use Rattle.kp_engine.specs.declared.stop.Stop.{Stop}
use Rattle.kp_engine.specs.declared.stop.Stop.TheVariants.{NeedStream}

-- One poll, in which the clock tells one moment, that of the turn; it tells none where no turn is made. A turn is for node 0.
pub record PollsOnce {S C : Type 0} (answers : Told S) (moments : C → List ℕ) (old : Engine S C) (polled : Poll Stop) (new : Engine S C) : Type 0 where
  pub polls : Polls answers old.line old.exchange polled new.exchange new.line
  pub told : moments new.clock ≡ moments old.clock ++ moments_in answers old.line old.exchange polled new.exchange new.line polls
  pub node : IsFor answers 0 old.line old.exchange polled new.exchange new.line polls

-- One poll with no connection, where the last one gave NeedStream, for node 0: the clock tells the turn's moment, and a poll
-- would answer the same from then on.
pub record PollsAway {S C : Type 0} (moments : C → List ℕ) (old : Engine S C) (stop : Stop) (new : Engine S C) : Type 0 where
  pub cause : Cause
  pub was : old.line ≡ Stopped (NeedStream cause)
  pub turn : MakesTurnAway cause old.exchange stop new.exchange
  pub line : new.line ≡ Stopped stop
  pub told : moments new.clock ≡ moments old.clock ++ turn.now ∷ []
  pub node : turn.node ≡ 0
