-- Frames of a connection, taken one by one or by the piece.
use Rattle.std.specs.Prelude.{◌≡◌, ◌≢◌, ℕ, List, [], ◌∷◌, ◌++◌, Result, Ok, Err}
use Rattle.kp_frames.specs.Stream.{stream}
use Rattle.kp_broker.specs.declared.fault.BrokerFault.{BrokerFault}
use Rattle.kp_broker.specs.declared.fault.BrokerFault.TheVariants.{Frame, Io, OutOfMemory, TooLong}
use Rattle.kp_broker.specs.declared.serving.Served.{Served}
use Rattle.kp_broker.specs.declared.serving.Served.TheVariants.{End}
use Rattle.kp_broker.specs.Broker.{Broker}
use Rattle.kp_broker.specs.Calls.{Answer, Told, gone, reads, AreGood, EndsWith, HasFailed}
use Rattle.kp_broker.specs.Plan.{Plan}
use Rattle.kp_broker.specs.Serving.{ServesFrames, ServesAs}

-- The answers were good, but the last where the connection failed.
abbrev pub GoBy : Result Served BrokerFault → List Answer → Type 0
GoBy (Ok served) xs = AreGood xs
GoBy (Err (Frame fault)) xs = AreGood xs
GoBy (Err Io) xs = EndsWith HasFailed xs
GoBy (Err OutOfMemory) xs = AreGood xs
GoBy (Err TooLong) xs = AreGood xs

pub record TakesFrame {C : Type 0} (answers : Told C) (node : ℕ) (plan : Plan) (before : Broker) (content : List ℕ) (old : C) (result : Result Served BrokerFault) (new : C) (after : Broker) : Type 0 where
  pub xs : List Answer
  pub told : answers old xs new
  pub no_reads : reads xs ≡ 0
  pub go : GoBy result xs
  pub served : ServesFrames node plan before (content ∷ []) result (gone xs) after

-- Once all frames are taken, what is left of the stream is its rest.
pub record TakesFrames {C : Type 0} (answers : Told C) (node : ℕ) (plan : Plan) (before : Broker) (bytes : List ℕ) (old : C) (result : Result Served BrokerFault) (left : List ℕ) (new : C) (after : Broker) : Type 0 where
  pub xs : List Answer
  pub told : answers old xs new
  pub no_reads : reads xs ≡ 0
  pub go : GoBy result xs
  pub served : ServesFrames node plan before (stream bytes).frames result (gone xs) after
  pub rest : result ≡ Ok End → left ≡ (stream bytes).rest

pub record TakesPiece {C : Type 0} (answers : Told C) (node : ℕ) (plan : Plan) (before : Broker) (bytes piece : List ℕ) (old : C) (result : Result Served BrokerFault) (left : List ℕ) (new : C) (after : Broker) : Type 0 where
  pub xs : List Answer
  pub told : answers old xs new
  pub no_reads : reads xs ≡ 0
  pub go : GoBy result xs
  pub served : ServesAs node plan before (bytes ++ piece) result (gone xs) after
  pub in_time : result ≢ Err TooLong
  pub rest : result ≡ Ok End → left ≡ (stream (bytes ++ piece)).rest
