-- The lines in which a world tells what happened, and what it comes to.
use Rattle.std.specs.Prelude.{ℕ, List, ℤ}
use Rattle.kp_rules.specs.declared.run.Run.{Run}
use Rattle.kp_rules.specs.declared.outcome.Report.{Report}

-- A part of a packet: its partition, base sequence and count. A part of a reply: its partition,
-- code and base offset.
pub record SentPart : Type 0 where
  pub partition : ℕ
  pub sequence : ℕ
  pub count : ℕ

pub record AnswerPart : Type 0 where
  pub partition : ℕ
  pub code : ℤ
  pub base : ℤ

pub data Line : Type 0 where
  -- of an accept that was refused, and of a take that moved nothing
  Closed : (sender partition : ℕ) → Line
  Large : (sender partition : ℕ) → Line
  Empty : (sender : ℕ) → Line
  Full : (sender : ℕ) → Line
  -- of a tick
  Reconnect : Line
  -- of a send
  SentBatches : (packet : ℕ) → List SentPart → Line
  SentInit : (packet : ℕ) → Line
  Idle : Line
  Ended : Line
  -- of a delivery
  AnswerBatches : (reply : ℕ) → List AnswerPart → Line
  AnswerInit : (reply : ℕ) → (code id : ℤ) → Line
  -- of a reply to no request in flight
  Stale : (reply : ℕ) → Line
  -- of a flush
  Flushing : Line
  Flushed : Line
  -- what was told in an event
  Reported : Report → Line
  -- what the world comes to: each log's records, this producer's and others', and each audit
  Logged : (partition offset : ℕ) → (value : List ℕ) → Line
  LoggedOther : (partition offset : ℕ) → Line
  Audited : (partition : ℕ) → Run → Line
