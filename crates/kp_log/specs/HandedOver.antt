-- The batches that a producer hands over for a partition, and a log to which it sends them.
use Rattle.std.specs.Prelude.{◌≡◌, ℕ, ◌<◌, List, ◌∷◌, ◌++◌, length, ℤ, pos, All}
use Rattle.kp_log.specs.declared.stored.Stored.{Stored}
use Rattle.kp_log.specs.BrokerStep.{Stands, BrokerStep, answered}
use Rattle.kp_log.specs.History.{Sent, History, records_of, of_id}
use Rattle.kp_log.specs.KeptBatches.{IsHistoryOf}
use Rattle.kp_log.specs.Log.{count_of}
use Rattle.kp_log.specs.SequenceRule.{Judgement}

-- ---- batches in sequence

-- Behind these the batch may be handed over: it has records, and its sequence number counts the records handed over
-- under its id before it.
pub record Follows (earlier : List Sent) (b : Sent) : Type 0 where
  pub some_records : 0 < length b.bodies
  pub sequence : b.sequence ≡ count_of (pos b.id) (records_of earlier)

-- Each batch follows those before it.
pub record AreInSequence (handed : List Sent) : Type 0 where
  pub each : (earlier later : List Sent) (b : Sent) → handed ≡ earlier ++ b ∷ later → Follows earlier b

-- ---- a log of these batches

-- The batch has records, and they stand in the log as a whole.
pub record IsStored (records : List Stored) (b : Sent) : Type 0 where
  pub some_records : 0 < length b.bodies
  pub base : ℤ
  pub stands : Stands records b base

-- Of each producer id the batches handed over first were appended, in order; all that were stand as a whole, and the
-- log has no other records under that id.
pub record CameBy (handed : List Sent) (h : History) : Type 0 where
  pub first : (id : ℕ) → (rest : List Sent) × (of_id id handed ≡ of_id id h.batches ++ rest)
  pub whole : All (IsStored h.records) h.batches
  pub counted : (id : ℕ) → count_of (pos id) h.records ≡ count_of (pos id) (records_of h.batches)

-- ---- what a log does with such a batch

-- It is an honest broker's step, to a history that again came by these batches and that the log then holds.
pub record IsHonest (handed : List Sent) (h : History) (b : Sent) (step : Judgement) : Type 0 where
  pub after : History
  pub honest : BrokerStep h b (answered step.answer) after
  pub holds : IsHistoryOf after step.log
  pub came : CameBy handed after
