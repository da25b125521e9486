-- What any honest broker may do with a batch that comes, and what the loopback broker does (KIP-98, "Broker logic").
use Rattle.std.specs.Prelude.{◌≡◌, ◌⊎◌, ◌≤◌, List, ◌∷◌, ◌++◌, length, ℤ, pos, negsuc}
use Rattle.kp_log.specs.declared.answer.Answer.{Answer}
use Rattle.kp_log.specs.declared.stored.Stored.{Stored}
use Rattle.kp_log.specs.declared.offering.Verdict.{Verdict}
use Rattle.kp_log.specs.declared.offering.Verdict.TheVariants.{Refuse, Repeat, Append}
use Rattle.kp_log.specs.Answer.{code_of, base_offset_of}
use Rattle.kp_log.specs.History.{Sent, History, stored_of, batch_of, of_id, with_batch}
use Rattle.kp_log.specs.KeptBatches.{log_for}
use Rattle.kp_log.specs.Log.{KEPT, count_of}
use Rattle.kp_log.specs.SequenceRule.{verdict, done}
pub use Rattle.kp_log.specs.ErrorCode.{NO_ERROR, DUPLICATE_SEQUENCE_NUMBER}

-- What a broker answers for one batch, as it stands in a Produce response.
pub record Answered : Type 0 where
  pub code : ℤ
  pub base : ℤ

-- ---- what is true of a batch and a log

-- The batch's records stand in the log from the base offset on, under its id, and so many records of that id before
-- them as its sequence number says.
pub record Stands (records : List Stored) (b : Sent) (base : ℤ) : Type 0 where
  pub before : List Stored
  pub after : List Stored
  pub split : records ≡ before ++ (stored_of b ++ after)
  pub offset : base ≡ pos (length before)
  pub place : count_of (pos b.id) before ≡ b.sequence

-- The batch was appended, and at least five later ones of its id were.
pub record IsOld (batches : List Sent) (b : Sent) : Type 0 where
  pub earlier : List Sent
  pub later : List Sent
  pub split : batches ≡ earlier ++ b ∷ later
  pub more : KEPT ≤ length (of_id b.id later)

-- It begins at the count of its id's records in the log, or its id has none there.
abbrev pub MayAppend : History → Sent → Type 0
MayAppend h b = (count_of (pos b.id) h.records ≡ b.sequence) ⊎ (count_of (pos b.id) h.records ≡ 0)

-- ---- any honest broker

-- The history stays, or the batch is appended where it may be. No error is answered only where the batch then stands
-- at the base offset, and a duplicate only where it is then old; any other code may be answered in all cases.
pub record BrokerStep (before : History) (b : Sent) (answer : Answered) (after : History) : Type 0 where
  pub change : (after ≡ before) ⊎ (MayAppend before b × (after ≡ with_batch b before))
  pub stands : answer.code ≡ NO_ERROR → Stands after.records b answer.base
  pub is_old : answer.code ≡ DUPLICATE_SEQUENCE_NUMBER → IsOld after.batches b

-- ---- the loopback broker

-- An answer, and the history after it.
pub record Offered : Type 0 where
  pub answer : Answered
  pub history : History

abbrev pub answered : Answer → Answered
answered a = record { code = code_of a; base = base_offset_of a }

-- the history once this was done with the batch
abbrev pub history_after : History → Sent → Verdict → History
history_after h b (Refuse refusal) = h
history_after h b (Repeat offset) = h
history_after h b Append = with_batch b h

-- It goes by the sequence rule.
unfoldable pub offered_to : History → Sent → Offered
offered_to h b =
    let log = log_for b.id h in
    let v = verdict log (batch_of b) in
    record { answer = answered (done log (batch_of b) v).answer; history = history_after h b v }

-- no offset goes with an error
abbrev pub error_of : ℤ → Answered
error_of code = record { code = code; base = negsuc 0 }

-- Told to refuse with a code, it does not look at the batch.
abbrev pub refused_unseen : History → ℤ → Offered
refused_unseen h code = record { answer = error_of code; history = h }

-- Told to answer late, it does with the batch what it would, and then answers with this code.
abbrev pub offered_late : History → Sent → ℤ → Offered
offered_late h b code = record { answer = error_of code; history = (offered_to h b).history }
