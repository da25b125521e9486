-- What a broker's answer to a partition's batch does to the partition (error codes of the protocol
-- guide; which of them are tried again is this producer's own choice: codes that Kafka calls
-- retriable, and 45, which comes where a batch has overtaken another).
use Rattle.std.specs.Prelude.{ℕ, ℤ, pos, Bool, List, [], ◌∷◌, ◌++◌, map, filter, Some, None, ◌==◌, ◌&&◌, ◌||◌, not, if◌then◌else◌}
use Rattle.std.specs.List.{list_any}
use Rattle.std.specs.Ordering.{int_eq}
use Rattle.kp_frames.specs.declared.produce.PartitionProduceResponse.{PartitionProduceResponse}
use Rattle.kp_rules.specs.declared.attempt.Attempt.TheVariants.{Waiting}
use Rattle.kp_rules.specs.declared.meaning.Meaning.{Meaning}
use Rattle.kp_rules.specs.declared.meaning.Meaning.TheVariants.{Stored, Duplicate, Retry, Reject}
use Rattle.kp_rules.specs.declared.outcome.Outcome.TheVariants.{DeliveredNoOffset, Rejected}
use Rattle.kp_rules.specs.Records.{HandedBatch, Open, Partition, Told, Effect}
use Rattle.kp_rules.specs.Partitions.{present_id}
use Rattle.kp_rules.specs.Attempts.{awaits, awaiting}
use Rattle.kp_rules.specs.Telling.{told_all, told_offsets}
use Rattle.kp_rules.specs.Fence.{fence}

-- ---- what a code means

-- corrupt message, unknown topic or partition, leader not available, not leader, request timed out,
-- not enough replicas, not enough replicas after append, out of order sequence number, storage error
abbrev pub retried_codes : List ℤ
retried_codes = pos 2 ∷ pos 3 ∷ pos 5 ∷ pos 6 ∷ pos 7 ∷ pos 19 ∷ pos 20 ∷ pos 45 ∷ pos 56 ∷ []

-- none, and duplicate sequence number: the batch stands in the log
unfoldable pub meaning_of : ℤ → Meaning
meaning_of code =
    if int_eq code (pos 0) then Stored
    else if int_eq code (pos 46) then Duplicate
    else if list_any (int_eq code) retried_codes then Retry
    else Reject

-- ---- the batch that awaits the reply to request k

abbrev pub without_attempt : ℕ → Partition → Partition
without_attempt k t = record t { open_batches = filter (λ o. not (awaits k o)) t.open_batches }

-- the first under the partition's present id
abbrev pub is_first_under_id : Partition → HandedBatch → Bool
is_first_under_id t b = b.sequence == 0 && (b.id == present_id t)

-- It stands in the log: its items are told so, and it is acknowledged.
abbrev pub acknowledge : ℕ → Partition → Open → List Told → Effect
acknowledge k t o told = record {
  after = record (without_attempt k t) {
    acknowledged = t.acknowledged || is_first_under_id t o.batch;
  };
  told = told;
}

abbrev pub put_off : ℕ → ℕ → Open → Open
put_off now k o = if awaits k o then (record o { attempt = Waiting now }) else o

-- It waits for a retry from this moment on.
abbrev pub retry_later : ℕ → ℕ → Partition → Effect
retry_later now k t = record {
  after = record t { open_batches = map (put_off now k) t.open_batches };
  told = [];
}

-- It is refused for good, though it may stand in the log; and then the partition is fenced.
abbrev pub reject : ℕ → Partition → Open → ℤ → Effect
reject k t o code =
    let rest = fence (without_attempt k t) in
    record { after = rest.after; told = told_all (Rejected code) o.batch.items ++ rest.told }

-- ---- the partition's entry in the reply to request k, heard at this moment

abbrev pub settle_by : ℕ → ℕ → Partition → Open → PartitionProduceResponse → Meaning → Effect
settle_by now k t o entry Stored = acknowledge k t o (told_offsets entry.base_offset o.batch.items)
settle_by now k t o entry Duplicate = acknowledge k t o (told_all DeliveredNoOffset o.batch.items)
settle_by now k t o entry Retry = retry_later now k t
settle_by now k t o entry Reject = reject k t o entry.error_code

abbrev pub left_alone : Partition → Effect
left_alone t = record { after = t; told = [] }

-- An entry for an attempt that a fence ended does nothing.
unfoldable pub settle_batch : ℕ → ℕ → Partition → PartitionProduceResponse → Effect
settle_batch now k t entry = elim (awaiting k t) [
  | None ↦ left_alone t
  | Some o ↦ settle_by now k t o entry (meaning_of entry.error_code)
]
