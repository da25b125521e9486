-- A partition's log as the history of a run tells it: its records, and the batches from which they came.
use Rattle.std.specs.Prelude.{ℕ, ◌++◌, ◌==◌, Bool, List, [], ◌∷◌, map, replicate, ℤ, pos}
use Rattle.std.specs.List.{filter, flat_map, list_any, enumerate_from}
use Rattle.std.specs.Ordering.{int_eq}
use Rattle.kp_batch.specs.declared.batch.Batch.{Batch}
use Rattle.kp_batch.specs.declared.batch.BatchHead.{BatchHead}
use Rattle.kp_batch.specs.declared.record.Record.{Record}
use Rattle.kp_batch.specs.Spelling.{written}
use Rattle.kp_log.specs.declared.stored.Stored.{Stored}
use Rattle.kp_log.specs.Log.{stored_as, NO_ID}

-- ---- batches

-- A batch that a producer handed over, as a broker sees it: whose it is, the sequence number of its first record, and
-- its records.
pub record Sent : Type 0 where
  pub id : ℕ
  pub sequence : ℕ
  pub bodies : List Record

-- an idempotent producer without transactions has epoch 0
abbrev pub head_of : Sent → BatchHead
head_of b = record { producer_id = pos b.id; epoch = pos 0; base_sequence = pos b.sequence }

-- the batch that is written for it
abbrev pub batch_of : Sent → Batch
batch_of b = written (head_of b) b.bodies

-- the same as a broker may find it: the base offset and the leader's epoch are not the producer's to say
abbrev pub arrived : ℤ → ℤ → Sent → Batch
arrived offset leader_epoch b = record (batch_of b) { base_offset = offset; leader_epoch = leader_epoch }

-- its records as a log has them
abbrev pub stored_of : Sent → List Stored
stored_of b = stored_as (pos b.id) b.bodies

-- the records of several batches, one batch after the other
abbrev pub records_of : List Sent → List Stored
records_of batches = flat_map stored_of batches

-- the batches of one producer id, in their order
abbrev pub of_id : ℕ → List Sent → List Sent
of_id id batches = filter (λ b. b.id == id) batches

-- ---- histories

-- The records by offset, and the batches of this producer that were appended, the oldest first.
pub record History : Type 0 where
  pub records : List Stored
  pub batches : List Sent

abbrev pub empty_history : History
empty_history = record { records = []; batches = [] }

-- the history with a batch appended
abbrev pub with_batch : Sent → History → History
with_batch b h = record { records = h.records ++ stored_of b; batches = h.batches ++ b ∷ [] }

-- the history once another producer has appended so many records, each with this body
abbrev pub with_others : ℕ → Record → History → History
with_others n body h = record { records = h.records ++ stored_as NO_ID (replicate n body); batches = h.batches }

-- ---- whose records they are

abbrev pub is_under : List ℤ → Stored → Bool
is_under ids s = list_any (int_eq s.producer_id) ids

-- a producer's own records of a log, in order: those under one of its ids
unfoldable pub own : List ℕ → List Stored → List Stored
own ids records = filter (is_under (map pos ids)) records

-- the offsets, upwards, of the records under these ids
unfoldable pub own_offsets : List ℤ → List Stored → List ℕ
own_offsets ids records = map (λ at. at.0) (filter (λ at. is_under ids at.1) (enumerate_from 0 records))
