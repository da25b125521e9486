-- What a partition log holds.
use Rattle.std.specs.Prelude.{◌≡◌, ℕ, suc, ◌+◌, ◌-◌, ◌^◌, ◌≤◌, List, [], ◌∷◌, ◌++◌, length, map, ℤ, pos, negsuc, drop, unwrap_or, if◌then◌else◌}
use Rattle.std.specs.Ordering.{int_eq, int_cmp}
use Rattle.std.specs.BTreeMap.{insert_entry, is_at}
use Rattle.std.specs.Map.{lookup}
use Rattle.kp_batch.specs.declared.batch.Batch.{Batch}
use Rattle.kp_batch.specs.declared.record.Record.{Record}
use Rattle.kp_log.specs.declared.stored.Stored.{Stored}
use Rattle.kp_log.specs.declared.kept.Span.{Span}
use Rattle.kp_log.specs.declared.kept.Kept.{Kept}
use Rattle.kp_log.specs.SegmentRule.{Held, segments_with}

-- The records by offset; by producer id the count of its records and its last batches; and the lengths of the segments
-- in which the records lie, the oldest first.
pub record Log : Type 0 where
  pub records : List Stored
  pub kept : List (ℤ × Kept)
  pub segments : List ℕ

abbrev pub empty : Log
empty = record { records = []; kept = []; segments = [] }

-- the log of what is held in segments
abbrev pub log_of : Held → List (ℤ × Kept) → Log
log_of held kept = record { records = held.records; kept = kept; segments = held.segments }

-- how many records of a log are this producer's
abbrev pub count_of : ℤ → List Stored → ℕ
count_of id [] = 0
count_of id (s ∷ rest) = if int_eq s.producer_id id then suc (count_of id rest) else count_of id rest

abbrev pub nothing_kept : Kept
nothing_kept = record { count = 0; spans = [] }

abbrev pub kept_of : ℤ → Log → Kept
kept_of id log = unwrap_or (lookup (is_at (int_cmp id)) log.kept) nothing_kept

-- ---- an append

-- how many batches of a producer are kept
abbrev pub KEPT : ℕ
KEPT = 5

-- the last of these batches
abbrev pub last_kept : List Span → List Span
last_kept spans = drop (length spans - KEPT) spans

abbrev pub stored_as : ℤ → List Record → List Stored
stored_as id rs = map (λ r. record { producer_id = id; body = r }) rs

-- where a batch's records stand once it was appended
abbrev pub span_of : Log → Batch → Span
span_of log b = record { base_sequence = b.head.base_sequence; count = length b.records; base_offset = pos (length log.records) }

-- what is kept with one batch more
abbrev pub kept_after : Kept → Span → Kept
kept_after kept span = record { count = kept.count + span.count; spans = last_kept (kept.spans ++ span ∷ []) }

abbrev pub appended : Log → Batch → Log
appended log b = record {
  records = log.records ++ stored_as b.head.producer_id b.records;
  kept = insert_entry int_cmp log.kept b.head.producer_id (kept_after (kept_of b.head.producer_id log) (span_of log b));
  segments = segments_with (length b.records) log.segments;
}

-- the id under which records stand that came without one
abbrev pub NO_ID : ℤ
NO_ID = negsuc 0

-- another producer's records: nothing is kept of it
abbrev pub others_appended : Log → List Record → Log
others_appended log bodies = record log {
  records = log.records ++ stored_as NO_ID bodies;
  segments = segments_with (length bodies) log.segments;
}

-- ---- what is true of each log

-- the first number that no sequence number may reach: they are int32s
abbrev pub SEQUENCE_LIMIT : ℕ
SEQUENCE_LIMIT = 2 ^ 31

-- the greatest length of a log: offsets are int64s
abbrev pub LENGTH_LIMIT : ℕ
LENGTH_LIMIT = 2 ^ 63 - 1

-- The kept counts are those of the records, and no number leaves its type. Ids below 0 are no producer's.
pub record IsSound (log : Log) : Type 0 where
  pub counted : (id : ℕ) → (kept_of (pos id) log).count ≡ count_of (pos id) log.records
  pub in_sequence : (id : ℕ) → count_of (pos id) log.records ≤ SEQUENCE_LIMIT
  pub in_length : length log.records ≤ LENGTH_LIMIT
