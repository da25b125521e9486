-- What a partition log keeps of its history.
use Rattle.std.specs.Prelude.{◌≡◌, ℕ, List, [], ◌∷◌, length, map, slice_index, pos}
use Rattle.kp_log.specs.declared.stored.Stored.{Stored}
use Rattle.kp_log.specs.declared.kept.Span.{Span}
use Rattle.kp_log.specs.declared.kept.Kept.{Kept}
use Rattle.kp_log.specs.Log.{Log, count_of, kept_of, last_kept}
use Rattle.kp_log.specs.History.{Sent, History, of_id, own_offsets}

-- where an appended batch begins: at the record of its id that has the batch's sequence number
abbrev pub offset_in : List Stored → Sent → ℕ
offset_in records b = slice_index (own_offsets (pos b.id ∷ []) records) b.sequence

abbrev pub span_in : List Stored → Sent → Span
span_in records b = record {
  base_sequence = pos b.sequence;
  count = length b.bodies;
  base_offset = pos (offset_in records b);
}

-- of a producer id the count of its records, and the last of its batches
unfoldable pub kept_in : ℕ → History → Kept
kept_in id h = record {
  count = count_of (pos id) h.records;
  spans = last_kept (map (span_in h.records) (of_id id h.batches));
}

-- the log of a history, as far as a verdict on a batch of this producer id is concerned
abbrev pub log_for : ℕ → History → Log
log_for id h = record { records = h.records; kept = (pos id, kept_in id h) ∷ []; segments = [] }

-- The log has the records of this history, in whatever segments, and keeps of each producer id what is to be kept of
-- it.
pub record IsHistoryOf (h : History) (log : Log) : Type 0 where
  pub records : log.records ≡ h.records
  pub kept : (id : ℕ) → kept_of (pos id) log ≡ kept_in id h
