-- Reading a batch: of the rows of its table of faults, the first that applies.
use Rattle.std.specs.Prelude.{◌≡◌, ℕ, suc, ◌^◌, List, [], ◌∷◌, length, map, ℤ, pos, Result, Ok, Err, Bool, true, ◌==◌, ◌&&◌, ◌||◌, not, int_lt, int_le, ◌+ℤ◌, ◌-ℤ◌, nat_abs, if◌then◌else◌, IsOk}
use Rattle.std.specs.Ordering.{int_eq}
use Rattle.kp_wire.specs.declared.fault.WireFault.{WireFault}
use Rattle.kp_wire.specs.declared.fault.WireFault.TheVariants.{BadLength}
use Rattle.kp_wire.specs.Reading.{◌>>=◌, refuse, or_else}
use Rattle.kp_wire.specs.Codec.{read_many}
use Rattle.kp_wire.specs.Checksum.{crc}
use Rattle.kp_batch.specs.declared.fault.BatchFault.{BatchFault}
use Rattle.kp_batch.specs.declared.fault.BatchFault.TheVariants.{Short, Length, Magic, Checksum, Attributes, Count, BadRecord, Deltas, Timestamps, OutOfMemory}
use Rattle.kp_batch.specs.declared.batch.Batch.{Batch}
use Rattle.kp_batch.specs.declared.record.Record.{Record}
use Rattle.kp_batch.specs.declared.relative.RelativeRecord.{RelativeRecord}
use Rattle.kp_batch.specs.declared.summary.Front.{Front}
use Rattle.kp_batch.specs.declared.summary.Summary.{Summary}
use Rattle.kp_batch.specs.Record.{relative_record}
use Rattle.kp_batch.specs.Spelling.{front, summary, max_timestamp}

-- ---- the rows before the records

-- what the length names ends behind the input: the length is that of a batch, and the input is shorter
unfoldable pub is_short : Front → ℕ → Bool
is_short f size = int_le (pos 49) f.batch_length && int_lt (pos size) (pos 12 +ℤ f.batch_length)

-- the length is below that of a batch's fields, or the input is longer
unfoldable pub is_misfit : Front → ℕ → Bool
is_misfit f size = int_lt f.batch_length (pos 49) || int_lt (pos 12 +ℤ f.batch_length) (pos size)

-- there is a record, and the last one's offset delta is its place
unfoldable pub is_counted : Summary → Bool
is_counted s = int_le (pos 1) s.count && int_eq s.last_offset_delta (s.count -ℤ pos 1)

-- what these rows let through
pub record Opened : Type 0 where
  pub front : Front
  pub summary : Summary
  pub records : List ℕ

abbrev pub opened_of : Front → Summary → List ℕ → Opened
opened_of f s records = record { front = f; summary = s; records = records }

unfoldable pub opened : List ℕ → Result Opened BatchFault
opened bytes = do
  f ← or_else (λ _. Short) (front.read bytes)
  s ← or_else (λ _. Short) (summary.read f.1)
  _ ← refuse (is_short f.0 (length bytes)) Short
  _ ← refuse (is_misfit f.0 (length bytes)) Length
  _ ← refuse (not (int_eq f.0.magic (pos 2))) Magic
  _ ← refuse (not (crc f.1 == f.0.checksum)) Checksum
  _ ← refuse (not (int_eq s.0.attributes (pos 0))) Attributes
  _ ← refuse (not (is_counted s.0)) Count
  Ok (opened_of f.0 s.0 s.1)

-- ---- the rows of the records

-- so many records, all of the bytes
unfoldable pub all_records : ℕ → List ℕ → Result (List RelativeRecord) WireFault
all_records n bytes = do
  x ← read_many relative_record.read n bytes
  if length x.1 == 0 then Ok x.0 else Err BadLength

-- each offset delta is the record's place, from k on
unfoldable pub in_places : ℕ → List RelativeRecord → Bool
in_places k [] = true
in_places k (r ∷ rs) = int_eq r.offset_delta (pos k) && in_places (suc k) rs

-- the moment in an int64, and not before 1970
abbrev pub is_moment : ℤ → Bool
is_moment t = int_le (pos 0) t && int_lt t (pos (2 ^ 63))

unfoldable pub are_moments : ℤ → List RelativeRecord → Bool
are_moments base [] = true
are_moments base (r ∷ rs) = is_moment (base +ℤ r.timestamp_delta) && are_moments base rs

-- the first record has the base timestamp
unfoldable pub begins_at_base : List RelativeRecord → Bool
begins_at_base [] = true
begins_at_base (r ∷ rs) = int_eq r.timestamp_delta (pos 0)

abbrev pub absolute : ℤ → RelativeRecord → Record
absolute base r = record { timestamp = nat_abs (base +ℤ r.timestamp_delta); key = r.key; value = r.value; headers = r.headers }

abbrev pub records_of : ℤ → List RelativeRecord → List Record
records_of base rs = map (absolute base) rs

unfoldable pub is_timed : Summary → List RelativeRecord → Bool
is_timed s rs =
    begins_at_base rs && are_moments s.base_timestamp rs
    && int_eq s.max_timestamp (pos (max_timestamp (records_of s.base_timestamp rs)))

-- ---- the batch that is the whole input

unfoldable pub batch_at : List ℕ → Result Batch BatchFault
batch_at bytes = do
  o ← opened bytes
  rs ← or_else BadRecord (all_records (nat_abs o.summary.count) o.records)
  _ ← refuse (not (in_places 0 rs)) Deltas
  _ ← refuse (not (is_timed o.summary rs)) Timestamps
  Ok (record {
    base_offset = o.front.base_offset;
    leader_epoch = o.front.leader_epoch;
    head = o.summary.head;
    records = records_of o.summary.base_timestamp rs;
  })

-- ---- what a function gave

-- The fault is that of reading, or memory was refused behind the rows before the records.
abbrev pub Refuses : {Y : Type 0} → List ℕ → BatchFault → Result Y BatchFault → Type 0
Refuses bytes OutOfMemory read = IsOk (opened bytes)
Refuses bytes fault read = read ≡ Err fault
