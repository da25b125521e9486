-- The one spelling of a batch.
use Rattle.std.specs.Prelude.{◌≡◌, ℕ, suc, ◌+◌, ◌-◌, ◌<◌, ◌^◌, min, max, List, [], ◌∷◌, ◌++◌, length, ℤ, pos, negsuc, ◌-ℤ◌, nat_le, if◌then◌else◌}
use Rattle.std.specs.List.{flat_map, AllByRecursion}
use Rattle.std.specs.Int.{w8, w16, w32, w64}
use Rattle.kp_wire.specs.Codec.{Codec, int, number, pair, made}
use Rattle.kp_wire.specs.Checksum.{crc}
use Rattle.kp_batch.specs.declared.batch.Batch.{Batch}
use Rattle.kp_batch.specs.declared.batch.BatchHead.{BatchHead}
use Rattle.kp_batch.specs.declared.record.Record.{Record}
use Rattle.kp_batch.specs.declared.relative.RelativeRecord.{RelativeRecord}
use Rattle.kp_batch.specs.declared.summary.Front.{Front}
use Rattle.kp_batch.specs.declared.summary.Summary.{Summary}
use Rattle.kp_batch.specs.Record.{relative_record}

-- ---- the fields before the records

unfoldable pub front : Codec Front
front = made
    (λ (base_offset, (batch_length, (leader_epoch, (magic, checksum)))). record { base_offset = base_offset; batch_length = batch_length; leader_epoch = leader_epoch; magic = magic; checksum = checksum })
    (λ f. (f.base_offset, (f.batch_length, (f.leader_epoch, (f.magic, f.checksum)))))
    (pair (int w64) (pair (int w32) (pair (int w32) (pair (int w8) (number w32)))))

unfoldable pub head : Codec BatchHead
head = made
    (λ (producer_id, (epoch, base_sequence)). record { producer_id = producer_id; epoch = epoch; base_sequence = base_sequence })
    (λ h. (h.producer_id, (h.epoch, h.base_sequence)))
    (pair (int w64) (pair (int w16) (int w32)))

unfoldable pub summary : Codec Summary
summary = made
    (λ (attributes, (last_offset_delta, (base_timestamp, (max_timestamp, (head, count))))). record { attributes = attributes; last_offset_delta = last_offset_delta; base_timestamp = base_timestamp; max_timestamp = max_timestamp; head = head; count = count })
    (λ s. (s.attributes, (s.last_offset_delta, (s.base_timestamp, (s.max_timestamp, (s.head, s.count))))))
    (pair (int w16) (pair (int w32) (pair (int w64) (pair (int w64) (pair head (int w32))))))

-- ---- the records

-- the first record's timestamp
abbrev pub base_timestamp : List Record → ℕ
base_timestamp [] = 0
base_timestamp (r ∷ rs) = r.timestamp

abbrev pub max_timestamp : List Record → ℕ
max_timestamp [] = 0
max_timestamp (r ∷ rs) = max r.timestamp (max_timestamp rs)

-- the record as it stands where its timestamp and its offset are so much above those of the batch
abbrev pub relative_by : ℤ → ℤ → Record → RelativeRecord
relative_by timestamp_delta offset_delta r = record { timestamp_delta = timestamp_delta; offset_delta = offset_delta; key = r.key; value = r.value; headers = r.headers }

-- the record at place k of a batch with this base timestamp
abbrev pub relative : ℕ → ℕ → Record → RelativeRecord
relative base k r = relative_by (pos r.timestamp -ℤ pos base) (pos k) r

abbrev pub relatives_from : ℕ → ℕ → List Record → List RelativeRecord
relatives_from base k [] = []
relatives_from base k (r ∷ rs) = relative base k r ∷ relatives_from base (suc k) rs

abbrev pub relatives : List Record → List RelativeRecord
relatives rs = relatives_from (base_timestamp rs) 0 rs

-- ---- the batch

abbrev pub summary_of : BatchHead → List Record → Summary
summary_of h rs = record {
  attributes = pos 0;
  last_offset_delta = pos (length rs) -ℤ pos 1;
  base_timestamp = pos (base_timestamp rs);
  max_timestamp = pos (max_timestamp rs);
  head = h;
  count = pos (length rs);
}

-- what the checksum covers
unfoldable pub covered : BatchHead → List Record → List ℕ
covered h rs = summary.spell (summary_of h rs) ++ flat_map relative_record.spell (relatives rs)

-- behind the length stand the leader's epoch, the magic byte and the checksum, 9 bytes, and what it covers
unfoldable pub front_of : Batch → Front
front_of b = record {
  base_offset = b.base_offset;
  batch_length = pos (9 + length (covered b.head b.records));
  leader_epoch = b.leader_epoch;
  magic = pos 2;
  checksum = crc (covered b.head b.records);
}

unfoldable pub spelling : Batch → List ℕ
spelling b = front.spell (front_of b) ++ covered b.head b.records

-- There is a record, the timestamps are those of int64s, and each field that the checksum covers has a spelling.
pub record HasFields (h : BatchHead) (rs : List Record) : Type 0 where
  pub some : 0 < length rs
  pub moments : AllByRecursion (λ r. r.timestamp < 2 ^ 63) rs
  pub summary : summary.Fits (summary_of h rs)
  pub records : AllByRecursion relative_record.Fits (relatives rs)

-- so has each field before the checksum
pub record HasSpelling (b : Batch) : Type 0 where
  pub front : front.Fits (front_of b)
  pub fields : HasFields b.head b.records

pub record Spells (bytes : List ℕ) (b : Batch) : Type 0 where
  pub is_batch : HasSpelling b
  pub is_spelling : bytes ≡ spelling b

-- ---- what a writer writes

-- The value, which fits its format, was put behind what was there.
pub record Puts (Fits : Type 0) (spelling old new : List ℕ) : Type 0 where
  pub fits : Fits
  pub spelled : new ≡ old ++ spelling

abbrev pub written : BatchHead → List Record → Batch
written h rs = record { base_offset = pos 0; leader_epoch = negsuc 0; head = h; records = rs }

-- ---- sizes

-- the most bytes of a batch: the greatest int32
abbrev pub size_limit : ℕ
size_limit = 2147483647

-- the size, or the greatest number of 64 bits once it is above the limit
unfoldable pub measured : ℕ → ℕ
measured n = if nat_le n size_limit then n else 2 ^ 64 - 1

-- the size, or the least above the limit
abbrev pub up_to_limit : ℕ → ℕ
up_to_limit n = min n (size_limit + 1)

-- the fields before the records have 61 bytes
unfoldable pub size_of_batch : List Record → ℕ
size_of_batch rs = 61 + length (flat_map relative_record.spell (relatives rs))
