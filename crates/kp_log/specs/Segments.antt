-- The records of a partition log, in segments.
use Rattle.std.specs.Prelude.{◌≡◌, ℕ, ◌+◌, ◌-◌, ◌^◌, ◌<◌, ◌≤◌, ◌==◌, nat_lt, ⊤, ℤ, List, [], ◌∷◌, ◌++◌, length, map, vec_len, if◌then◌else◌}
use Rattle.std.specs.List.{flat_map, filter, enumerate_from}
use Rattle.std.specs.List.Sorted.{IsPartitionPoint}
use Rattle.std.specs.Vec.{vec_capacity}
use Rattle.std.specs.declared.vec.Vec.{Vec}
use Rattle.kp_log.specs.declared.stored.Stored.{Stored}
use Rattle.kp_log.specs.declared.segments.Segment.{Segment}
use Rattle.kp_log.specs.History.{is_under}
pub use Rattle.kp_log.specs.SegmentRule.{Held, FULL, lengthened, segments_with}

-- ---- what is held

abbrev pub records_of : List Segment → List Stored
records_of segments = flat_map (λ s. s.records.items) segments

abbrev pub lengths_of : List Segment → List ℕ
lengths_of segments = map (λ s. length s.records.items) segments

-- the last segment's length, where it has begun
abbrev pub begun : ℕ → List ℕ
begun len = if len == 0 then [] else len ∷ []

-- what the last segment takes without memory, if it may be put to the full ones without any
abbrev pub room_of : {A B Z : Type 0} → Vec A Z → Vec B Z → ℕ
room_of full last = if nat_lt (vec_len full) (vec_capacity full) then vec_capacity last - vec_len last else 0

abbrev pub held : List Segment → List Stored → ℕ → Held
held full last room = record {
  records = records_of full ++ last;
  segments = lengths_of full ++ begun (length last);
  room = room;
}

-- the offsets, upwards, of the records under these ids, where the first record has this offset
abbrev pub own_from : ℕ → List ℤ → List Stored → List ℕ
own_from first ids records = map (λ at. at.0) (filter (λ at. is_under ids at.1) (enumerate_from first records))

-- ---- what is true of the segments

-- Each is full, and its first record's offset is how many records are before it.
abbrev pub AreFullFrom : ℕ → List Segment → Type 0
AreFullFrom offset [] = ⊤
AreFullFrom offset (s ∷ later) =
    (s.first ≡ offset) × (FULL ≤ length s.records.items) × AreFullFrom (offset + length s.records.items) later

-- so many begin at this offset or before it, and those behind them do not
abbrev pub AreBegunBy : List Segment → ℕ → ℕ → Type 0
AreBegunBy segments offset n = IsPartitionPoint (λ s. s.first ≤ offset) (λ s. offset < s.first) segments n

-- The last segment is not full and stands behind those that are, and each offset fits its type.
pub record AreInPlace (full : List Segment) (first : ℕ) (last : List Stored) : Type 0 where
  pub before : AreFullFrom 0 full
  pub offset : first ≡ length (records_of full)
  pub takes_more : length last < FULL
  pub in_length : length (records_of full) + length last < 2 ^ 64
