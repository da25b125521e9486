-- What is known of a batch's records while they are read one after the other.
use Rattle.std.specs.Prelude.{◌≡◌, ℕ, suc, List, [], ◌∷◌, ℤ, pos, Result, Ok, Err, Option, Some, None, Bool, true, ◌&&◌, ◌||◌, nat_lt, ◌+ℤ◌, nat_abs, if◌then◌else◌}
use Rattle.std.specs.Ordering.{int_eq}
use Rattle.kp_wire.specs.declared.fault.WireFault.{WireFault}
use Rattle.kp_wire.specs.declared.fault.ReadError.{ReadError}
use Rattle.kp_wire.specs.Reading.{Fails}
use Rattle.kp_batch_reading.specs.declared.gathering.Gathered.{Gathered}
use Rattle.kp_batch.specs.declared.relative.RelativeRecord.{RelativeRecord}
use Rattle.kp_batch.specs.Spelling.{max_timestamp}
use Rattle.kp_batch.specs.Reading.{in_places, is_moment, records_of}

-- the record at place k has a moment, and the first one has the base timestamp
abbrev pub is_timely : ℤ → ℕ → RelativeRecord → Bool
is_timely base k r = is_moment (base +ℤ r.timestamp_delta) && (nat_lt 0 k || int_eq r.timestamp_delta (pos 0))

unfoldable pub are_timely : ℤ → ℕ → List RelativeRecord → Bool
are_timely base k [] = true
are_timely base k (r ∷ rs) = is_timely base k r && are_timely base (suc k) rs

-- the moment of the record at place k
abbrev pub timely_moment : ℤ → ℕ → RelativeRecord → Option ℕ
timely_moment base k r = if is_timely base k r then Some (nat_abs (base +ℤ r.timestamp_delta)) else None

-- whether the records are in their places and timely; and as long as they are timely, what they are
pub record Known (base : ℤ) (rs : List RelativeRecord) (g : Gathered) : Type 0 where
  pub places : g.in_places ≡ in_places 0 rs
  pub times : g.timed ≡ are_timely base 0 rs
  pub records : g.timed ≡ true → g.records ≡ records_of base rs
  pub greatest : g.timed ≡ true → g.greatest ≡ max_timestamp (records_of base rs)

-- What is known of the records that reading gives, and the bytes behind them, seen by view; else the error of reading.
abbrev pub Gathers : {Y : Type 0} → ℤ → (Y → List ℕ) → Result (Gathered × Y) ReadError → Result (List RelativeRecord × List ℕ) WireFault → Type 0
Gathers base view (Ok x) read = (rs : List RelativeRecord) × (read ≡ Ok (rs, view x.1)) × Known base rs x.0
Gathers base view (Err e) read = Fails e read
