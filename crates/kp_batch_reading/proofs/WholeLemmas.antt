-- A batch by what is known of its records.
use Rattle.std.proofs.Common.{◌≡◌, ℕ, ◌<◌, Bool, true, false, ◌&&◌, List, [], ◌∷◌, length, pos, Ok, Err, refl, sym, ap, ◌∙◌, arith}
use Rattle.std.specs.Prelude.{nat_abs}
use Rattle.std.specs.Ordering.{int_eq}
use Rattle.std.proofs.lemmas.Bool.{and_left}
use Rattle.kp_batch.specs.Spelling.{max_timestamp}
use Rattle.std.proofs.Math.Dec.{eqb-suc-zero}
use Rattle.kp_wire.specs.declared.fault.WireFault.{WireFault}
use Rattle.kp_wire.specs.declared.fault.WireFault.TheVariants.{BadLength}
use Rattle.std.specs.Prelude.{not}
use Rattle.kp_wire.specs.Reading.{◌>>=◌, refuse}
use Rattle.kp_wire.specs.Codec.{read_many}
use Rattle.kp_batch.specs.declared.fault.BatchFault.TheVariants.{BadRecord, Deltas, Timestamps}
use Rattle.kp_batch.specs.declared.relative.RelativeRecord.{RelativeRecord}
use Rattle.kp_batch_reading.specs.declared.gathering.Gathered.{Gathered}
use Rattle.kp_batch.specs.declared.summary.Front.{Front}
use Rattle.kp_batch.specs.declared.summary.Summary.{Summary}
use Rattle.kp_batch.specs.Record.{relative_record}
use Rattle.kp_batch.specs.Reading.{opened, opened_of, all_records, in_places, are_moments, begins_at_base, records_of, is_timed, batch_at}
use Rattle.kp_batch_reading.specs.Gathering.{are_timely, Known}
use Rattle.kp_batch_reading.proofs.GatherLemmas.{timely_are}

-- the bytes up to the records are those of a batch
abbrev pub IsOpen : List ℕ → Front → Summary → List ℕ → Type 0
IsOpen bytes f s body = opened bytes ≡ Ok (opened_of f s body)

-- In what follows n is the count as the machine has it.

pub record_fault : (bytes : List ℕ) (f : Front) (s : Summary) (body : List ℕ) (n : ℕ) (w : WireFault) → IsOpen bytes f s body → n ≡ nat_abs s.count → read_many relative_record.read n body ≡ Err w
    → batch_at bytes ≡ Err (BadRecord w)
unfolding batch_at all_records
record_fault bytes f s body n w opens count reads = rw (opens, ← count, reads) refl

pub bytes_behind : (bytes : List ℕ) (f : Front) (s : Summary) (body rest : List ℕ) (n : ℕ) (rs : List RelativeRecord) → IsOpen bytes f s body → n ≡ nat_abs s.count → read_many relative_record.read n body ≡ Ok (rs, rest) → 0 < length rest
    → batch_at bytes ≡ Err (BadRecord BadLength)
unfolding batch_at all_records
bytes_behind bytes f s body [] n rs opens count reads more = absurd (omega arith)
bytes_behind bytes f s body (x ∷ rest) n rs opens count reads more = rw (opens, ← count, reads, eqb-suc-zero (length rest)) refl

all_read : (n : ℕ) (body rest : List ℕ) (rs : List RelativeRecord) → read_many relative_record.read n body ≡ Ok (rs, rest) → length rest ≡ 0 → all_records n body ≡ Ok rs
unfolding all_records
all_read n body rest rs reads none = rw (reads, none) refl

-- all records are read: the rows are left that look at their places and times
pub by_rows : (bytes : List ℕ) (f : Front) (s : Summary) (body rest : List ℕ) (n : ℕ) (rs : List RelativeRecord) (places times : Bool) → IsOpen bytes f s body → n ≡ nat_abs s.count → read_many relative_record.read n body ≡ Ok (rs, rest)
    → length rest ≡ 0 → in_places 0 rs ≡ places → is_timed s rs ≡ times
    → batch_at bytes ≡ (refuse (not places) Deltas >>= λ _. refuse (not times) Timestamps >>= λ _. Ok (record { base_offset = f.base_offset; leader_epoch = f.leader_epoch; head = s.head; records = records_of s.base_timestamp rs }))
unfolding batch_at
by_rows bytes f s body rest n rs places times opens count reads none placed timed = rw (opens, ← count, all_read n body rest rs reads none, placed, timed) refl

-- ---- the times, by what is known

late : (s : Summary) (rs : List RelativeRecord) → are_timely s.base_timestamp 0 rs ≡ false → is_timed s rs ≡ false
unfolding is_timed
late s rs e = and_left (begins_at_base rs && are_moments s.base_timestamp rs) _ (sym (timely_are s.base_timestamp rs) ∙ e)

pub untimely : (s : Summary) (rs : List RelativeRecord) (g : Gathered) → Known s.base_timestamp rs g → g.timed ≡ false → is_timed s rs ≡ false
untimely s rs g known e = late s rs (sym known.times ∙ e)

pub by_greatest : (s : Summary) (rs : List RelativeRecord) (g : Gathered) → Known s.base_timestamp rs g → g.timed ≡ true → is_timed s rs ≡ int_eq s.max_timestamp (pos g.greatest)
unfolding is_timed
by_greatest s rs g known e =
    ap (λ (t : Bool). t && int_eq s.max_timestamp (pos (max_timestamp (records_of s.base_timestamp rs)))) (sym (timely_are s.base_timestamp rs) ∙ sym known.times ∙ e)
    ∙ ap (λ (n : ℕ). int_eq s.max_timestamp (pos n)) (sym (known.greatest e))
