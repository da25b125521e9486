-- Records less the batch's timestamp and offset, and back.
use Rattle.std.proofs.Common.{◌≡◌, ℕ, suc, ◌<◌, ◌^◌, true, List, [], ◌∷◌, length, get_or, drop, drop-cons, add-one, ◌+◌, ℤ, pos, negsuc, refl, sym, ap, ◌∙◌, arith}
use Rattle.std.specs.Prelude.{nat_abs, ◌+ℤ◌, ◌-ℤ◌}
use Rattle.std.specs.List.{AllByRecursion}
use Rattle.std.specs.Int.{w32, w64}
use mir.Val.{to_z, of_z}
use Rattle.std.proofs.lemmas.Int.{ints, to_z_pos}
use Rattle.std.proofs.lemmas.Bool.{and_parts}
use Rattle.std.proofs.lemmas.Bool.Decides.{Decides-int_eq}
use Rattle.kp_batch.specs.declared.record.Record.{Record}
use Rattle.kp_batch.specs.declared.relative.RelativeRecord.{RelativeRecord}
use Rattle.kp_batch.specs.Spelling.{base_timestamp, relative, relative_by, relatives_from, relatives}
use Rattle.kp_batch.specs.Reading.{in_places, is_moment, are_moments, begins_at_base, absolute, records_of}

abbrev pub HasMoment : Record → Type 0
HasMoment r = r.timestamp < 2 ^ 63

-- ---- from records to what stands in a batch

pub length-relatives_from : (base k : ℕ) (rs : List Record) → length (relatives_from base k rs) ≡ length rs
length-relatives_from base k [] = refl
length-relatives_from base k (r ∷ rs) = ap suc (length-relatives_from base (suc k) rs)

pub relatives_from-here : (base k : ℕ) (rs : List Record) (r : Record) → k < length rs → r ≡ get_or rs k r → relatives_from base k (drop k rs) ≡ relative base k r ∷ relatives_from base (k + 1) (drop (k + 1) rs)
relatives_from-here base k rs r lt e = rw (drop-cons rs k r, ← e, add-one) refl

pub in_places-relatives_from : (base k : ℕ) (rs : List Record) → in_places k (relatives_from base k rs) ≡ true
unfolding in_places
in_places-relatives_from base k [] = refl
in_places-relatives_from base k (r ∷ rs) = rw ((Decides-int_eq (pos k) (pos k)).1 refl, in_places-relatives_from base (suc k) rs) refl

back : (base t : ℕ) → pos base +ℤ (pos t -ℤ pos base) ≡ pos t
back base t = omega (arith, ints)

moment_is : (t : ℕ) → t < 2 ^ 63 → is_moment (pos t) ≡ true
moment_is t h = grind (arith, ints)

pub are_moments-relatives_from : (base k : ℕ) (rs : List Record) → AllByRecursion HasMoment rs → are_moments (pos base) (relatives_from base k rs) ≡ true
unfolding are_moments
are_moments-relatives_from base k [] fits = refl
are_moments-relatives_from base k (r ∷ rs) fits = rw (back base r.timestamp, moment_is r.timestamp fits.0, are_moments-relatives_from base (suc k) rs fits.1) refl

pub records_of-relatives_from : (base k : ℕ) (rs : List Record) → records_of (pos base) (relatives_from base k rs) ≡ rs
records_of-relatives_from base k [] = refl
records_of-relatives_from base k (r ∷ rs) = rw (back base r.timestamp, records_of-relatives_from base (suc k) rs) refl

pub begins_at_base-relatives : (rs : List Record) → begins_at_base (relatives rs) ≡ true
unfolding begins_at_base
begins_at_base-relatives [] = refl
begins_at_base-relatives (r ∷ rs) = let e : pos r.timestamp -ℤ pos r.timestamp ≡ pos 0 = omega (arith, ints) in rw e refl

-- what stands in a batch, as the machine counts it
pub relative_as : (m n : ℤ) (base k : ℕ) (r : Record) → m ≡ pos r.timestamp → r.timestamp < 2 ^ 63 → n ≡ pos base → base < 2 ^ 63 → k < 2 ^ 31
    → relative_by (to_z w64 (of_z w64 (to_z w64 (of_z w64 m) -ℤ to_z w64 (of_z w64 n)))) (to_z w32 k) r ≡ relative base k r
relative_as m n base k r is small base_is base_small few =
    let delta : to_z w64 (of_z w64 (to_z w64 (of_z w64 m) -ℤ to_z w64 (of_z w64 n))) ≡ pos r.timestamp -ℤ pos base = omega (arith, ints) in
    let index : to_z w32 k ≡ pos k = to_z_pos w32 k few in
    rw (delta, index) refl

-- ---- and back

moment_of : (t : ℤ) → is_moment t ≡ true → (t ≡ pos (nat_abs t)) × (nat_abs t < 2 ^ 63)
moment_of (pos n) e = (refl, grind (arith, ints))
moment_of (negsuc n) e = absurd (grind (arith, ints))

pub have_moments : (base : ℤ) (rs : List RelativeRecord) → are_moments base rs ≡ true → AllByRecursion HasMoment (records_of base rs)
unfolding are_moments
have_moments base [] e = tt
have_moments base (r ∷ rs) e = let b = and_parts _ _ e in ((moment_of (base +ℤ r.timestamp_delta) b.0).1, have_moments base rs b.1)

relative-absolute : (base k : ℕ) (r : RelativeRecord) → r.offset_delta ≡ pos k → pos base +ℤ r.timestamp_delta ≡ pos (nat_abs (pos base +ℤ r.timestamp_delta)) → relative base k (absolute (pos base) r) ≡ r
relative-absolute base k r place moment =
    let delta : pos (nat_abs (pos base +ℤ r.timestamp_delta)) -ℤ pos base ≡ r.timestamp_delta = rw (← moment) (omega (arith, ints)) in
    rw (delta, ← place) refl

pub relatives_from-records_of : (base k : ℕ) (rs : List RelativeRecord) → in_places k rs ≡ true → are_moments (pos base) rs ≡ true → relatives_from base k (records_of (pos base) rs) ≡ rs
unfolding in_places are_moments
relatives_from-records_of base k [] places moments = refl
relatives_from-records_of base k (r ∷ rs) places moments =
    let p = and_parts _ _ places in
    let m = and_parts _ _ moments in
    rw (relative-absolute base k r ((Decides-int_eq r.offset_delta (pos k)).0 p.0) (moment_of (pos base +ℤ r.timestamp_delta) m.0).0, relatives_from-records_of base (suc k) rs p.1 m.1) refl

-- the first record has the base timestamp, which is then a moment
pub base_timestamp-records_of : (base : ℤ) (rs : List RelativeRecord) → 0 < length rs → begins_at_base rs ≡ true → are_moments base rs ≡ true → base ≡ pos (base_timestamp (records_of base rs))
unfolding begins_at_base are_moments
base_timestamp-records_of base [] some begins moments = absurd (omega arith)
base_timestamp-records_of base (r ∷ rs) some begins moments =
    let first : r.timestamp_delta ≡ pos 0 = (Decides-int_eq r.timestamp_delta (pos 0)).0 begins in
    let same : base +ℤ r.timestamp_delta ≡ base = rw first (omega (arith, ints)) in
    let moment = (moment_of (base +ℤ r.timestamp_delta) (and_parts _ _ moments).0).0 in
    sym same ∙ moment
