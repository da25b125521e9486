-- What is known of records goes on from one record to the next.
use Rattle.std.proofs.Common.{◌≡◌, ℕ, suc, ◌+◌, ◌-◌, max, Bool, true, false, cond, ◌&&◌, List, [], ◌∷◌, ◌++◌, ◌⊎◌, length, ℤ, pos, Some, None, refl, sym, ap, ◌∙◌, arith, inl, inr}
use Rattle.std.specs.Prelude.{nat_abs, ◌+ℤ◌}
use Rattle.std.specs.Ordering.{int_eq}
use Rattle.std.proofs.lemmas.Bool.{lt-ltb, and_left, and_right}
use Rattle.std.proofs.lemmas.Option.{cond_some}
use Rattle.std.proofs.Math.Bool.{and-true, and_assoc, and_comm}
use Rattle.std.proofs.lemmas.List.{map-append}
use Rattle.kp_wire.specs.Codec.{read_many}
use Rattle.kp_wire.proofs.ManyLemmas.{with_front, with_none}
use Rattle.kp_batch_reading.specs.declared.gathering.Gathered.{Gathered}
use Rattle.kp_batch.specs.declared.record.Record.{Record}
use Rattle.kp_batch.specs.declared.relative.RelativeRecord.{RelativeRecord}
use Rattle.kp_batch.specs.Record.{relative_record}
use Rattle.kp_batch.specs.Spelling.{max_timestamp}
use Rattle.kp_batch.specs.Reading.{in_places, is_moment, are_moments, begins_at_base, absolute, records_of}
use Rattle.kp_batch_reading.specs.Gathering.{is_timely, are_timely, timely_moment, Known}

-- ---- tests of each element at its place

all_from : {A : Type 0} → (ℕ → A → Bool) → ℕ → List A → Bool
all_from test k [] = true
all_from test k (x ∷ xs) = test k x && all_from test (suc k) xs

all_from-end : {A : Type 0} (test : ℕ → A → Bool) (k : ℕ) (xs : List A) (x : A) → all_from test k (xs ++ x ∷ []) ≡ (all_from test k xs && test (k + length xs) x)
unfolding all_from
all_from-end test k [] x = let e : k + 0 ≡ k = omega arith in rw e (and-true (test k x))
all_from-end test k (y ∷ xs) x =
    let e : k + suc (length xs) ≡ suc k + length xs = omega arith in
    rw (e, all_from-end test (suc k) xs x) (sym (and_assoc (test k y) (all_from test (suc k) xs) (test (suc k + length xs) x)))

in_place : ℕ → RelativeRecord → Bool
in_place k r = int_eq r.offset_delta (pos k)

in_places-all : (k : ℕ) (rs : List RelativeRecord) → in_places k rs ≡ all_from in_place k rs
unfolding in_places all_from in_place
in_places-all k [] = refl
in_places-all k (r ∷ rs) = rw (in_places-all (suc k) rs) refl

are_timely-all : (base : ℤ) (k : ℕ) (rs : List RelativeRecord) → are_timely base k rs ≡ all_from (is_timely base) k rs
unfolding are_timely all_from
are_timely-all base k [] = refl
are_timely-all base k (r ∷ rs) = rw (are_timely-all base (suc k) rs) refl

in_places-end : (rs : List RelativeRecord) (r : RelativeRecord) (k : ℕ) → length rs ≡ k → in_places 0 (rs ++ r ∷ []) ≡ (in_places 0 rs && int_eq r.offset_delta (pos k))
unfolding in_place
in_places-end rs r k is =
    let e : 0 + length rs ≡ k = omega arith in
    in_places-all 0 (rs ++ r ∷ []) ∙ all_from-end in_place 0 rs r ∙ rw (e, ← in_places-all 0 rs) refl

are_timely-end : (base : ℤ) (rs : List RelativeRecord) (r : RelativeRecord) (k : ℕ) → length rs ≡ k → are_timely base 0 (rs ++ r ∷ []) ≡ (are_timely base 0 rs && is_timely base k r)
are_timely-end base rs r k is =
    let e : 0 + length rs ≡ k = omega arith in
    are_timely-all base 0 (rs ++ r ∷ []) ∙ all_from-end (is_timely base) 0 rs r ∙ ap (λ (n : ℕ). all_from (is_timely base) 0 rs && is_timely base n r) e
    ∙ ap (λ (b : Bool). b && is_timely base k r) (sym (are_timely-all base 0 rs))

-- ---- timely records are those of the table's row

later_are_moments : (base : ℤ) (k : ℕ) (rs : List RelativeRecord) → are_timely base (suc k) rs ≡ are_moments base rs
unfolding are_timely are_moments
later_are_moments base k [] = refl
later_are_moments base k (r ∷ rs) = rw (lt-ltb 0 (suc k) (omega arith), and-true (is_moment (base +ℤ r.timestamp_delta)), later_are_moments base (suc k) rs) refl

swapped : (m z w : Bool) → ((m && z) && w) ≡ (z && (m && w))
swapped m z w = ap (λ (b : Bool). b && w) (and_comm m z) ∙ and_assoc z m w

pub timely_are : (base : ℤ) (rs : List RelativeRecord) → are_timely base 0 rs ≡ (begins_at_base rs && are_moments base rs)
unfolding are_timely begins_at_base are_moments
timely_are base [] = refl
timely_are base (r ∷ rs) =
    rw (later_are_moments base 0 rs) (swapped (is_moment (base +ℤ r.timestamp_delta)) (int_eq r.timestamp_delta (pos 0)) (are_moments base rs))

-- ---- from one record to the next

max_timestamp-end : (rs : List Record) (r : Record) → max_timestamp (rs ++ r ∷ []) ≡ max (max_timestamp rs) r.timestamp
max_timestamp-end [] r = omega arith
max_timestamp-end (x ∷ rs) r = omega (arith, max_timestamp-end rs r)

timely : (b : Bool) (x t : ℕ) → Some t ≡ cond b (Some x) None → (b ≡ true) × (t ≡ x)
timely b x t e = let c = cond_some b x t (sym e) in (c.0, sym c.1)

untimely : (b : Bool) (x : ℕ) → None ≡ cond b (Some x) None → b ≡ false
untimely true x e = absurd cc
untimely false x e = refl

abbrev pub gathered : List Record → ℕ → Bool → Bool → Gathered
gathered records greatest in_places timed = record { records = records; greatest = greatest; in_places = in_places; timed = timed }

pub known_none : (base : ℤ) → Known base [] (gathered [] 0 true true)
unfolding in_places are_timely
known_none base = record { places = refl; times = refl; records = λ _. refl; greatest = λ _. refl }

pub known_more : (base : ℤ) (front : List RelativeRecord) (g : Gathered) (r : RelativeRecord) (k t : ℕ) (places : Bool) → length front ≡ k → Known base front g → g.timed ≡ true
    → Some t ≡ timely_moment base k r → places ≡ (g.in_places && int_eq r.offset_delta (pos k))
    → Known base (front ++ r ∷ []) (gathered (g.records ++ (record { timestamp = t; key = r.key; value = r.value; headers = r.headers }) ∷ []) (max g.greatest t) places true)
known_more base front g r k t places many known timed moment place =
    let m = timely (is_timely base k r) (nat_abs (base +ℤ r.timestamp_delta)) t moment in
    let all : records_of base (front ++ r ∷ []) ≡ records_of base front ++ absolute base r ∷ [] = map-append (absolute base) front (r ∷ []) in
    record {
      places = place ∙ ap (λ (b : Bool). b && int_eq r.offset_delta (pos k)) known.places ∙ sym (in_places-end front r k many);
      times = sym (are_timely-end base front r k many ∙ rw (← known.times, timed, m.0) refl);
      records = λ _. rw (m.1, known.records timed) (sym all);
      greatest = λ _. rw (all, max_timestamp-end (records_of base front) (absolute base r), m.1, known.greatest timed) refl;
    }

pub known_late : (base : ℤ) (front : List RelativeRecord) (g : Gathered) (r : RelativeRecord) (k : ℕ) (places : Bool) → length front ≡ k → Known base front g
    → (g.timed ≡ false) ⊎ (None ≡ timely_moment base k r) → places ≡ (g.in_places && int_eq r.offset_delta (pos k))
    → Known base (front ++ r ∷ []) (gathered g.records g.greatest places false)
known_late base front g r k places many known late place =
    let why : (are_timely base 0 front && is_timely base k r) ≡ false =
    elim late [
      | inl e ↦ and_left _ _ (sym known.times ∙ e)
      | inr e ↦ and_right _ _ (untimely (is_timely base k r) (nat_abs (base +ℤ r.timestamp_delta)) e)
    ] in
    record {
      places = place ∙ ap (λ (b : Bool). b && int_eq r.offset_delta (pos k)) known.places ∙ sym (in_places-end front r k many);
      times = sym (are_timely-end base front r k many ∙ why);
      records = λ e. absurd cc;
      greatest = λ e. absurd cc;
    }

-- ---- so far

pub record SoFar (base : ℤ) (count k : ℕ) (bytes rest : List ℕ) (front : List RelativeRecord) (g : Gathered) : Type 0 where
  pub many : length front ≡ k
  pub reads : with_front front (read_many relative_record.read (count - k) rest) ≡ read_many relative_record.read count bytes
  pub known : Known base front g

pub so_far_none : (base : ℤ) (count : ℕ) (bytes : List ℕ) → SoFar base count 0 bytes bytes [] (gathered [] 0 true true)
so_far_none base count bytes =
    let e : count - 0 ≡ count = omega arith in
    record { many = refl; reads = rw e (with_none (read_many relative_record.read count bytes)); known = known_none base }
