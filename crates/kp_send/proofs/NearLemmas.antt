-- How near a percentile is to the latency of its rank.
use Rattle.std.proofs.Common.{◌≡◌, ℕ, ◌+◌, ◌≤◌, max, nat_le, nat_lt, Bool, true, false, cond, List, [], ◌∷◌, ◌++◌, refl, ap, ap₂, sym, subst, ◌∙◌, inl, inr, arith, count_by, fold}
use Rattle.std.specs.Prelude.{All}
use Rattle.std.proofs.lemmas.Bool.{cases_Bool, cases_lt, le-leb, le-ltb, lt-ltb, ltb-true}
use Rattle.std.proofs.lemmas.List.Elements.{All-cons, All-head, All-map, All-nil, All-tail, All-weaker}
use Rattle.std.proofs.lemmas.List.Sums.{fold_push, sum_by-cons, sum_by_push}
use Rattle.std.proofs.lemmas.List.{length_push}
use Rattle.kp_send.specs.declared.latency.Place.{Place}
use Rattle.kp_send.specs.Latency.{Adds, Adjoin, count_in, is_in, IsNear, IsRanked, IsTableOf, put_in, Table, width}
use Rattle.kp_send.proofs.LatencyLemmas.{above, below, belongs, put_elsewhere, put_there, still_adjoin}

-- ---- counts

abbrev one_if : Bool → ℕ
one_if b = cond b 1 0

count_more : (f : ℕ → Bool) (x : ℕ) (xs : List ℕ) → count_by f (x ∷ xs) ≡ one_if (f x) + count_by f xs
count_more f x xs = sum_by-cons (λ (y : ℕ). one_if (f y)) x xs

count_last : (f : ℕ → Bool) (xs : List ℕ) (x : ℕ) → count_by f (xs ++ x ∷ []) ≡ count_by f xs + one_if (f x)
count_last f xs x = sum_by_push (λ (y : ℕ). one_if (f y)) xs x

-- of two tests that exclude each other, and the one that is either
count_either : (f g h : ℕ → Bool) → ((x : ℕ) → one_if (f x) + one_if (g x) ≡ one_if (h x)) → (xs : List ℕ) → count_by f xs + count_by g xs ≡ count_by h xs
count_either f g h either [] = refl
count_either f g h either (x ∷ xs) =
    omega (arith, count_more f x xs, count_more g x xs, count_more h x xs, either x, count_either f g h either xs)

-- a test that passes where another does
count_le : (f g : ℕ → Bool) (xs : List ℕ) → All (λ x. f x ≡ true → g x ≡ true) xs → count_by f xs ≤ count_by g xs
count_le f g [] all = omega arith
count_le f g (x ∷ xs) all =
    let P : ℕ → Type 0 = λ y. f y ≡ true → g y ≡ true in
    let later = count_le f g xs (All-tail P x xs all) in
    let here : one_if (f x) ≤ one_if (g x) =
    elim (cases_Bool (f x)) [
      | inl passes ↦ rw (passes, All-head P x xs all passes) (omega arith)
      | inr fails ↦ rw fails (omega arith)
    ] in
    omega (arith, count_more f x xs, count_more g x xs, here, later)

-- a test that never passes
count_none : (f : ℕ → Bool) → ((x : ℕ) → f x ≡ false) → (xs : List ℕ) → count_by f xs ≡ 0
count_none f never [] = refl
count_none f never (x ∷ xs) = count_more f x xs ∙ ap₂ (λ (b : Bool) (n : ℕ). one_if b + n) (never x) (count_none f never xs)

-- ---- latencies below a place, and in it

abbrev is_below : ℕ → ℕ → Bool
is_below limit latency = nat_lt latency limit

either_way : (p : Place) (x : ℕ) → one_if (is_below p.least x) + one_if (is_in x p) ≡ one_if (is_below (p.least + width p.least) x)
either_way p x =
    elim (cases_lt x p.least) [
      | inl low ↦ rw (lt-ltb x p.least low, below x p low, lt-ltb x (p.least + width p.least) (omega arith)) refl
      | inr not_low ↦
          elim (cases_lt x (p.least + width p.least)) [
            | inl high ↦ rw (le-ltb x p.least not_low, belongs x p not_low high, lt-ltb x (p.least + width p.least) high) refl
            | inr past ↦ rw (le-ltb x p.least not_low, above x p past, le-ltb x (p.least + width p.least) past) refl
          ]
    ]

with_place : (p : Place) (xs : List ℕ) → count_by (is_below p.least) xs + count_by (λ x. is_in x p) xs ≡ count_by (is_below (p.least + width p.least)) xs
with_place p xs = count_either (is_below p.least) (λ x. is_in x p) (is_below (p.least + width p.least)) (either_way p) xs

abbrev Counts : List ℕ → Place → Type 0
Counts xs p = p.count ≡ count_by (λ x. is_in x p) xs

-- the places before one have all that is below it
before_place : (xs : List ℕ) (from : ℕ) (before : List Place) (p : Place) (behind : List Place) → Adjoin from (before ++ p ∷ behind)
    → All (Counts xs) (before ++ p ∷ behind) → count_by (is_below from) xs + count_in before ≡ count_by (is_below p.least) xs
before_place xs from [] p behind adjoin counts = omega (arith, ap (λ (n : ℕ). count_by (is_below n) xs) adjoin.0)
before_place xs from (q ∷ before) p behind adjoin counts =
    let more = sum_by-cons (λ (r : Place). r.count) q before in
    let here : q.count ≡ count_by (λ x. is_in x q) xs = All-head (Counts xs) q (before ++ p ∷ behind) counts in
    let step = with_place q xs in
    let first = ap (λ (n : ℕ). count_by (is_below n) xs) adjoin.0 in
    let next = ap (λ (n : ℕ). count_by (is_below (n + width n)) xs) adjoin.0 in
    let later = before_place xs (from + width from) before p behind adjoin.1 (All-tail (Counts xs) q (before ++ p ∷ behind) counts) in
    omega (arith, more, here, step, first, next, later)

-- none is above the greatest
greatest_from : (a : ℕ) (xs : List ℕ) → (a ≤ fold max a xs) × All (λ x. x ≤ fold max a xs) xs
greatest_from a [] = (omega arith, All-nil (λ x. x ≤ a))
greatest_from a (x ∷ xs) =
    let later = greatest_from (max a x) xs in
    (omega (arith, later.0), All-cons (λ y. y ≤ fold max (max a x) xs) x xs (omega (arith, later.0)) later.1)

pub near : (xs : List ℕ) (t : Table) (rank told : ℕ) → IsTableOf xs t → IsRanked t rank told → IsNear xs rank told
near xs t rank told table ranked =
    let p = ranked.place in
    let covers = subst (λ (ps : List Place). Adjoin 0 ps) ranked.parts table.covers in
    let counts = subst (λ (ps : List Place). All (Counts xs) ps) ranked.parts table.counts in
    let none : count_by (is_below 0) xs ≡ 0 = count_none (is_below 0) (λ x. le-ltb x 0 (omega arith)) xs in
    let front = before_place xs 0 ranked.before p ranked.behind covers counts in
    let here : p.count ≡ count_by (λ x. is_in x p) xs = counted_at xs ranked.before p ranked.behind counts in
    let step = with_place p xs in
    let most = count_le (is_below (p.least + width p.least)) (λ x. nat_le x told) xs
    (All-weaker (λ x. x ≤ t.greatest) (λ x. is_below (p.least + width p.least) x ≡ true → nat_le x told ≡ true)
    (λ x small low. le-leb x told (omega (arith, small, ltb-true x (p.least + width p.least) low, ranked.is))) xs
    (subst (λ (n : ℕ). All (λ x. x ≤ n) xs) (sym table.greatest) (greatest_from 0 xs).1)) in
    record {
      low = p.least;
      fewer = omega (arith, none, front, ranked.not_before);
      enough = omega (arith, none, front, here, step, most, ranked.reached);
      near = omega (arith, ranked.is);
    }
  where
    counted_at : (xs : List ℕ) (before : List Place) (p : Place) (behind : List Place) → All (Counts xs) (before ++ p ∷ behind) → Counts xs p
    counted_at xs [] p behind counts = All-head (Counts xs) p behind counts
    counted_at xs (q ∷ before) p behind counts = counted_at xs before p behind (All-tail (Counts xs) q (before ++ p ∷ behind) counts)

-- ---- one latency more

counts_more : (xs : List ℕ) (x : ℕ) (p : Place) → Counts xs p → Counts (xs ++ x ∷ []) (put_in x p)
counts_more xs x p counts =
    let last = count_last (λ y. is_in y p) xs x in
    elim (cases_Bool (is_in x p)) [
      | inl here ↦ subst (Counts (xs ++ x ∷ [])) (sym (put_there x p here)) (omega (arith, counts, last, ap one_if here))
      | inr differs ↦ subst (Counts (xs ++ x ∷ [])) (sym (put_elsewhere x p differs)) (omega (arith, counts, last, ap one_if differs))
    ]

pub table_more : (xs : List ℕ) (t u : Table) (x : ℕ) → IsTableOf xs t → Adds t x u → IsTableOf (xs ++ x ∷ []) u
table_more xs t u x table adds = record {
  covers = subst (λ (ps : List Place). Adjoin 0 ps) (sym adds.places) (still_adjoin x 0 t.places table.covers);
  counts = subst (λ (ps : List Place). All (Counts (xs ++ x ∷ [])) ps) (sym adds.places)
      (All-map (Counts (xs ++ x ∷ [])) (put_in x) t.places
      (All-weaker (Counts xs) (λ (p : Place). Counts (xs ++ x ∷ []) (put_in x p)) (counts_more xs x) t.places table.counts));
  count = omega (arith, adds.count, table.count, length_push xs x);
  sum = omega (arith, adds.sum, table.sum, sum_by_push (λ (y : ℕ). y) xs x);
  greatest = adds.greatest ∙ ap (λ (n : ℕ). max n x) table.greatest ∙ sym (fold_push max 0 xs x);
}
