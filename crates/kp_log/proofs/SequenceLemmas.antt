-- The batches of one producer id, in a list of batches in sequence.
use Rattle.std.proofs.Common.{◌≡◌, ◌⊎◌, ℕ, ◌+◌, ◌<◌, ◌≤◌, Bool, true, false, cond, List, [], ◌∷◌, ◌++◌, length, pos, refl, sym, ap, ◌∙◌, subst, inl, inr, ⊎_elim, arith, append_assoc}
use Rattle.std.specs.Prelude.{◌==◌}
use Rattle.std.specs.Ordering.{int_eq}
use Rattle.std.proofs.lemmas.Bool.{eqb-true, eqb-false}
use Rattle.std.proofs.lemmas.List.{append-nil}
use Rattle.std.proofs.lemmas.List.Elements.{filter-append}
use Rattle.kp_log.specs.Log.{count_of}
use Rattle.kp_log.specs.History.{Sent, of_id, records_of, stored_of}
use Rattle.kp_log.specs.HandedOver.{Follows, AreInSequence}
use Rattle.kp_log.proofs.LogLemmas.{int_apart, count_of-append, count_of_own, count_of_others}
use Rattle.kp_log.proofs.PlaceLemmas.{In, In-nil, In-cons, In-head, In-tail}

-- ---- how many records

-- the records of these batches
abbrev pub size_of : List Sent → ℕ
size_of [] = 0
size_of (b ∷ bs) = length b.bodies + size_of bs

pub size_of-append : (xs ys : List Sent) → size_of (xs ++ ys) ≡ size_of xs + size_of ys
size_of-append [] ys = omega arith
size_of-append (x ∷ xs) ys = omega (arith, size_of-append xs ys)

pub ids_apart : (m n : ℕ) → (m == n) ≡ false → int_eq (pos m) (pos n) ≡ false
ids_apart m n other = int_apart (pos m) (pos n) (λ e. let same : m ≡ n = cc in eqb-false m n other same)

-- with one batch more, an id has one batch more or the same
pub of_id-own : (id : ℕ) (bs : List Sent) (b : Sent) → (b.id == id) ≡ true → of_id id (bs ++ b ∷ []) ≡ of_id id bs ++ b ∷ []
of_id-own id bs b own = filter-append (λ (c : Sent). c.id == id) bs (b ∷ []) ∙ ap (λ t. of_id id bs ++ cond t (b ∷ []) []) own

pub of_id-other : (id : ℕ) (bs : List Sent) (b : Sent) → (b.id == id) ≡ false → of_id id (bs ++ b ∷ []) ≡ of_id id bs
of_id-other id bs b other = filter-append (λ (c : Sent). c.id == id) bs (b ∷ []) ∙ ap (λ t. of_id id bs ++ cond t (b ∷ []) []) other ∙ append-nil (of_id id bs)

-- an id's records in the batches are those of its batches
pub count_of-records_of : (id : ℕ) (bs : List Sent) → count_of (pos id) (records_of bs) ≡ size_of (of_id id bs)
count_of-records_of id [] = refl
count_of-records_of id (b ∷ bs) =
    count_of-append (pos id) (stored_of b) (records_of bs) ∙ at_test (b.id == id) refl (count_of-records_of id bs)
  where
    at_test : (t : Bool) → (b.id == id) ≡ t → count_of (pos id) (records_of bs) ≡ size_of (of_id id bs)
        → count_of (pos id) (stored_of b) + count_of (pos id) (records_of bs) ≡ size_of (cond t (b ∷ of_id id bs) (of_id id bs))
    at_test true is rest =
        let own : count_of (pos id) (stored_of b) ≡ length b.bodies = ap (λ n. count_of (pos n) (stored_of b)) (sym (eqb-true b.id id is)) ∙ count_of_own (pos b.id) b.bodies in
        omega (arith, own, rest)
    at_test false is rest = omega (arith, rest, count_of_others (pos id) (pos b.id) b.bodies (ids_apart b.id id is))

-- ---- sequence numbers

-- The sequence numbers of these batches, all of one id, count their records from n on.
abbrev pub CountFrom : ℕ → List Sent → Type 0
CountFrom n [] = Unit {0}
CountFrom n (b ∷ bs) = (b.sequence ≡ n) × (0 < length b.bodies) × CountFrom (n + length b.bodies) bs

pub count_front : (n : ℕ) (xs ys : List Sent) → CountFrom n (xs ++ ys) → CountFrom n xs
count_front n [] ys h = tt
count_front n (x ∷ xs) ys h = (h.0, h.1, count_front (n + length x.bodies) xs ys h.2)

pub count_rest : (n : ℕ) (xs ys : List Sent) → CountFrom n (xs ++ ys) → CountFrom (n + size_of xs) ys
count_rest n [] ys h = let same : n ≡ n + 0 = omega arith in subst (λ k. CountFrom k ys) same h
count_rest n (x ∷ xs) ys h =
    let same : n + length x.bodies + size_of xs ≡ n + (length x.bodies + size_of xs) = omega arith in
    subst (λ k. CountFrom k ys) same (count_rest (n + length x.bodies) xs ys h.2)

pub at_least : (n : ℕ) (bs : List Sent) (b : Sent) → CountFrom n bs → In b bs → n ≤ b.sequence
at_least n [] b h at = absurd (In-nil b at)
at_least n (c ∷ bs) b h at =
    ⊎_elim
    (λ (same : b ≡ c). omega (arith, h.0, ap (λ (z : Sent). z.sequence) same))
    (λ (later : In b bs). omega (arith, at_least (n + length c.bodies) bs b h.2 later))
    (In-cons b c bs at)

-- behind the first the sequence numbers are greater
pub greater : (n : ℕ) (c : Sent) (bs : List Sent) (b : Sent) → CountFrom n (c ∷ bs) → In b bs → c.sequence < b.sequence
greater n c bs b h later = omega (arith, h.0, h.1, at_least (n + length c.bodies) bs b h.2 later)

pub below : (n : ℕ) (bs : List Sent) (b : Sent) → CountFrom n bs → In b bs → b.sequence < n + size_of bs
below n [] b h at = absurd (In-nil b at)
below n (c ∷ bs) b h at =
    ⊎_elim
    (λ (same : b ≡ c). omega (arith, h.0, h.1, ap (λ (z : Sent). z.sequence) same))
    (λ (later : In b bs). omega (arith, below (n + length c.bodies) bs b h.2 later))
    (In-cons b c bs at)

-- one sequence number, one batch
pub one_batch : (n : ℕ) (bs : List Sent) (b c : Sent) → CountFrom n bs → In b bs → In c bs → b.sequence ≡ c.sequence → b ≡ c
one_batch n [] b c h at_b at_c same = absurd (In-nil b at_b)
one_batch n (d ∷ bs) b c h at_b at_c same =
    by_places (λ x y. one_batch (n + length d.bodies) bs b c h.2 x y same) (In-cons b d bs at_b) (In-cons c d bs at_c)
  where
    by_places : (In b bs → In c bs → b ≡ c) → (b ≡ d) ⊎ In b bs → (c ≡ d) ⊎ In c bs → b ≡ c
    by_places deeper (inl x) (inl y) = x ∙ sym y
    by_places deeper (inl x) (inr y) = absurd (omega (arith, same, ap (λ (z : Sent). z.sequence) x, greater n d bs c h y))
    by_places deeper (inr x) (inl y) = absurd (omega (arith, same, ap (λ (z : Sent). z.sequence) y, greater n d bs b h x))
    by_places deeper (inr x) (inr y) = deeper x y

-- a smaller sequence number, an earlier batch
pub in_front : (n : ℕ) (front : List Sent) (o : Sent) (back : List Sent) (b : Sent) → CountFrom n (front ++ o ∷ back)
    → In b (front ++ o ∷ back) → b.sequence < o.sequence → In b front
in_front n [] o back b h at less =
    ⊎_elim
    (λ (same : b ≡ o). absurd (omega (arith, less, ap (λ (z : Sent). z.sequence) same)))
    (λ (later : In b back). absurd (omega (arith, less, greater n o back b h later)))
    (In-cons b o back at)
in_front n (c ∷ front) o back b h at less =
    ⊎_elim
    (λ (same : b ≡ c). subst (λ z. In b (z ∷ front)) same (In-head b front))
    (λ (later : In b (front ++ o ∷ back)). In-tail b c front (in_front (n + length c.bodies) front o back b h.2 later less))
    (In-cons b c (front ++ o ∷ back) at)

-- the batch that begins at the count is the first
pub first_batch : (n : ℕ) (bs : List Sent) (b : Sent) → CountFrom n bs → In b bs → b.sequence ≡ n → (later : List Sent) × (bs ≡ b ∷ later)
first_batch n [] b h at is = absurd (In-nil b at)
first_batch n (c ∷ bs) b h at is =
    ⊎_elim
    (λ (same : b ≡ c). (bs, ap (λ z. z ∷ bs) (sym same)))
    (λ (later : In b bs). absurd (omega (arith, is, h.0, greater n c bs b h later)))
    (In-cons b c bs at)

-- ---- of a list in sequence, the batches of one id count their records

counts_behind : (handed : List Sent) (id : ℕ) → AreInSequence handed → (earlier later : List Sent) → handed ≡ earlier ++ later
    → CountFrom (size_of (of_id id earlier)) (of_id id later)
counts_behind handed id s earlier [] e = tt
counts_behind handed id s earlier (c ∷ later) e =
    let next : handed ≡ (earlier ++ c ∷ []) ++ later = e ∙ sym (append_assoc earlier (c ∷ []) later) in
    at_test (c.id == id) refl (ap size_of (filter-append (λ (b : Sent). b.id == id) earlier (c ∷ []))) (counts_behind handed id s (earlier ++ c ∷ []) later next)
  where
    follows : Follows earlier c
    follows = s.each earlier later c e

    at_test : (t : Bool) → (c.id == id) ≡ t → size_of (of_id id (earlier ++ c ∷ [])) ≡ size_of (of_id id earlier ++ cond t (c ∷ []) [])
        → CountFrom (size_of (of_id id (earlier ++ c ∷ []))) (of_id id later)
        → CountFrom (size_of (of_id id earlier)) (cond t (c ∷ of_id id later) (of_id id later))
    at_test true is more rest =
        let begins : c.sequence ≡ size_of (of_id id earlier) = follows.sequence ∙ count_of-records_of c.id earlier ∙ ap (λ n. size_of (of_id n earlier)) (eqb-true c.id id is) in
        let all : size_of (of_id id (earlier ++ c ∷ [])) ≡ size_of (of_id id earlier) + length c.bodies = omega (arith, more, size_of-append (of_id id earlier) (c ∷ [])) in
        (begins, follows.some_records, subst (λ n. CountFrom n (of_id id later)) all rest)
    at_test false is more rest =
        let all : size_of (of_id id (earlier ++ c ∷ [])) ≡ size_of (of_id id earlier) = omega (arith, more, size_of-append (of_id id earlier) []) in
        subst (λ n. CountFrom n (of_id id later)) all rest

pub counts : (handed : List Sent) (id : ℕ) → AreInSequence handed → CountFrom 0 (of_id id handed)
counts handed id s = counts_behind handed id s [] handed refl
