-- All partitions, some of them changed.
use Rattle.std.proofs.Common.{◌≡◌, ℕ, ◌+◌, ◌<◌, ◌≤◌, Bool, true, false, inl, inr, List, [], ◌∷◌, length, get_or, true≢false, refl, sym, ap, ◌∙◌, subst, ⊎_elim, eqb, arith}
use Rattle.std.specs.Prelude.{if◌then◌else◌, map, slice_set, ◌||◌}
use Rattle.std.specs.List.{enumerate_from}
use Rattle.std.proofs.lemmas.Bool.{cases_lt}
use Rattle.std.proofs.lemmas.Bool.Decides.{eqb_tells}
use Rattle.std.proofs.lemmas.List.{ext_get_or, get_or-map, get_or-set_other, get_or-set_same, get_or_past, length-map, length-set}
use Rattle.std.proofs.lemmas.List.FromFn.{get_or-enumerate_from, length-enumerate_from}
use Rattle.kp_rules.specs.Partitions.{partition_at, changed_at, new_partition, is_in}
use Rattle.kp_rules.specs.Records.{Partition}

pub length-changed_at : (ps : List ℕ) (f : ℕ → Partition → Partition) (ts : List Partition)
    → length (changed_at ps f ts) ≡ length ts
unfolding changed_at
length-changed_at ps f ts = length-map (enumerate_from 0 ts) _ ∙ length-enumerate_from 0 ts

-- the partition at a place, with its number
pub numbered : (ts : List Partition) (p : ℕ) → p < length ts → get_or (enumerate_from 0 ts) p (0, new_partition 0) ≡ (p, partition_at p ts)
numbered ts p h =
    let same : 0 + p ≡ p = omega arith in
    get_or-enumerate_from 0 ts p (0, new_partition 0) h ∙ ap (λ (n : ℕ). (n, partition_at p ts)) same

pub at-changed_at : (ps : List ℕ) (f : ℕ → Partition → Partition) (ts : List Partition) (p : ℕ) → p < length ts
    → partition_at p (changed_at ps f ts) ≡ (if is_in p ps then f p (partition_at p ts) else partition_at p ts)
unfolding changed_at
at-changed_at ps f ts p h =
    let within : p < length (enumerate_from 0 ts) = omega (arith, h, length-enumerate_from 0 ts) in
    get_or-map (λ x. if is_in x.0 ps then f x.0 x.1 else x.1) (enumerate_from 0 ts) p (0, new_partition 0) (new_partition 0) within
    ∙ ap (λ (x : ℕ × Partition). if is_in x.0 ps then f x.0 x.1 else x.1) (numbered ts p h)

-- what holds of what a partition was changed to, or of the one that was there, holds of the one that is there
pub at_changed {ℓ} : (P : Partition → Type ℓ) (ps : List ℕ) (f : ℕ → Partition → Partition) (ts : List Partition) (p : ℕ)
    → (p < length ts → is_in p ps ≡ true → P (f p (partition_at p ts))) → ((p < length ts → is_in p ps ≡ false) → P (partition_at p ts))
    → P (partition_at p (changed_at ps f ts))
at_changed P ps f ts p new old = elim (cases_lt p (length ts)) [
  | inl l ↦ subst P (sym (at-changed_at ps f ts p l)) (at_test l (is_in p ps) refl)
  | inr past ↦ let beyond : length (changed_at ps f ts) ≤ p = omega (arith, past, length-changed_at ps f ts) in
      subst P (get_or_past ts p (new_partition 0) past ∙ sym (get_or_past (changed_at ps f ts) p (new_partition 0) beyond)) (old (λ l. absurd (omega (arith, l, past))))
]
  where
    at_test : p < length ts → (b : Bool) → is_in p ps ≡ b → P (if b then f p (partition_at p ts) else partition_at p ts)
    at_test l true is = new l is
    at_test l false is = old (λ m. is)

-- ---- one partition more is changed, and one alone

pub changed_none : (f : ℕ → Partition → Partition) (ts : List Partition) → changed_at [] f ts ≡ ts
changed_none f ts = ext_get_or (new_partition 0) (changed_at [] f ts) ts (length-changed_at [] f ts)
    (λ p l. at-changed_at [] f ts p (omega (arith, l, length-changed_at [] f ts)))

pub changed_more : (p : ℕ) (ps : List ℕ) (f : ℕ → Partition → Partition) (ts : List Partition)
    → changed_at (p ∷ ps) f ts ≡ slice_set (changed_at ps f ts) p (f p (partition_at p ts))
changed_more p ps f ts = ext_get_or (new_partition 0) (changed_at (p ∷ ps) f ts) (slice_set before p new)
    (omega (arith, length-changed_at (p ∷ ps) f ts, length-changed_at ps f ts, length-set before p new))
    (λ q l. at_place q (omega (arith, l, length-changed_at (p ∷ ps) f ts)))
  where
    before : List Partition
    before = changed_at ps f ts

    new : Partition
    new = f p (partition_at p ts)

    by_test : ℕ → Bool → Partition
    by_test q b = if b || is_in q ps then f q (partition_at q ts) else partition_at q ts

    at_place : (q : ℕ) → q < length ts → partition_at q (changed_at (p ∷ ps) f ts) ≡ partition_at q (slice_set before p new)
    at_place q l = at-changed_at (p ∷ ps) f ts q l ∙ ⊎_elim
        (λ (k : (eqb p q ≡ true) × (p ≡ q)). ap (by_test q) k.0 ∙ ap (λ (n : ℕ). f n (partition_at n ts)) (sym k.1)
        ∙ sym (get_or-set_same before p new (new_partition 0) (omega (arith, l, k.1, length-changed_at ps f ts)))
        ∙ ap (λ (n : ℕ). partition_at n (slice_set before p new)) k.1)
        (λ (k : (eqb p q ≡ false) × (p ≡ q → ⊥)). ap (by_test q) k.0 ∙ sym (at-changed_at ps f ts q l)
        ∙ sym (get_or-set_other before p q new (new_partition 0) (λ e. k.1 (sym e))))
        (eqb_tells p q)

-- one partition's change is the change of several, of which it is the only one
pub one_changed : (p : ℕ) (f : Partition → Partition) (ts : List Partition) → slice_set ts p (f (partition_at p ts)) ≡ changed_at (p ∷ []) (λ q t. f t) ts
one_changed p f ts =
    sym (changed_more p [] (λ q t. f t) ts ∙ ap (λ (us : List Partition). slice_set us p (f (partition_at p ts))) (changed_none (λ q t. f t) ts))

-- ---- one partition first, and then the others

set_at : (p q : ℕ) (v : Partition) (ts : List Partition) → (p ≡ q → ⊥) → partition_at q (slice_set ts p v) ≡ partition_at q ts
set_at p q v ts other = get_or-set_other ts p q v (new_partition 0) (λ e. other (sym e))

pub changed_first : (p : ℕ) (ps : List ℕ) (f : ℕ → Partition → Partition) (ts : List Partition) → p < length ts → is_in p ps ≡ false
    → changed_at (p ∷ ps) f ts ≡ changed_at ps f (slice_set ts p (f p (partition_at p ts)))
changed_first p ps f ts there once = ext_get_or (new_partition 0) (changed_at (p ∷ ps) f ts) (changed_at ps f after)
    (omega (arith, length-changed_at (p ∷ ps) f ts, length-changed_at ps f after, length-set ts p new))
    (λ q l. at_place q (omega (arith, l, length-changed_at (p ∷ ps) f ts)))
  where
    new : Partition
    new = f p (partition_at p ts)

    after : List Partition
    after = slice_set ts p new

    by_test : ℕ → Bool → Partition
    by_test q b = if b || is_in q ps then f q (partition_at q ts) else partition_at q ts

    at_place : (q : ℕ) → q < length ts → partition_at q (changed_at (p ∷ ps) f ts) ≡ partition_at q (changed_at ps f after)
    at_place q l =
        let m : q < length after = omega (arith, l, length-set ts p new) in
        at-changed_at (p ∷ ps) f ts q l ∙ ⊎_elim
        (λ (k : (eqb p q ≡ true) × (p ≡ q)). ap (by_test q) k.0 ∙ ap (λ (n : ℕ). f n (partition_at n ts)) (sym k.1)
        ∙ sym (get_or-set_same ts p new (new_partition 0) there)
        ∙ ap (λ (n : ℕ). partition_at n after) k.1
        ∙ sym (at-changed_at ps f after q m
        ∙ ap (λ (b : Bool). if b then f q (partition_at q after) else partition_at q after) (ap (λ (n : ℕ). is_in n ps) (sym k.1) ∙ once)))
        (λ (k : (eqb p q ≡ false) × (p ≡ q → ⊥)). ap (by_test q) k.0
        ∙ sym (at-changed_at ps f after q m
        ∙ ap (λ (t : Partition). if is_in q ps then f q t else t) (set_at p q new ts k.1)))
        (eqb_tells p q)

-- what is said of the others is said of them still
pub others_same : {A : Type 0} (g : ℕ → Partition → A) (p : ℕ) (v : Partition) (ps : List ℕ) (ts : List Partition) → is_in p ps ≡ false
    → map (λ q. g q (partition_at q (slice_set ts p v))) ps ≡ map (λ q. g q (partition_at q ts)) ps
others_same g p v [] ts once = refl
others_same {A} g p v (q ∷ ps) ts once = ⊎_elim
    (λ (k : (eqb q p ≡ true) × (q ≡ p)). absurd (true≢false (sym (ap (λ (b : Bool). b || is_in p ps) k.0) ∙ once)))
    (λ (k : (eqb q p ≡ false) × (q ≡ p → ⊥)).
    ap (λ (t : Partition). g q t ∷ map (λ r. g r (partition_at r (slice_set ts p v))) ps) (set_at p q v ts (λ e. k.1 (sym e)))
    ∙ ap (λ (rest : List A). g q (partition_at q ts) ∷ rest) (others_same g p v ps ts (sym (ap (λ (b : Bool). b || is_in p ps) k.0) ∙ once)))
    (eqb_tells q p)
