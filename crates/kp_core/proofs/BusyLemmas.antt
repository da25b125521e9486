-- The numbers of the busy partitions, and what is looked for among them alone.
use Rattle.std.proofs.Common.{◌≡◌, ◌∙◌, ℕ, zero, suc, ◌+◌, ◌<◌, ◌≤◌, Bool, true, false, not, List, [], ◌∷◌, ◌++◌, length, map, get_or, drop, Some, None, refl, sym, ap, subst, ne_eqb, eq-eqb, arith}
use Rattle.std.specs.Prelude.{Option, filter_map, find, flat_map, option_map, if◌then◌else◌, ◌&&◌, ◌||◌, ◌==◌}
use Rattle.std.specs.List.{AllByRecursion, cons_option, enumerate_from, list_any}
use Rattle.kp_rules.specs.InOrder.{AreDistinct}
use Rattle.kp_rules.specs.Partitions.{is_in, leads, partition_at}
use Rattle.kp_rules.specs.Records.{Partition}
use Rattle.kp_parts.specs.PartitionRooms.{is_idle}
use Rattle.kp_core.specs.Busy.{busy_from, busy_in, has_work_for, is_busy}
use Rattle.kp_core.proofs.WalkLemmas.{all_here, any_here, any_none}

pub busy-is : (t : Partition) → is_busy t ≡ not (is_idle t)
unfolding is_busy is_idle
busy-is t = refl

-- ---- one partition more

abbrev pub one_more : Bool → ℕ → List ℕ → List ℕ
one_more b n ps = if b then n ∷ ps else ps

all_more : (P : ℕ → Type 0) (b : Bool) (n : ℕ) (ps : List ℕ) → P n → AllByRecursion P ps → AllByRecursion P (one_more b n ps)
all_more P true n ps here rest = (here, rest)
all_more P false n ps here rest = rest

more-append : (b : Bool) (n : ℕ) (ps qs : List ℕ) → one_more b n (ps ++ qs) ≡ one_more b n ps ++ qs
more-append true n ps qs = refl
more-append false n ps qs = refl

-- ---- where they stand

pub busy_above : (n m : ℕ) (ts : List Partition) → m ≤ n → AllByRecursion (λ p. m ≤ p) (busy_from n ts)
busy_above n m [] l = tt
busy_above n m (t ∷ ts) l = all_more (λ p. m ≤ p) (is_busy t) n (busy_from (n + 1) ts) l (busy_above (n + 1) m ts (omega arith))

pub busy_under : (n m : ℕ) (ts : List Partition) → n + length ts ≤ m → AllByRecursion (λ p. p < m) (busy_from n ts)
busy_under n m [] l = tt
busy_under n m (t ∷ ts) l =
    all_more (λ p. p < m) (is_busy t) n (busy_from (n + 1) ts) (omega arith) (busy_under (n + 1) m ts (omega arith))

pub busy_there : (ts : List Partition) → AllByRecursion (λ p. p < length ts) (busy_in ts)
busy_there ts = busy_under 0 (length ts) ts (omega arith)

not_in : (n : ℕ) (ps : List ℕ) → AllByRecursion (λ p. n + 1 ≤ p) ps → is_in n ps ≡ false
not_in n [] above = refl
not_in n (p ∷ ps) above =
    let other : (p == n) ≡ false = ne_eqb p n (λ e. omega (arith, e, above.0)) in
    ap (λ (b : Bool). b || is_in n ps) other ∙ not_in n ps above.1

distinct_more : (b : Bool) (n : ℕ) (ps : List ℕ) → AllByRecursion (λ p. n + 1 ≤ p) ps → AreDistinct ps → AreDistinct (one_more b n ps)
distinct_more true n ps above rest = (not_in n ps above, rest)
distinct_more false n ps above rest = rest

pub busy_once : (n : ℕ) (ts : List Partition) → AreDistinct (busy_from n ts)
busy_once n [] = tt
busy_once n (t ∷ ts) =
    distinct_more (is_busy t) n (busy_from (n + 1) ts) (busy_above (n + 1) (n + 1) ts (omega arith)) (busy_once (n + 1) ts)

pub busy_few : (n : ℕ) (ts : List Partition) → length (busy_from n ts) ≤ length ts
busy_few n [] = omega arith
busy_few n (t ∷ ts) = by_flag (busy_few (n + 1) ts) (is_busy t)
  where
    by_flag : length (busy_from (n + 1) ts) ≤ length ts → (b : Bool) → length (one_more b n (busy_from (n + 1) ts)) ≤ length (t ∷ ts)
    by_flag rest true = omega (arith, rest)
    by_flag rest false = omega (arith, rest)

pub busy-append : (n : ℕ) (ts us : List Partition) → busy_from n (ts ++ us) ≡ busy_from n ts ++ busy_from (n + length ts) us
busy-append n [] us = let same : n ≡ n + 0 = omega arith in ap (λ (m : ℕ). busy_from m us) same
busy-append n (t ∷ ts) us =
    let same : n + 1 + length ts ≡ n + suc (length ts) = omega arith in
    ap (one_more (is_busy t) n) (busy-append (n + 1) ts us ∙ ap (λ (m : ℕ). busy_from (n + 1) ts ++ busy_from m us) same)
    ∙ more-append (is_busy t) n (busy_from (n + 1) ts) (busy_from (n + suc (length ts)) us)

-- a partition is listed where it is busy
pub in_busy : (n k : ℕ) (ts : List Partition) → k < length ts → is_in (n + k) (busy_from n ts) ≡ is_busy (partition_at k ts)
in_busy n k [] l = absurd (omega (arith, l))
in_busy n zero (t ∷ ts) l = by_flag (is_busy t)
  where
    by_flag : (b : Bool) → is_in (n + zero) (one_more b n (busy_from (n + 1) ts)) ≡ b
    by_flag true =
        let same : (n == n + zero) ≡ true = eq-eqb n (n + zero) (omega arith) in
        ap (λ (b : Bool). b || is_in (n + zero) (busy_from (n + 1) ts)) same
    by_flag false =
        let same : n ≡ n + zero = omega arith in
        ap (λ (m : ℕ). is_in m (busy_from (n + 1) ts)) (sym same) ∙ not_in n (busy_from (n + 1) ts) (busy_above (n + 1) (n + 1) ts (omega arith))
in_busy n (suc k) (t ∷ ts) l = by_flag (in_busy (n + 1) k ts (omega (arith, l))) (is_busy t)
  where
    next : n + suc k ≡ n + 1 + k
    next = omega arith

    by_flag : is_in (n + 1 + k) (busy_from (n + 1) ts) ≡ is_busy (partition_at k ts) → (b : Bool)
        → is_in (n + suc k) (one_more b n (busy_from (n + 1) ts)) ≡ is_busy (partition_at k ts)
    by_flag rest true =
        let other : (n == n + suc k) ≡ false = ne_eqb n (n + suc k) (λ e. omega (arith, e)) in
        ap (λ (b : Bool). b || is_in (n + suc k) (busy_from (n + 1) ts)) other ∙ ap (λ (m : ℕ). is_in m (busy_from (n + 1) ts)) next ∙ rest
    by_flag rest false = ap (λ (m : ℕ). is_in m (busy_from (n + 1) ts)) next ∙ rest

-- ---- only what is queued or open matters

abbrev flags_from : ℕ → List Bool → List ℕ
flags_from n [] = []
flags_from n (b ∷ bs) = one_more b n (flags_from (n + 1) bs)

by_flags : (n : ℕ) (ts : List Partition) → busy_from n ts ≡ flags_from n (map is_busy ts)
by_flags n [] = refl
by_flags n (t ∷ ts) = ap (one_more (is_busy t) n) (by_flags (n + 1) ts)

pub same_busy : (ts us : List Partition) → map is_busy us ≡ map is_busy ts → busy_in us ≡ busy_in ts
same_busy ts us e = by_flags 0 us ∙ ap (flags_from 0) e ∙ sym (by_flags 0 ts)

-- ---- these stand in the list, from n on

abbrev pub AreAt : ℕ → List Partition → List Partition → Type 0
AreAt n [] ts = Unit {0}
AreAt n (x ∷ xs) ts = (partition_at n ts ≡ x) × AreAt (n + 1) xs ts

pub are_at : (n : ℕ) (xs ts : List Partition) → ((k : ℕ) → k < length xs → partition_at (n + k) ts ≡ partition_at k xs) → AreAt n xs ts
are_at n [] ts at = tt
are_at n (x ∷ xs) ts at =
    let same : n ≡ n + 0 = omega arith in (
      ap (λ (m : ℕ). partition_at m ts) same ∙ at 0 (omega arith),
      are_at (n + 1) xs ts (λ k l. let next : n + 1 + k ≡ n + suc k = omega arith in ap (λ (m : ℕ). partition_at m ts) next ∙ at (suc k) (omega (arith, l))),
    )

pub all_at : (ts : List Partition) → AreAt 0 ts ts
all_at ts = are_at 0 ts ts (λ k l. let same : 0 + k ≡ k = omega arith in ap (λ (m : ℕ). partition_at m ts) same)

-- ---- what is looked for among the busy ones alone, where the others give nothing

pub any_busy : (f : Partition → Bool) (n : ℕ) (xs ts : List Partition) → ((t : Partition) → is_busy t ≡ false → f t ≡ false) → AreAt n xs ts
    → list_any (λ p. f (partition_at p ts)) (busy_from n xs) ≡ list_any f xs
any_busy f n [] ts quiet at = refl
any_busy f n (x ∷ xs) ts quiet at = by_flag (any_busy f (n + 1) xs ts quiet at.1) (is_busy x) refl
  where
    by_flag : list_any (λ p. f (partition_at p ts)) (busy_from (n + 1) xs) ≡ list_any f xs → (b : Bool) → is_busy x ≡ b → list_any (λ p. f (partition_at p ts)) (one_more b n (busy_from (n + 1) xs)) ≡ list_any f (x ∷ xs)
    by_flag rest true is = ap (λ (t : Partition). f t || list_any (λ p. f (partition_at p ts)) (busy_from (n + 1) xs)) at.0 ∙ ap (λ (b : Bool). f x || b) rest
    by_flag rest false is = rest ∙ ap (λ (b : Bool). b || list_any f xs) (sym (quiet x is))

pub flat_busy : {A : Type 0} (f : Partition → List A) (n : ℕ) (xs ts : List Partition) → ((t : Partition) → is_busy t ≡ false → f t ≡ []) → AreAt n xs ts
    → flat_map (λ p. f (partition_at p ts)) (busy_from n xs) ≡ flat_map f xs
flat_busy f n [] ts quiet at = refl
flat_busy {A} f n (x ∷ xs) ts quiet at = by_flag (flat_busy f (n + 1) xs ts quiet at.1) (is_busy x) refl
  where
    by_flag : flat_map (λ p. f (partition_at p ts)) (busy_from (n + 1) xs) ≡ flat_map f xs → (b : Bool) → is_busy x ≡ b → flat_map (λ p. f (partition_at p ts)) (one_more b n (busy_from (n + 1) xs)) ≡ flat_map f (x ∷ xs)
    by_flag rest true is = ap (λ (t : Partition). f t ++ flat_map (λ p. f (partition_at p ts)) (busy_from (n + 1) xs)) at.0 ∙ ap (λ (ys : List A). f x ++ ys) rest
    by_flag rest false is = rest ∙ ap (λ (ys : List A). ys ++ flat_map f xs) (sym (quiet x is))

pub chosen_busy : {A : Type 0} (h : ℕ × Partition → Option A) (n : ℕ) (xs ts : List Partition)
    → ((p : ℕ) (t : Partition) → is_busy t ≡ false → h (p, t) ≡ None) → AreAt n xs ts
    → filter_map (λ p. h (p, partition_at p ts)) (busy_from n xs) ≡ filter_map h (enumerate_from n xs)
chosen_busy h n [] ts quiet at = refl
chosen_busy {A} h n (x ∷ xs) ts quiet at = by_flag (chosen_busy h (n + 1) xs ts quiet at.1) (is_busy x) refl
  where
    g : ℕ → Option A
    g p = h (p, partition_at p ts)

    by_flag : filter_map (λ p. h (p, partition_at p ts)) (busy_from (n + 1) xs) ≡ filter_map h (enumerate_from (n + 1) xs) → (b : Bool) → is_busy x ≡ b
        → filter_map (λ p. h (p, partition_at p ts)) (one_more b n (busy_from (n + 1) xs)) ≡ filter_map h (enumerate_from n (x ∷ xs))
    by_flag rest true is =
        ap (λ (t : Partition). cons_option (h (n, t)) (filter_map (λ p. h (p, partition_at p ts)) (busy_from (n + 1) xs))) at.0
        ∙ ap (λ (ys : List A). cons_option (h (n, x)) ys) rest
    by_flag rest false is = rest ∙ ap (λ (o : Option A). cons_option o (filter_map h (enumerate_from (n + 1) xs))) (sym (quiet n x is))

pub found_busy : (h : ℕ × Partition → Bool) (n : ℕ) (xs ts : List Partition)
    → ((p : ℕ) (t : Partition) → is_busy t ≡ false → h (p, t) ≡ false) → AreAt n xs ts
    → find (λ p. h (p, partition_at p ts)) (busy_from n xs) ≡ option_map (λ x. x.0) (find h (enumerate_from n xs))
found_busy h n [] ts quiet at = refl
found_busy h n (x ∷ xs) ts quiet at = by_flag (found_busy h (n + 1) xs ts quiet at.1) (is_busy x) refl
  where
    by_test : find (λ p. h (p, partition_at p ts)) (busy_from (n + 1) xs) ≡ option_map (λ x. x.0) (find h (enumerate_from (n + 1) xs)) → (b : Bool) → h (n, x) ≡ b
        → (if b then Some n else find (λ p. h (p, partition_at p ts)) (busy_from (n + 1) xs))
        ≡ option_map (λ x. x.0) (if b then Some (n, x) else find h (enumerate_from (n + 1) xs))
    by_test rest true is = refl
    by_test rest false is = rest

    by_flag : find (λ p. h (p, partition_at p ts)) (busy_from (n + 1) xs) ≡ option_map (λ x. x.0) (find h (enumerate_from (n + 1) xs)) → (b : Bool) → is_busy x ≡ b
        → find (λ p. h (p, partition_at p ts)) (one_more b n (busy_from (n + 1) xs)) ≡ option_map (λ x. x.0) (find h (enumerate_from n (x ∷ xs)))
    by_flag rest true is =
        ap (λ (t : Partition). if h (n, t) then Some n else find (λ p. h (p, partition_at p ts)) (busy_from (n + 1) xs)) at.0
        ∙ by_test rest (h (n, x)) refl
    by_flag rest false is =
        rest ∙ ap (λ (b : Bool). option_map (λ x. x.0) (if b then Some (n, x) else find h (enumerate_from (n + 1) xs))) (sym (quiet n x is))

-- of those that are busy, one is led by the node
pub led_busy : (node n : ℕ) (xs ts : List Partition) → AreAt n xs ts
    → list_any (λ p. leads node (partition_at p ts)) (busy_from n xs) ≡ list_any (has_work_for node) xs
led_busy node n [] ts at = refl
led_busy node n (x ∷ xs) ts at = by_flag (led_busy node (n + 1) xs ts at.1) (is_busy x)
  where
    with_it : (b : Bool) → (b && true) ≡ b
    with_it true = refl
    with_it false = refl

    without_it : (b : Bool) → (b && false) ≡ false
    without_it true = refl
    without_it false = refl

    by_flag : list_any (λ p. leads node (partition_at p ts)) (busy_from (n + 1) xs) ≡ list_any (has_work_for node) xs → (b : Bool) → list_any (λ p. leads node (partition_at p ts)) (one_more b n (busy_from (n + 1) xs)) ≡ ((leads node x && b) || list_any (has_work_for node) xs)
    by_flag rest true =
        ap (λ (t : Partition). leads node t || list_any (λ p. leads node (partition_at p ts)) (busy_from (n + 1) xs)) at.0
        ∙ ap (λ (b : Bool). leads node x || b) rest ∙ ap (λ (b : Bool). b || list_any (has_work_for node) xs) (sym (with_it (leads node x)))
    by_flag rest false = rest ∙ ap (λ (b : Bool). b || list_any (has_work_for node) xs) (sym (without_it (leads node x)))

-- ---- a walk over those that are listed

pub listed_there : (ts : List Partition) (ds : List ℕ) (i : ℕ) → ds ≡ busy_in ts → i < length ds → get_or ds i 0 < length ts
listed_there ts ds i is l = all_here (λ p. p < length ts) ds i 0 l (subst (AllByRecursion (λ p. p < length ts)) (sym is) (busy_there ts))

-- the sought one is found, or there is none
pub any_found : (f : Partition → Bool) (b : Bool) (ts : List Partition) (ds : List ℕ) (i : ℕ)
    → list_any (λ p. f (partition_at p ts)) (busy_in ts) ≡ b → ds ≡ busy_in ts → i < length ds → f (partition_at (get_or ds i 0) ts) ≡ true
    → list_any (λ p. f (partition_at p ts)) (drop i (busy_in ts)) ≡ list_any (λ p. f (partition_at p ts)) (busy_in ts) → true ≡ b
any_found f b ts ds i whole is l passes so_far =
    let m : i < length (busy_in ts) = subst (λ (ps : List ℕ). i < length ps) is l in
    let same : get_or ds i 0 ≡ get_or (busy_in ts) i 0 = ap (λ (ps : List ℕ). get_or ps i 0) is in
    sym (any_here (λ p. f (partition_at p ts)) (busy_in ts) i m (ap (λ (p : ℕ). f (partition_at p ts)) (sym same) ∙ passes) so_far) ∙ whole

pub any_missed : (f : Partition → Bool) (b : Bool) (ts : List Partition) (ds : List ℕ) (i : ℕ)
    → list_any (λ p. f (partition_at p ts)) (busy_in ts) ≡ b → ds ≡ busy_in ts → length ds ≤ i
    → list_any (λ p. f (partition_at p ts)) (drop i (busy_in ts)) ≡ list_any (λ p. f (partition_at p ts)) (busy_in ts) → false ≡ b
any_missed f b ts ds i whole is end so_far =
    sym (any_none (λ p. f (partition_at p ts)) (busy_in ts) i (subst (λ (ps : List ℕ). length ps ≤ i) is end) so_far) ∙ whole
