-- Each entry of each table is its places of the division: the first table's by the division, each further one's by the
-- table before it.
use Rattle.std.proofs.Common.{◌≡◌, ℕ, zero, suc, ◌+◌, ◌*◌, ◌<◌, Bool, true, false, ◌&&◌, eqb, List, [], ◌∷◌, length, get_or, drop, refl, sym, ap, ◌∙◌, arith}
use Rattle.std.proofs.lemmas.Bool.{eqb-true, and_parts}
use Rattle.kp_wire.specs.Register.{step_times}
use Rattle.kp_wire.specs.declared.checksum.tables.TheConstants.{TABLES}
use Rattle.kp_wire.proofs.SliceLemmas.{steps-sum}

-- a table whose entry for the low byte i + k stands at k
begins : ℕ → List ℕ → Bool
begins i [] = true
begins i (x ∷ xs) = eqb x (step_times 8 i) && begins (suc i) xs

-- eight places more, entry by entry
follows : List ℕ → List ℕ → Bool
follows [] [] = true
follows [] (y ∷ ys) = false
follows (x ∷ xs) [] = false
follows (x ∷ xs) (y ∷ ys) = eqb y (step_times 8 x) && follows xs ys

all_follow : List ℕ → List (List ℕ) → Bool
all_follow xs [] = true
all_follow xs (ys ∷ rest) = follows xs ys && all_follow ys rest

begins_at : (i : ℕ) (xs : List ℕ) (k : ℕ) → begins i xs ≡ true → k < length xs → get_or xs k 0 ≡ step_times 8 (i + k)
unfolding begins
begins_at i [] k e h = absurd (omega arith)
begins_at i (x ∷ xs) zero e h = eqb-true x (step_times 8 i) (and_parts _ _ e).0 ∙ (let m : i ≡ i + 0 = omega arith in ap (step_times 8) m)
begins_at i (x ∷ xs) (suc k) e h = begins_at (suc i) xs k (and_parts _ _ e).1 (omega arith) ∙ (let m : suc i + k ≡ i + suc k = omega arith in ap (step_times 8) m)

follows_at : (xs ys : List ℕ) (k : ℕ) → follows xs ys ≡ true → k < length xs → get_or ys k 0 ≡ step_times 8 (get_or xs k 0)
unfolding follows
follows_at [] ys k e h = absurd (omega arith)
follows_at (x ∷ xs) [] k e h = absurd cc
follows_at (x ∷ xs) (y ∷ ys) zero e h = eqb-true y (step_times 8 x) (and_parts _ _ e).0
follows_at (x ∷ xs) (y ∷ ys) (suc k) e h = follows_at xs ys k (and_parts _ _ e).1 (omega arith)

same_length : (xs ys : List ℕ) → follows xs ys ≡ true → length ys ≡ length xs
unfolding follows
same_length [] [] e = refl
same_length [] (y ∷ ys) e = absurd cc
same_length (x ∷ xs) [] e = absurd cc
same_length (x ∷ xs) (y ∷ ys) e = ap suc (same_length xs ys (and_parts _ _ e).1)

entry_of : (t : ℕ) (xs : List ℕ) (tables : List (List ℕ)) (j k : ℕ) → all_follow xs tables ≡ true → j < length tables → k < length xs
    → get_or xs k 0 ≡ step_times (8 * (t + 1)) k → get_or (get_or tables j []) k 0 ≡ step_times (8 * (t + j + 2)) k
unfolding all_follow
entry_of t xs [] j k e h low here = absurd (omega arith)
entry_of t xs (ys ∷ rest) zero k e h low here =
    let m : 8 * (t + 1) + 8 ≡ 8 * (t + 0 + 2) = omega arith in
    follows_at xs ys k (and_parts _ _ e).0 low ∙ ap (step_times 8) here ∙ sym (steps-sum (8 * (t + 1)) 8 k) ∙ ap (λ (n : ℕ). step_times n k) m
entry_of t xs (ys ∷ rest) (suc j) k e h low here =
    let m : 8 * (t + 1) + 8 ≡ 8 * (suc t + 1) = omega arith in
    let next : get_or ys k 0 ≡ step_times (8 * (suc t + 1)) k =
    follows_at xs ys k (and_parts _ _ e).0 low ∙ ap (step_times 8) here ∙ sym (steps-sum (8 * (t + 1)) 8 k) ∙ ap (λ (n : ℕ). step_times n k) m in
    let long : k < length ys = omega (arith, same_length xs ys (and_parts _ _ e).0) in
    entry_of (suc t) ys rest j k (and_parts _ _ e).1 (omega arith) long next
    ∙ (let p : 8 * (suc t + j + 2) ≡ 8 * (t + suc j + 2) = omega arith in ap (λ (n : ℕ). step_times n k) p)

first_table : List ℕ
first_table = get_or TABLES 0 []

further_tables : List (List ℕ)
further_tables = drop 1 TABLES

first_begins : begins 0 first_table ≡ true
unfolding begins step_times first_table
first_begins = refl

further_follow : all_follow first_table further_tables ≡ true
unfolding all_follow follows step_times first_table further_tables
further_follow = refl

from_first : (k : ℕ) → k < 256 → get_or first_table k 0 ≡ step_times 8 k
unfolding first_table
from_first k low = begins_at 0 first_table k first_begins low ∙ (let z : 0 + k ≡ k = omega arith in ap (step_times 8) z)

pub entry_is : (j k : ℕ) → j < 16 → k < 256 → get_or (get_or TABLES j []) k 0 ≡ step_times (8 * (j + 1)) k
unfolding first_table further_tables
entry_is zero k h low = from_first k low ∙ (let m : 8 ≡ 8 * (0 + 1) = omega arith in ap (λ (n : ℕ). step_times n k) m)
entry_is (suc j) k h low = entry_of 0 first_table further_tables j k further_follow (omega arith) low (from_first k low ∙ (let m : 8 ≡ 8 * (0 + 1) = omega arith in ap (λ (n : ℕ). step_times n k) m))
    ∙ (let p : 8 * (0 + j + 2) ≡ 8 * (suc j + 1) = omega arith in ap (λ (n : ℕ). step_times n k) p)
