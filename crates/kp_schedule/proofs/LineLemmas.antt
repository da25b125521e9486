-- Where a byte 10 cuts an input.
use Rattle.std.proofs.Common.{◌≡◌, ℕ, zero, suc, ◌<◌, ◌≤◌, List, [], ◌∷◌, length, get_or, take, drop, ◌+◌, nat_eq, nat_lt, Bool, true, false, cond, refl, ap, arith}
use Rattle.std.proofs.lemmas.Bool.Decides.{nat_tests}
use Rattle.kp_schedule.specs.Lines.{lines, begun_with}

-- the first byte 10 stands at place k
pub lines-at : (bs : List ℕ) (k : ℕ) → k < length bs → ((j : ℕ) → j < k → nat_eq (get_or bs j 0) 10 ≡ false) → nat_eq (get_or bs k 0) 10 ≡ true → lines bs ≡ take k bs ∷ lines (drop (suc k) bs)
lines-at [] k within none is = absurd (omega arith)
lines-at (b ∷ bs) zero within none is = rw is refl
lines-at (b ∷ bs) (suc k) within none is =
    let here : nat_eq b 10 ≡ false = none 0 (omega arith) in
    let later = lines-at bs k (omega arith) (λ j low. none (suc j) (omega arith)) is in
    rw here (ap (begun_with b) later)

-- no byte 10 stands anywhere
pub lines-nowhere : (bs : List ℕ) → 0 < length bs → ((j : ℕ) → j < length bs → nat_eq (get_or bs j 0) 10 ≡ false) → lines bs ≡ bs ∷ []
lines-nowhere [] some none = absurd (omega arith)
lines-nowhere (b ∷ []) some none =
    let here : nat_eq b 10 ≡ false = none 0 (omega arith) in
    rw here refl
lines-nowhere (b ∷ c ∷ cs) some none =
    let here : nat_eq b 10 ≡ false = none 0 (omega arith) in
    let later = lines-nowhere (c ∷ cs) (omega arith) (λ j low. none (suc j) (omega arith)) in
    rw here (ap (begun_with b) later)

begun-some : (b : ℕ) (ls : List (List ℕ)) → 1 ≤ length (begun_with b ls)
begun-some b [] = omega arith
begun-some b (first ∷ others) = omega arith

either-some : (test : Bool) (ls ms : List (List ℕ)) → 1 ≤ length ls → 1 ≤ length ms → 1 ≤ length (cond test ls ms)
either-some true ls ms l m = l
either-some false ls ms l m = m

-- a text of some bytes has a line
pub some-lines : (bs : List ℕ) → 0 < length bs → 1 ≤ length (lines bs)
some-lines [] some = absurd (omega arith)
some-lines (b ∷ bs) some = either-some (nat_eq b 10) ([] ∷ lines bs) (begun_with b (lines bs)) (omega arith) (begun-some b (lines bs))

-- where more lines are left than may be, there are more of them
pub more-lines : (limit left here all : ℕ) → limit + here ≡ left + all → left ≡ 0 → 1 ≤ here → nat_lt limit all ≡ true
more-lines limit left here all same none some = grind (arith, nat_tests)
