-- Where a byte 10 cuts an input.
use Rattle.std.proofs.Common.{◌≡◌, ℕ, zero, suc, ◌<◌, List, [], ◌∷◌, length, get_or, take, drop, nat_eq, true, false, refl, ap, arith}
use Rattle.kp_program.specs.Lines.{lines, begun_with}

-- the first byte 10 stands at place k
pub lines-at : (bs : List ℕ) (k : ℕ) → k < length bs → ((j : ℕ) → j < k → nat_eq (get_or bs j 0) 10 ≡ false) → nat_eq (get_or bs k 0) 10 ≡ true → lines bs ≡ take k bs ∷ lines (drop (suc k) bs)
lines-at [] k within none is = absurd (omega arith)
lines-at (b ∷ bs) zero within none is = rw is refl
lines-at (b ∷ bs) (suc k) within none is =
    let here : nat_eq b 10 ≡ false = none 0 (omega arith) in
    let later = lines-at bs k (omega arith) (λ j low. none (suc j) (omega arith)) is in
    rw here (ap (begun_with b) later)

-- no byte 10 stands anywhere
pub lines-nowhere : (bs : List ℕ) → 0 < length bs → ((j : ℕ) → j < length bs → nat_eq (get_or bs j 0) 10 ≡ false) → lines bs ≡ bs ∷ []
lines-nowhere [] some none = absurd (omega arith)
lines-nowhere (b ∷ []) some none =
    let here : nat_eq b 10 ≡ false = none 0 (omega arith) in
    rw here refl
lines-nowhere (b ∷ c ∷ cs) some none =
    let here : nat_eq b 10 ≡ false = none 0 (omega arith) in
    let later = lines-nowhere (c ∷ cs) (omega arith) (λ j low. none (suc j) (omega arith)) in
    rw here (ap (begun_with b) later)
