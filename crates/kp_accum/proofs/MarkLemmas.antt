-- Marks: those of a queue are at its front.
use Rattle.std.proofs.Common.{◌≡◌, ◌∙◌, ℕ, zero, suc, ◌-◌, ◌<◌, ◌≤◌, true, false, true≢false, List, [], ◌∷◌, ◌++◌, length, map, get_or, set, refl, sym, ap, arith}
use Rattle.kp_accum.specs.Queue.{Pending, marked_by_flush, marked_in}
use Rattle.kp_accum.specs.Marks.{MarksAreFirst}

pub no_marks : MarksAreFirst 0 []
unfolding MarksAreFirst
no_marks = refl

pub marks-counted : (n : ℕ) (qs : List Pending) → MarksAreFirst n qs → marked_in qs ≡ n
unfolding MarksAreFirst
marks-counted n [] m = sym m
marks-counted zero (b ∷ bs) m = rw m.0 (marks-counted zero bs m.1)
marks-counted (suc n) (b ∷ bs) m = rw m.0 (ap suc (marks-counted n bs m.1))

-- ---- one batch changed, or one more

pub marks-set : (n : ℕ) (qs : List Pending) (k : ℕ) (y d : Pending) → k < length qs → y.marked ≡ (get_or qs k d).marked → MarksAreFirst n qs → MarksAreFirst n (set qs k y)
unfolding MarksAreFirst
marks-set n [] k y d lt e m = absurd (omega arith)
marks-set zero (b ∷ bs) zero y d lt e m = (e ∙ m.0, m.1)
marks-set zero (b ∷ bs) (suc k) y d lt e m = (m.0, marks-set zero bs k y d (omega arith) e m.1)
marks-set (suc n) (b ∷ bs) zero y d lt e m = (e ∙ m.0, m.1)
marks-set (suc n) (b ∷ bs) (suc k) y d lt e m = (m.0, marks-set n bs k y d (omega arith) e m.1)

pub marks-push : (n : ℕ) (qs : List Pending) (y : Pending) → y.marked ≡ false → MarksAreFirst n qs → MarksAreFirst n (qs ++ y ∷ [])
unfolding MarksAreFirst
marks-push zero [] y e m = (e, refl)
marks-push (suc n) [] y e m = absurd (omega (arith, m))
marks-push zero (b ∷ bs) y e m = (m.0, marks-push zero bs y e m.1)
marks-push (suc n) (b ∷ bs) y e m = (m.0, marks-push n bs y e m.1)

-- ---- without the front batch

pub marks-some : (n : ℕ) (b : Pending) (bs : List Pending) → b.marked ≡ true → MarksAreFirst n (b ∷ bs) → 1 ≤ n
unfolding MarksAreFirst
marks-some zero b bs e m = absurd (true≢false (sym e ∙ m.0))
marks-some (suc n) b bs e m = omega arith

pub marks-less : (n : ℕ) (b : Pending) (bs : List Pending) → b.marked ≡ true → MarksAreFirst n (b ∷ bs) → MarksAreFirst (n - 1) bs
unfolding MarksAreFirst
marks-less zero b bs e m = absurd (true≢false (sym e ∙ m.0))
marks-less (suc n) b bs e m = let one : suc n - 1 ≡ n = omega arith in rw one m.1

pub marks-same : (n : ℕ) (b : Pending) (bs : List Pending) → b.marked ≡ false → MarksAreFirst n (b ∷ bs) → MarksAreFirst n bs
unfolding MarksAreFirst
marks-same zero b bs e m = m.1
marks-same (suc n) b bs e m = absurd (true≢false (sym m.0 ∙ e))

-- ---- all marked, one after the other

-- the first n batches are marked
abbrev pub MarkedBelow : ℕ → List Pending → Type 0
MarkedBelow n [] = Unit {0}
MarkedBelow zero (b ∷ bs) = Unit {0}
MarkedBelow (suc n) (b ∷ bs) = (b.marked ≡ true) × MarkedBelow n bs

pub marked_below-first : (n : ℕ) (qs : List Pending) → MarksAreFirst n qs → MarkedBelow n qs
unfolding MarksAreFirst
marked_below-first n [] m = tt
marked_below-first zero (b ∷ bs) m = tt
marked_below-first (suc n) (b ∷ bs) m = (m.0, marked_below-first n bs m.1)

pub marked_below-set : (k : ℕ) (qs : List Pending) (y : Pending) → y.marked ≡ true → MarkedBelow k qs → MarkedBelow (suc k) (set qs k y)
marked_below-set k [] y e m = tt
marked_below-set zero (b ∷ []) y e m = (e, tt)
marked_below-set zero (b ∷ b' ∷ bs) y e m = (e, tt)
marked_below-set (suc k) (b ∷ bs) y e m = (m.0, marked_below-set k bs y e m.1)

marked_again : (b : Pending) → b.marked ≡ true → marked_by_flush b ≡ b
marked_again b e = ap (λ z. record { begun = b.begun; items = b.items; marked = z }) (sym e)

pub marked_below-all : (n : ℕ) (qs : List Pending) → length qs ≤ n → MarkedBelow n qs → map marked_by_flush qs ≡ qs
marked_below-all n [] le m = refl
marked_below-all zero (b ∷ bs) le m = absurd (omega arith)
marked_below-all (suc n) (b ∷ bs) le m = ap (λ z. z ∷ map marked_by_flush bs) (marked_again b m.0) ∙ ap (λ z. b ∷ z) (marked_below-all n bs (omega arith) m.1)

pub marks-all : (qs : List Pending) → MarksAreFirst (length qs) (map marked_by_flush qs)
unfolding MarksAreFirst
marks-all [] = refl
marks-all (b ∷ bs) = (refl, marks-all bs)
