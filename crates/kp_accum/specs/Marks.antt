-- The marks of flushes: those of a queue are at its front.
use Rattle.std.specs.Prelude.{◌≡◌, ℕ, zero, suc, true, false, List, [], ◌∷◌}
use Rattle.kp_accum.specs.Queue.{Pending}

-- The first n batches are marked, and no other. So it is, since a flush marks all that wait.
unfoldable pub MarksAreFirst : ℕ → List Pending → Type 0
MarksAreFirst n [] = n ≡ 0
MarksAreFirst zero (b ∷ bs) = (b.marked ≡ false) × MarksAreFirst zero bs
MarksAreFirst (suc n) (b ∷ bs) = (b.marked ≡ true) × MarksAreFirst n bs
