-- What stands at a place of a list whose elements are numbered.
use Rattle.std.proofs.Common.{◌≡◌, ℕ, ◌<◌, List, Some, ap, ◌∙◌, length, get_or, slice_get, zero-add}
use Rattle.std.specs.List.{enumerate_from}
use Rattle.std.proofs.lemmas.List.FromFn.{get_or-enumerate_from}
use Rattle.std.proofs.lemmas.Option.{get_or_from_slice_get}

pub numbered_at : {X : Type 0} (xs : List X) (k : ℕ) (d : X) → k < length xs → get_or (enumerate_from 0 xs) k (k, d) ≡ (k, get_or xs k d)
numbered_at xs k d within =
    get_or-enumerate_from 0 xs k (k, d) within ∙ ap (λ (n : ℕ). (n, get_or xs k d)) (zero-add k)

pub found_at : {X : Type 0} (xs : List X) (k : ℕ) (x : X) → k < length xs → slice_get xs k ≡ Some x → get_or (enumerate_from 0 xs) k (k, x) ≡ (k, x)
found_at xs k x within at = numbered_at xs k x within ∙ ap (λ y. (k, y)) (get_or_from_slice_get xs k x x at)
