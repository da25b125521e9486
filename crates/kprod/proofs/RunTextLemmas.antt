-- The texts of partitions, one after the other.
use Rattle.std.proofs.Common.{◌≡◌, ℕ, ◌+◌, List, [], ◌∷◌, ◌++◌, map, ap, sym, ◌∙◌, append_assoc, append-nil, zero-add}
use Rattle.std.specs.List.{concat, range_with_len}
use Rattle.std.proofs.lemmas.List.Folds.{concat-append}
use Rattle.std.proofs.lemmas.List.FromFn.{map-range_with_len_more}
use Rattle.kprod.specs.RunText.{of_each}

one_more : (text : ℕ → List ℕ) (p : ℕ) → of_each text (p + 1) ≡ of_each text p ++ text p
one_more text p =
    ap concat (map-range_with_len_more text 0 p p (zero-add p))
    ∙ concat-append (map text (range_with_len 0 p)) (text p ∷ [])
    ∙ ap (λ (xs : List ℕ). of_each text p ++ xs) (append-nil (text p))

pub each_more : (text : ℕ → List ℕ) (first old new : List ℕ) (p : ℕ) → old ≡ first ++ of_each text p → new ≡ old ++ text p
    → new ≡ first ++ of_each text (p + 1)
each_more text first old new p before more =
    more ∙ ap (λ (xs : List ℕ). xs ++ text p) before ∙ append_assoc first (of_each text p) (text p)
    ∙ ap (λ (xs : List ℕ). first ++ xs) (sym (one_more text p))
