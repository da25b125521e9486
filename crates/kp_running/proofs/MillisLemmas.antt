-- What a clock tells last is what it shows.
use Rattle.std.proofs.Common.{refl, ◌≡◌, ◌++◌, ◌∷◌, [], List, ℕ, map, Option, Some}
use Rattle.std.specs.List.{last_or}

pub told_last : (o : Option ℕ) (told : List (ℕ × Unit {0})) (x : ℕ × Unit {0}) → last_or o (map (λ x. x.0) (told ++ x ∷ [])) ≡ Some x.0
told_last o [] x = refl
told_last o (y ∷ told) x = told_last (Some y.0) told x
