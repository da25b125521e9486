-- Moments that are told, none of which is before the one that they are told from.
use Rattle.std.proofs.Common.{◌≡◌, ◌≤◌, ℕ, Bool, true, false, List, [], ◌∷◌, min, Option, Some, None, refl, arith}
use Rattle.std.specs.Prelude.{filter, fold, IfSome, if◌then◌else◌}
use Rattle.std.specs.List.{AllByRecursion, reduce}
use Rattle.std.proofs.lemmas.Bool.Decides.{nat_tests}
use Rattle.kp_cluster.specs.Actions.{earlier}
use Rattle.kp_core.specs.Spent.{can_only_end}
use Rattle.kp_embed.specs.Due.{NotLater, core_due, no_sooner}
use Rattle.kp_rules.specs.Due.{comes, moments, next_due_from}
use Rattle.kp_rules.specs.Records.{Core}

abbrev pub IsFrom : ℕ → Option ℕ → Type 0
IsFrom from due = IfSome due (λ at. from ≤ at)

fold_from : (from a : ℕ) (xs : List ℕ) → from ≤ a → AllByRecursion (λ x. from ≤ x) xs → from ≤ fold min a xs
fold_from from a [] l all = l
fold_from from a (x ∷ xs) l all = let m : from ≤ min a x = omega (arith, l, all.0) in fold_from from (min a x) xs m all.1

least_from : (from : ℕ) (xs : List ℕ) → AllByRecursion (λ x. from ≤ x) xs → IsFrom from (reduce min xs)
least_from from [] all = tt
least_from from (x ∷ xs) all = fold_from from x xs all.0 all.1

comes_from : (from x : ℕ) → comes from x ≡ true → from ≤ x
comes_from from x e = grind (arith, nat_tests)

filtered_from : (from : ℕ) (xs : List ℕ) → AllByRecursion (λ x. from ≤ x) (filter (comes from) xs)
filtered_from from [] = tt
filtered_from from (x ∷ xs) = by (comes from x) refl (filtered_from from xs)
  where
    by : (b : Bool) → comes from x ≡ b → AllByRecursion (λ y. from ≤ y) (filter (comes from) xs) → AllByRecursion (λ y. from ≤ y) (filter (comes from) (x ∷ xs))
    by true e behind = rw e (comes_from from x e, behind)
    by false e behind = rw e behind

pub core_from : (from : ℕ) (s : Core) → IsFrom from (next_due_from from s)
unfolding next_due_from
core_from from s = least_from from (filter (comes from) (moments s)) (filtered_from from (moments s))

pub core_due_from : (from : ℕ) (s : Core) → IsFrom from (core_due from s)
core_due_from from s = by (can_only_end s)
  where
    by : (b : Bool) → IsFrom from (if b then Some from else next_due_from from s)
    by true = omega arith
    by false = core_from from s

pub earlier_from : (from : ℕ) (a b : Option ℕ) → IsFrom from a → IsFrom from b → IsFrom from (earlier a b)
earlier_from from None b l m = m
earlier_from from (Some x) None l m = l
earlier_from from (Some x) (Some y) l m = omega (arith, l, m)

pub no_sooner_from : (from : ℕ) (due : Option ℕ) → IsFrom from (no_sooner from due)
no_sooner_from from None = tt
no_sooner_from from (Some x) = omega arith

pub earlier_not_later : (a b : Option ℕ) → NotLater b (earlier a b)
earlier_not_later a None = tt
earlier_not_later None (Some y) = (y, refl, omega arith)
earlier_not_later (Some x) (Some y) = (min x y, refl, omega arith)
