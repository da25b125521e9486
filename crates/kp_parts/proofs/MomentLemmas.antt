-- The earliest of some moments.
use Rattle.std.proofs.Common.{◌≡◌, ◌∙◌, ℕ, ◌+◌, ◌^◌, ◌≤◌, ◌<◌, true, false, List, [], ◌∷◌, ◌++◌, map, min, Option, Some, None, refl, sym, ap, arith}
use Rattle.std.specs.Prelude.{filter, fold}
use Rattle.std.specs.List.{reduce}
use Rattle.std.proofs.lemmas.Bool.Decides.{nat_tests}
use Rattle.std.proofs.lemmas.List.Elements.{filter-append}
use Rattle.kp_accum.specs.declared.config.Config.{Config}
use Rattle.kp_rules.specs.Attempts.{lowest_waiting}
use Rattle.kp_rules.specs.Due.{comes, earliest, front_moments, retry_moments, partition_moments}
use Rattle.kp_parts.specs.PartitionRooms.{sooner}
use Rattle.kp_rules.specs.Records.{Open, Partition}

fold_min-min : (a b : ℕ) (xs : List ℕ) → fold min (min a b) xs ≡ min a (fold min b xs)
fold_min-min a b [] = refl
fold_min-min a b (x ∷ xs) =
    let same : min (min a b) x ≡ min a (min b x) = omega arith in
    ap (λ (z : ℕ). fold min z xs) same ∙ fold_min-min a (min b x) xs

fold_min-append : (a : ℕ) (xs ys : List ℕ) → Some (fold min a (xs ++ ys)) ≡ sooner (Some (fold min a xs)) (reduce min ys)
fold_min-append a [] [] = refl
fold_min-append a [] (y ∷ ys) = ap Some (fold_min-min a y ys)
fold_min-append a (x ∷ xs) ys = fold_min-append (min a x) xs ys

reduce_min-append : (xs ys : List ℕ) → reduce min (xs ++ ys) ≡ sooner (reduce min xs) (reduce min ys)
reduce_min-append [] ys = refl
reduce_min-append (x ∷ xs) ys = fold_min-append x xs ys

pub earliest-append : (from : ℕ) (xs ys : List ℕ) → earliest from (xs ++ ys) ≡ sooner (earliest from xs) (earliest from ys)
earliest-append from xs ys =
    ap (reduce min) (filter-append (comes from) xs ys) ∙ reduce_min-append (filter (comes from) xs) (filter (comes from) ys)

pub earliest-one : (from n : ℕ) → from ≤ n → n < 2 ^ 64 → earliest from (n ∷ []) ≡ Some n
earliest-one from n le lt = let e : comes from n ≡ true = comes-so from n le lt in rw e refl
  where
    comes-so : (k m : ℕ) → k ≤ m → m < 2 ^ 64 → comes k m ≡ true
    comes-so k m l lt = grind (arith, nat_tests)

pub earliest-past : (from n : ℕ) → n < from → earliest from (n ∷ []) ≡ None
earliest-past from n lt = let e : comes from n ≡ false = comes-not from n lt in rw e refl
  where
    comes-not : (k m : ℕ) → m < k → comes k m ≡ false
    comes-not k m l = grind (arith, nat_tests)

pub earliest-none : (from n : ℕ) → 2 ^ 64 ≤ n → earliest from (n ∷ []) ≡ None
earliest-none from n le = let e : comes from n ≡ false = comes-not from n le in rw e refl
  where
    comes-not : (k m : ℕ) → 2 ^ 64 ≤ m → comes k m ≡ false
    comes-not k m l = grind (arith, nat_tests)

-- the deadlines of open batches
abbrev deadlines : Config → List Open → List ℕ
deadlines c os = map (λ o. o.begun + c.delivery_timeout_ms) os

pub partition_moments-is : (c : Config) (t : Partition)
    → partition_moments c t ≡ deadlines c t.open_batches ++ front_moments c t.queue ++ retry_moments c (lowest_waiting t)
unfolding partition_moments
partition_moments-is c t = refl

pub earliest-parts : (from : ℕ) (c : Config) (t : Partition) (a b d : Option ℕ)
    → a ≡ earliest from (map (λ o. o.begun + c.delivery_timeout_ms) t.open_batches)
    → b ≡ earliest from (front_moments c t.queue)
    → d ≡ earliest from (retry_moments c (lowest_waiting t))
    → sooner (sooner a b) d ≡ earliest from (partition_moments c t)
earliest-parts from c t a b d e f g =
    ap (λ (z : Option ℕ). sooner (sooner z b) d) e
    ∙ ap (λ (z : Option ℕ). sooner (sooner (earliest from (deadlines c t.open_batches)) z) d) f
    ∙ ap (λ (z : Option ℕ). sooner z d) (sym (earliest-append from (deadlines c t.open_batches) (front_moments c t.queue)))
    ∙ ap (sooner (earliest from (deadlines c t.open_batches ++ front_moments c t.queue))) g
    ∙ sym (earliest-append from (deadlines c t.open_batches ++ front_moments c t.queue) (retry_moments c (lowest_waiting t)))
    ∙ ap (earliest from) (sym (partition_moments-is c t))
