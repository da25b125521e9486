-- Lists: what holds of all elements, the element at a place, and what lists are put together of.
use Rattle.std.proofs.Common.{◌≡◌, ℕ, zero, suc, ◌+◌, ◌<◌, ◌≤◌, List, [], ◌∷◌, ◌++◌, length, get_or, drop, sym, ap, ◌∙◌, arith}
use Rattle.std.specs.Prelude.{replicate}
use Rattle.std.specs.List.{AllByRecursion, flat_map}
use Rattle.std.proofs.lemmas.List.{length-append, drop_more}
use Rattle.std.proofs.lemmas.List.Concat.{flat_map-cons}

pub all_append : {A : Type 0} (P : A → Type 0) (xs ys : List A) → AllByRecursion P xs → AllByRecursion P ys → AllByRecursion P (xs ++ ys)
all_append P [] ys h k = k
all_append P (x ∷ xs) ys h k = (h.0, all_append P xs ys h.1 k)

pub all_drop : {A : Type 0} (P : A → Type 0) (n : ℕ) (xs : List A) → AllByRecursion P xs → AllByRecursion P (drop n xs)
all_drop P zero xs h = h
all_drop P (suc n) [] h = tt
all_drop P (suc n) (x ∷ xs) h = all_drop P n xs h.1

pub all_replicate : {A : Type 0} (P : A → Type 0) (n : ℕ) (x : A) → P x → AllByRecursion P (replicate n x)
all_replicate P zero x it = tt
all_replicate P (suc n) x it = (it, all_replicate P n x it)

-- the element at a place, and those behind it
pub drop_here : {A : Type 0} (xs : List A) (k : ℕ) (x : A) → k < length xs → x ≡ get_or xs k x → drop k xs ≡ x ∷ drop (k + 1) xs
drop_here {A = A} xs k x lt here = drop_more xs k x lt ∙ ap (λ (y : A). y ∷ drop (k + 1) xs) (sym here)

-- ---- lists put together of the elements' lists

pub length-flat_map-cons : {A B : Type 0} (f : A → List B) (x : A) (xs : List A) → length (flat_map f (x ∷ xs)) ≡ length (f x) + length (flat_map f xs)
length-flat_map-cons f x xs = ap length (flat_map-cons f x xs) ∙ length-append (f x) (flat_map f xs)

-- where none of them is empty, they are no fewer than what they are put together to
pub length-flat_map-some : {A B : Type 0} (f : A → List B) → ((x : A) → 0 < length (f x)) → (xs : List A) → length xs ≤ length (flat_map f xs)
length-flat_map-some f some [] = omega arith
length-flat_map-some f some (x ∷ xs) = omega (arith, some x, length-flat_map-some f some xs, length-flat_map-cons f x xs)
