-- Lists: what holds of all elements, and which elements there are.
use Rattle.std.proofs.Common.{◌≡◌, ◌⊎◌, ℕ, suc, zero, Bool, true, List, [], ◌∷◌, ◌++◌, length, map, get_or, replicate, Some, refl, sym, ap, ◌∙◌, subst, inl, inr, ⊎_elim, arith}
use Rattle.std.specs.Prelude.{find, filter, slice_get, slice_index_or}
use Rattle.std.specs.List.{AllByRecursion}
use Rattle.std.proofs.lemmas.List.{map-append}
use Rattle.kp_rules.proofs.ListLemmas.{found, filtered}
use Rattle.kp_log.proofs.PlaceLemmas.{In-from_contains, contains_from_In, In, In-nil, In-cons, In-head, In-tail, In-append_cases}

pub In-map : {A B : Type 0} (f : A → B) (x : A) (xs : List A) → In x xs → In (f x) (map f xs)
In-map f x xs h = record {
  earlier = map f h.earlier;
  later = map f h.later;
  split = ap (map f)
      h.split ∙ map-append f h.earlier (x ∷ h.later);
}

pub all_in : {A : Type 0} (P : A → Type 0) (xs : List A) → ((x : A) → In x xs → P x) → AllByRecursion P xs
all_in P [] f = tt
all_in P (x ∷ xs) f = (f x (In-head x xs), all_in P xs (λ y i. f y (In-tail y x xs i)))

pub all_at : {A : Type 0} (P : A → Type 0) (xs : List A) (x : A) → AllByRecursion P xs → In x xs → P x
all_at P [] x a i = absurd (In-nil x i)
all_at P (y ∷ xs) x a i = ⊎_elim (λ (same : x ≡ y). subst P (sym same) a.0) (λ (j : In x xs). all_at P xs x a.1 j) (In-cons x y xs i)

pub all_alike : {A : Type 0} (n i : ℕ) (d : A) → get_or (replicate n d) i d ≡ d
all_alike zero i d = refl
all_alike (suc n) zero d = refl
all_alike (suc n) (suc i) d = all_alike n i d

-- also past the last place, where nothing is
pub all_place : {A : Type 0} (P : A → Type 0) (xs : List A) (d : A) → P d → (p : ℕ) → AllByRecursion P xs → P (slice_index_or xs p d)
all_place P [] d h p a = h
all_place P (x ∷ xs) d h zero a = a.0
all_place P (x ∷ xs) d h (suc p) a = all_place P xs d h p a.1

pub one_more : {A : Type 0} (xs : List A) (x y : A) → In y (xs ++ x ∷ []) → In y xs ⊎ (y ≡ x)
one_more xs x y i = ⊎_elim (λ (j : In y xs). inl j) (λ (j : In y (x ∷ [])). ⊎_elim (λ (same : y ≡ x). inr same) (λ (none : In y []). absurd (In-nil y none)) (In-cons y x [] j)) (In-append_cases y xs (x ∷ []) i)

pub in_at : {A : Type 0} (xs : List A) (j : ℕ) (x : A) → slice_get xs j ≡ Some x → In x xs
in_at [] j x e = absurd cc
in_at (y ∷ xs) zero x e = let same : y ≡ x = cc in subst (λ z. In z (y ∷ xs)) same (In-head y xs)
in_at (y ∷ xs) (suc j) x e = In-tail x y xs (in_at xs j x e)

-- the element behind so many
pub got_at : {A : Type 0} (xs ys : List A) (x : A) (k : ℕ) → k ≡ length xs → slice_get (xs ++ x ∷ ys) k ≡ Some x
got_at [] ys x k e = ap (slice_get (x ∷ ys)) e
got_at (y ∷ xs) ys x zero e = absurd (omega (arith, e))
got_at (y ∷ xs) ys x (suc k) e = got_at xs ys x k (omega (arith, e))

pub found_in : {A : Type 0} (test : A → Bool) (xs : List A) (x : A) → find test xs ≡ Some x → In x xs × (test x ≡ true)
found_in test xs x e = let f = found test xs x e in (In-from_contains xs x f.0, f.1)

pub left_in : {A : Type 0} (test : A → Bool) (xs : List A) (x : A) → In x (filter test xs) → In x xs × (test x ≡ true)
left_in test xs x i =
    let f = filtered test xs x (contains_from_In (filter test xs) x i) in (In-from_contains xs x f.0, f.1)
