-- Lists: what holds of all elements, which elements there are, and what lists are put together of.
use Rattle.std.proofs.Common.{◌≡◌, ℕ, zero, suc, ◌+◌, ◌<◌, ◌≤◌, Bool, true, false, cond, List, [], ◌∷◌, ◌++◌, length, map, get_or, Some, None, refl, ap, ◌∙◌, subst, arith, Contains}
use Rattle.std.specs.Prelude.{Option, filter, filter_map, find, flat_map, take, slice_set, sum_by, unwrap_or, ◌==◌}
use Rattle.std.specs.List.{AllByRecursion, cons_option, last_or, list_any}
use Rattle.std.proofs.lemmas.Bool.{or_parts}
use Rattle.std.proofs.lemmas.List.Sums.{sum_by-append, sum_by-cons, sum_by-set}
use Rattle.std.proofs.lemmas.List.Elements.{All-contains, All-contains_itself, All-filter, All-take, filter_passes, All-from_get_or, All-from_recursion, Contains-get_or, recursion_from_All}
use Rattle.std.proofs.lemmas.List.Folds.{list_any_none}
use Rattle.kp_wire.proofs.ListLemmas.{all_append}
use Rattle.kp_rules.specs.Partitions.{is_in}

pub contains_head : {A : Type 0} (x : A) (xs : List A) → Contains (x ∷ xs) x
contains_head x xs = (0, omega arith, refl)

pub contains_tail : {A : Type 0} (x y : A) (xs : List A) → Contains xs x → Contains (y ∷ xs) x
contains_tail x y xs h = (suc h.0, omega (arith, h.1), h.2)

pub all_contained : {A : Type 0} (P : A → Type 0) (xs : List A) → ((x : A) → Contains xs x → P x) → AllByRecursion P xs
all_contained P xs f = recursion_from_All P xs (λ i d l. f (get_or xs i d) (Contains-get_or xs i d l))

pub all_flat_map : {A B : Type 0} (P : B → Type 0) (g : A → List B) (xs : List A)
    → ((x : A) → Contains xs x → AllByRecursion P (g x)) → AllByRecursion P (flat_map g xs)
all_flat_map P g [] f = tt
all_flat_map P g (x ∷ xs) f = all_append P (g x) (flat_map g xs) (f x (contains_head x xs))
    (all_flat_map P g xs (λ y h. f y (contains_tail y x xs h)))

-- what holds of all elements holds of one that the list contains
pub at_contained : {A : Type 0} (P : A → Type 0) (xs : List A) (x : A) → AllByRecursion P xs → Contains xs x → P x
at_contained P xs x all = All-contains P xs x (All-from_recursion P xs all)

pub all_by : {A : Type 0} (P : A → Type 0) (xs : List A) (d : A) → ((i : ℕ) → i < length xs → P (get_or xs i d)) → AllByRecursion P xs
all_by P xs d f = recursion_from_All P xs (All-from_get_or P xs d f)

-- ---- what a search finds, and what a filter leaves

pub found : {A : Type 0} (test : A → Bool) (xs : List A) (x : A) → find test xs ≡ Some x → Contains xs x × (test x ≡ true)
found test [] x e = absurd cc
found {A = A} test (y ∷ ys) x e = at_test (test y) refl e (λ (e' : find test ys ≡ Some x). found test ys x e')
  where
    at_test : (b : Bool) → test y ≡ b → cond b (Some y) (find test ys) ≡ Some x
        → (find test ys ≡ Some x → Contains ys x × (test x ≡ true)) → Contains (y ∷ ys) x
        × (test x ≡ true)
    at_test true is e' later = let same : y ≡ x = cc
        in (
          subst (λ (z : A). Contains (y ∷ ys) z) same (contains_head y ys),
          subst
              (λ (z : A). test z ≡ true) same is,
        )
    at_test false is e' later = let h = later e' in (contains_tail x y ys h.0, h.1)

pub filtered : {A : Type 0} (test : A → Bool) (xs : List A) (x : A) → Contains (filter test xs) x
    → Contains xs x × (test x ≡ true)
filtered test xs x h = (
  All-contains (Contains xs) (filter test xs) x (All-filter test (Contains xs) xs (All-contains_itself xs)) h,
  All-contains (λ y. test y ≡ true) (filter test xs) x (filter_passes test xs) h,
)

-- ---- what holds of all elements

pub all_front : {A : Type 0} (P : A → Type 0) (xs ys : List A) → AllByRecursion P (xs ++ ys) → AllByRecursion P xs
all_front P [] ys h = tt
all_front P (x ∷ xs) ys h = (h.0, all_front P xs ys h.1)

pub all_back : {A : Type 0} (P : A → Type 0) (xs ys : List A) → AllByRecursion P (xs ++ ys) → AllByRecursion P ys
all_back P [] ys h = h
all_back P (x ∷ xs) ys h = all_back P xs ys h.1

pub all_weaker : {A : Type 0} (P Q : A → Type 0) → ((x : A) → P x → Q x) → (xs : List A) → AllByRecursion P xs → AllByRecursion Q xs
all_weaker P Q f [] h = tt
all_weaker P Q f (x ∷ xs) h = (f x h.0, all_weaker P Q f xs h.1)

pub all_say : {A : Type 0} (P : A → Type 0) → ((x : A) → P x) → (xs : List A) → AllByRecursion P xs
all_say P f [] = tt
all_say P f (x ∷ xs) = (f x, all_say P f xs)

pub all_filter : {A : Type 0} (P : A → Type 0) (test : A → Bool) (xs : List A) → AllByRecursion P xs → AllByRecursion P (filter test xs)
all_filter P test xs h = recursion_from_All P (filter test xs) (All-filter test P xs (All-from_recursion P xs h))

pub all_map : {A B : Type 0} (P : A → Type 0) (Q : B → Type 0) (f : A → B) → ((x : A) → P x → Q (f x)) → (xs : List A) → AllByRecursion P xs → AllByRecursion Q (map f xs)
all_map P Q f k [] h = tt
all_map P Q f k (x ∷ xs) h = (k x h.0, all_map P Q f k xs h.1)

pub all_both : {A : Type 0} (P Q R : A → Type 0) → ((x : A) → P x → Q x → R x) → (xs : List A) → AllByRecursion P xs → AllByRecursion Q xs → AllByRecursion R xs
all_both P Q R f [] h k = tt
all_both P Q R f (x ∷ xs) h k = (f x h.0 k.0, all_both P Q R f xs h.1 k.1)

pub all_take : {A : Type 0} (P : A → Type 0) (n : ℕ) (xs : List A) → AllByRecursion P xs → AllByRecursion P (take n xs)
all_take P n xs h = recursion_from_All P (take n xs) (All-take P n xs (All-from_recursion P xs h))

pub all_filter_map : {A B : Type 0} (P : B → Type 0) (Q : A → Type 0) (h : A → Option B) → ((x : A) (y : B) → Q x → h x ≡ Some y → P y)
    → (xs : List A) → AllByRecursion Q xs → AllByRecursion P (filter_map h xs)
all_filter_map P Q h f [] k = tt
all_filter_map {B = B} P Q h f (x ∷ xs) k = at_option (h x) refl (all_filter_map P Q h f xs k.1)
  where
    at_option : (o : Option B) → h x ≡ o → AllByRecursion P (filter_map h xs) → AllByRecursion P (cons_option o (filter_map h xs))
    at_option None is rest = rest
    at_option (Some y) is rest = (f x y k.0 is, rest)

pub last_below : (m : ℕ) (o : Option ℕ) (ns : List ℕ) → unwrap_or o 0 < m → AllByRecursion (λ n. n < m) ns → unwrap_or (last_or o ns) 0 < m
last_below m o [] l h = l
last_below m o (n ∷ ns) l h = last_below m (Some n) ns h.0 h.1

-- ---- what holds of an element that was changed, and of the one that was there, holds of the one that is there

pub at_mapped {ℓ} : {A : Type 0} (P : A → Type ℓ) (f : A → A) (xs : List A) (j : ℕ) (d : A) → P (f (get_or xs j d)) → P (get_or xs j d) → P (get_or (map f xs) j d)
at_mapped P f [] j d new old = old
at_mapped P f (x ∷ xs) zero d new old = new
at_mapped P f (x ∷ xs) (suc j) d new old = at_mapped P f xs j d new old

pub at_put {ℓ} : {A : Type 0} (P : A → Type ℓ) (xs : List A) (i j : ℕ) (v d : A) → (j ≡ i → P v) → P (get_or xs j d) → P (get_or (slice_set xs i v) j d)
at_put P [] i j v d new old = old
at_put P (x ∷ xs) zero zero v d new old = new refl
at_put P (x ∷ xs) zero (suc j) v d new old = old
at_put P (x ∷ xs) (suc i) zero v d new old = old
at_put P (x ∷ xs) (suc i) (suc j) v d new old = at_put P xs i j v d (λ e. new (ap suc e)) old

pub at_set {ℓ} : {A : Type 0} (P : A → Type ℓ) (xs : List A) (i j : ℕ) (v d : A) → (j ≡ i → (i < length xs) × P v) → P (get_or xs j d) → P (get_or (slice_set xs i v) j d)
at_set P xs i j v d new old = at_put P xs i j v d (λ e. (new e).1) old

-- ---- the elements changed, and lists put together of the elements' lists

pub flat_map_mapped : {A B C : Type 0} (h : B → List C) (f : A → B) (g : A → List C) → ((x : A) → h (f x) ≡ g x) → (xs : List A) → flat_map h (map f xs) ≡ flat_map g xs
flat_map_mapped h f g same [] = refl
flat_map_mapped h f g same (x ∷ xs) = ap (λ ys. ys ++ flat_map h (map f xs)) (same x) ∙ ap (λ ys. g x ++ ys) (flat_map_mapped h f g same xs)

pub flat_map_alike : {A B : Type 0} (g : A → List B) (xs ys : List A) (d : A) → length xs ≡ length ys
    → ((i : ℕ) → g (get_or xs i d) ≡ g (get_or ys i d)) → flat_map g xs ≡ flat_map g ys
flat_map_alike g [] [] d e same = refl
flat_map_alike g [] (y ∷ ys) d e same = absurd (omega (arith, e))
flat_map_alike g (x ∷ xs) [] d e same = absurd (omega (arith, e))
flat_map_alike g (x ∷ xs) (y ∷ ys) d e same = rw (same 0, flat_map_alike g xs ys d (omega (arith, e)) (λ i. same (suc i))) refl

pub list_any_mapped : {A B : Type 0} (test : B → Bool) (f : A → B) (other : A → Bool) → ((x : A) → test (f x) ≡ other x) → (xs : List A)
    → list_any test (map f xs) ≡ list_any other xs
list_any_mapped test f other same [] = refl
list_any_mapped test f other same (x ∷ xs) = rw (same x, list_any_mapped test f other same xs) refl

pub sum_by-flat_map : {A B : Type 0} (f : B → ℕ) (g : A → List B) (xs : List A) → sum_by f (flat_map g xs) ≡ sum_by (λ x. sum_by f (g x)) xs
sum_by-flat_map f g [] = refl
sum_by-flat_map f g (x ∷ xs) = omega (arith, sum_by-append f (g x) (flat_map g xs), sum_by-cons (λ y. sum_by f (g y)) x xs, sum_by-flat_map f g xs)

pub sum_by-flat_map-set : {A B : Type 0} (f : B → ℕ) (g : A → List B) (xs : List A) (i : ℕ) (v d : A) → i < length xs
    → sum_by f (flat_map g (slice_set xs i v)) + sum_by f (g (get_or xs i d)) ≡ sum_by f (flat_map g xs) + sum_by f (g v)
sum_by-flat_map-set f g xs i v d l =
    omega (arith, sum_by-flat_map f g xs, sum_by-flat_map f g (slice_set xs i v), sum_by-set (λ x. sum_by f (g x)) xs i v d l)

pub length-filter_map : {A B : Type 0} (f : A → Option B) (xs : List A) → length (filter_map f xs) ≤ length xs
length-filter_map f [] = omega arith
length-filter_map {B = B} f (x ∷ xs) = at_option (f x) (length-filter_map f xs)
  where
    at_option : (o : Option B) → length (filter_map f xs) ≤ length xs → length (cons_option o (filter_map f xs)) ≤ suc (length xs)
    at_option None rest = omega arith
    at_option (Some y) rest = omega arith

-- ---- lists of numbers

abbrev pub IsOther : ℕ → ℕ → Type 0
IsOther n m = (m == n) ≡ false

pub others : (n : ℕ) (ms : List ℕ) → is_in n ms ≡ false → AllByRecursion (IsOther n) ms
others n [] e = tt
others n (m ∷ ms) e = let parts = or_parts (m == n) (is_in n ms) e in (parts.0, others n ms parts.1)

pub none_in : (n : ℕ) (ms : List ℕ) → AllByRecursion (IsOther n) ms → is_in n ms ≡ false
none_in n ms h = list_any_none (λ m. m == n) ms (All-from_recursion (IsOther n) ms h)
