-- Where an element stands in a list, and in what a filter leaves of it.
use Rattle.std.proofs.Common.{◌≡◌, ◌⊎◌, suc, ◌+◌, Bool, true, false, cond, List, [], ◌∷◌, ◌++◌, length, take, drop, get_or, refl, sym, ap, ◌∙◌, subst, inl, inr, ⊎_elim, arith, length-append, append_assoc, Contains}
use Rattle.std.specs.List.{filter}
use Rattle.std.proofs.lemmas.List.{take-append-drop, drop_more, get_or_at}
use Rattle.std.proofs.lemmas.List.Elements.{filter-append}

-- ---- places in a list

pub record In {A : Type 0} (x : A) (xs : List A) : Type 0 where
  pub earlier : List A
  pub later : List A
  pub split : xs ≡ earlier ++ x ∷ later

pub In-from_contains : {A : Type 0} (xs : List A) (x : A) → Contains xs x → In x xs
In-from_contains xs x h = record {
  earlier = take h.0 xs;
  later = drop (h.0 + 1) xs;
  split = sym (take-append-drop h.0 xs) ∙ ap (λ z. take h.0 xs ++ z) (drop_more xs h.0 x h.1 ∙ ap (λ y. y ∷ drop (h.0 + 1) xs) h.2);
}

pub contains_from_In : {A : Type 0} (xs : List A) (x : A) → In x xs → Contains xs x
contains_from_In xs x h =
    let long : length xs ≡ length h.earlier + suc (length h.later) = ap length h.split ∙ length-append h.earlier (x ∷ h.later) in
    (length h.earlier, omega (arith, long), ap (λ z. get_or z (length h.earlier) x) h.split ∙ get_or_at h.earlier x h.later x (length h.earlier) refl)

pub In-nil : {A : Type 0} (x : A) → In x [] → ⊥
In-nil {A = A} x h = none h.earlier h.split
  where
    none : (xs : List A) → [] ≡ xs ++ x ∷ h.later → ⊥
    none [] e = absurd cc
    none (y ∷ xs) e = absurd cc

pub In-cons : {A : Type 0} (x y : A) (ys : List A) → In x (y ∷ ys) → (x ≡ y) ⊎ In x ys
In-cons {A = A} x y ys h = at_front h.earlier h.split
  where
    at_front : (front : List A) → y ∷ ys ≡ front ++ x ∷ h.later → (x ≡ y) ⊎ In x ys
    at_front [] e = inl cc
    at_front (z ∷ front) e = let rest : ys ≡ front ++ x ∷ h.later = cc in inr (record { earlier = front; later = h.later; split = rest })

pub In-head : {A : Type 0} (x : A) (xs : List A) → In x (x ∷ xs)
In-head x xs = record { earlier = []; later = xs; split = refl }

pub In-append_left : {A : Type 0} (x : A) (xs ys : List A) → In x xs → In x (xs ++ ys)
In-append_left x xs ys h = record { earlier = h.earlier; later = h.later ++ ys; split = ap (λ z. z ++ ys) h.split ∙ append_assoc h.earlier (x ∷ h.later) ys }

pub In-append_right : {A : Type 0} (x : A) (xs ys : List A) → In x ys → In x (xs ++ ys)
In-append_right x xs ys h = record { earlier = xs ++ h.earlier; later = h.later; split = ap (λ z. xs ++ z) h.split ∙ sym (append_assoc xs h.earlier (x ∷ h.later)) }

pub In-tail : {A : Type 0} (x y : A) (ys : List A) → In x ys → In x (y ∷ ys)
In-tail x y ys h = In-append_right x (y ∷ []) ys h

pub In-append_cases : {A : Type 0} (x : A) (xs ys : List A) → In x (xs ++ ys) → In x xs ⊎ In x ys
In-append_cases x [] ys h = inr h
In-append_cases x (z ∷ xs) ys h =
    ⊎_elim
    (λ (same : x ≡ z). inl (subst (λ y. In x (y ∷ xs)) same (In-head x xs)))
    (λ (rest : In x (xs ++ ys)). ⊎_elim (λ (a : In x xs). inl (In-tail x z xs a)) (λ (b : In x ys). inr b) (In-append_cases x xs ys rest))
    (In-cons x z (xs ++ ys) h)

-- ---- what a filter leaves, and where it stood

pub In-filter : {A : Type 0} (p : A → Bool) (x : A) (xs : List A) → p x ≡ true → In x xs → In x (filter p xs)
In-filter p x xs passes h = record {
  earlier = filter p h.earlier;
  later = filter p h.later;
  split = ap (filter p) h.split ∙ filter-append p h.earlier (x ∷ h.later) ∙ ap (λ t. filter p h.earlier ++ cond t (x ∷ filter p h.later) (filter p h.later)) passes;
}

-- an element of the filtered list, in the list itself, with what the filter leaves behind it
pub record Before {A : Type 0} (p : A → Bool) (x : A) (xs later_left : List A) : Type 0 where
  pub earlier : List A
  pub later : List A
  pub split : xs ≡ earlier ++ x ∷ later
  pub left : filter p later ≡ later_left

pub before_filter : {A : Type 0} (p : A → Bool) (x : A) (xs front back : List A) → filter p xs ≡ front ++ x ∷ back → Before p x xs back
before_filter p x [] front back e = absurd (In-nil x (record { earlier = front; later = back; split = e }))
before_filter {A = A} p x (y ∷ xs) front back e = at_test (λ f is. before_filter p x xs f back is) (p y) front e
  where
    further : Before p x xs back → Before p x (y ∷ xs) back
    further h = record { earlier = y ∷ h.earlier; later = h.later; split = ap (λ z. y ∷ z) h.split; left = h.left }

    at_test : ((f : List A) → filter p xs ≡ f ++ x ∷ back → Before p x xs back)
        → (t : Bool) (f : List A) → cond t (y ∷ filter p xs) (filter p xs) ≡ f ++ x ∷ back → Before p x (y ∷ xs) back
    at_test deeper false f is = further (deeper f is)
    at_test deeper true [] is =
        let same : y ≡ x = cc in
        let rest : filter p xs ≡ back = cc in
        record { earlier = []; later = xs; split = ap (λ z. z ∷ xs) same; left = rest }
    at_test deeper true (z ∷ f) is = let rest : filter p xs ≡ f ++ x ∷ back = cc in further (deeper f rest)

-- a list cut in two ways: the element stands in the first part or in the second
pub cut_cases : {A : Type 0} (xs : List A) (x : A) (ys zs rest : List A) → xs ++ x ∷ ys ≡ zs ++ rest
    → ((more : List A) × (zs ≡ xs ++ x ∷ more)) ⊎ ((more : List A) × (rest ≡ more ++ x ∷ ys) × (xs ≡ zs ++ more))
cut_cases xs x ys [] rest e = inr (xs, sym e, refl)
cut_cases [] x ys (z ∷ zs) rest e = let same : x ≡ z = cc in inl (zs, ap (λ y. y ∷ zs) (sym same))
cut_cases (y ∷ xs) x ys (z ∷ zs) rest e =
    let same : y ≡ z = cc in
    let next : xs ++ x ∷ ys ≡ zs ++ rest = cc in
    ⊎_elim
    (λ (h : (more : _) × (zs ≡ xs ++ x ∷ more)). inl (h.0, cc))
    (λ (h : (more : _) × (rest ≡ more ++ x ∷ ys) × (xs ≡ zs ++ more)). inr (h.0, h.1, cc))
    (cut_cases xs x ys zs rest next)
