-- Lists weighed: the sum of what each element weighs.
use Rattle.std.proofs.Common.{◌≡◌, ℕ, zero, suc, ◌+◌, ◌<◌, ◌≤◌, Bool, true, false, List, [], ◌∷◌, ◌++◌, refl, sym, ap, ◌∙◌, subst, arith}
use Rattle.std.specs.Prelude.{flat_map, if◌then◌else◌, ◌==◌}
use Rattle.std.specs.List.{AllByRecursion, fold, range_with_len, sum_by}
use Rattle.std.proofs.lemmas.Bool.{eqb-true, eqb-false, ne_eqb}

abbrev pub weigh : {A : Type 0} → (A → ℕ) → List A → ℕ
weigh f [] = 0
weigh f (x ∷ xs) = f x + weigh f xs

pub weigh-append : {A : Type 0} (f : A → ℕ) (xs ys : List A) → weigh f (xs ++ ys) ≡ weigh f xs + weigh f ys
weigh-append f [] ys = omega arith
weigh-append f (x ∷ xs) ys = let rest : weigh f (xs ++ ys) ≡ weigh f xs + weigh f ys = weigh-append f xs ys in omega (arith, rest)

pub weigh_none : {A : Type 0} (f : A → ℕ) (xs : List A) → AllByRecursion (λ x. f x ≡ 0) xs → weigh f xs ≡ 0
weigh_none f [] h = refl
weigh_none f (x ∷ xs) h = let here : f x ≡ 0 = h.0 in let rest : weigh f xs ≡ 0 = weigh_none f xs h.1 in omega (arith, here, rest)

-- of none of these the test is true
pub none_counted : {A : Type 0} (test : A → Bool) (xs : List A) → weigh (λ x. if test x then 1 else 0) xs ≡ 0 → AllByRecursion (λ x. test x ≡ false) xs
none_counted test [] e = tt
none_counted test (x ∷ xs) e = at_test (test x) e (none_counted test xs)
  where
    at_test : (b : Bool) → (if b then 1 else 0) + weigh (λ y. if test y then 1 else 0) xs ≡ 0 → (weigh (λ y. if test y then 1 else 0) xs ≡ 0 → AllByRecursion (λ y. test y ≡ false) xs)
        → (b ≡ false) × AllByRecursion (λ y. test y ≡ false) xs
    at_test true e' rest = absurd (omega (arith, e'))
    at_test false e' rest = (refl, rest (omega (arith, e')))

-- lists in a row
pub weigh_flat : {A B : Type 0} (f : B → ℕ) (F : A → List B) (xs : List A) → weigh f (flat_map F xs) ≡ weigh (λ x. weigh f (F x)) xs
weigh_flat f F [] = refl
weigh_flat f F (x ∷ xs) = weigh-append f (F x) (flat_map F xs) ∙ ap (λ (n : ℕ). weigh f (F x) + n) (weigh_flat f F xs)

pub weigh_agrees : {A : Type 0} (f g : A → ℕ) (xs : List A) → AllByRecursion (λ x. f x ≡ g x) xs → weigh f xs ≡ weigh g xs
weigh_agrees f g [] h = refl
weigh_agrees f g (x ∷ xs) h = let rest : weigh f xs ≡ weigh g xs = weigh_agrees f g xs h.1 in let here : f x ≡ g x = h.0 in omega (arith, rest, here)

folded : {A : Type 0} (f : A → ℕ) (n : ℕ) (xs : List A) → fold (λ (a : ℕ) x. a + f x) n xs ≡ n + weigh f xs
folded f n [] = omega arith
folded f n (x ∷ xs) =
    let rest : fold (λ (a : ℕ) y. a + f y) (n + f x) xs ≡ n + f x + weigh f xs = folded f (n + f x) xs in
    omega (arith, rest)

-- the sum of what is weighed
pub sum_is : {A : Type 0} (f : A → ℕ) (xs : List A) → sum_by f xs ≡ weigh f xs
sum_is f xs =
    let all : fold (λ (a : ℕ) y. a + f y) 0 xs ≡ 0 + weigh f xs = folded f 0 xs in
    omega (arith, all)

-- ---- places of which one weighs more

pub weigh_beyond : (F G : ℕ → ℕ) (s : ℕ) → ((n : ℕ) → (n == s) ≡ false → G n ≡ F n) → (a m : ℕ) → s < a → weigh G (range_with_len a m) ≡ weigh F (range_with_len a m)
weigh_beyond F G s other a zero l = refl
weigh_beyond F G s other a (suc m) l =
    let here : G a ≡ F a = other a (ne_eqb a s (λ (e : a ≡ s). omega (arith, e, l))) in
    let rest : weigh G (range_with_len (a + 1) m) ≡ weigh F (range_with_len (a + 1) m) = weigh_beyond F G s other (a + 1) m (omega (arith, l)) in
    omega (arith, here, rest)

pub weigh_at : (F G : ℕ → ℕ) (s v : ℕ) → G s ≡ F s + v → ((n : ℕ) → (n == s) ≡ false → G n ≡ F n) → (a m : ℕ) → a ≤ s → s < a + m
    → weigh G (range_with_len a m) ≡ weigh F (range_with_len a m) + v
weigh_at F G s v here other a zero low high = absurd (omega (arith, low, high))
weigh_at F G s v here other a (suc m) low high = at_test (a == s) refl (weigh_at F G s v here other (a + 1) m)
  where
    at_test : (b : Bool) → (a == s) ≡ b → (a + 1 ≤ s → s < a + 1 + m → weigh G (range_with_len (a + 1) m) ≡ weigh F (range_with_len (a + 1) m) + v)
        → G a + weigh G (range_with_len (a + 1) m) ≡ F a + weigh F (range_with_len (a + 1) m) + v
    at_test true is rest =
        let e : a ≡ s = eqb-true a s is in
        let at : G a ≡ F a + v = subst (λ (n : ℕ). G n ≡ F n + v) (sym e) here in
        let after : weigh G (range_with_len (a + 1) m) ≡ weigh F (range_with_len (a + 1) m) = weigh_beyond F G s other (a + 1) m (omega (arith, e)) in
        omega (arith, at, after)
    at_test false is rest =
        let at : G a ≡ F a = other a is in
        let after : weigh G (range_with_len (a + 1) m) ≡ weigh F (range_with_len (a + 1) m) + v = rest (above (eqb-false a s is)) (omega (arith, high)) in
        omega (arith, at, after)
      where
        above : (a ≡ s → ⊥) → a + 1 ≤ s
        above apart = omega (arith, apart, low)
