-- Items of one sender and partition, by their numbers: what is without some of them, and what
-- becomes of those that were taken.
use Rattle.std.proofs.Common.{◌≡◌, ℕ, suc, ◌+◌, ◌<◌, ◌≤◌, Bool, true, false, not, cond, List, [], ◌∷◌, ◌++◌, length, refl, sym, ap, ◌∙◌, subst, arith, append_assoc, length-append}
use Rattle.std.specs.Prelude.{◌==◌, ◌&&◌, ◌||◌}
use Rattle.std.specs.List.{AllByRecursion, filter, list_any}
use Rattle.std.proofs.lemmas.Bool.{eq-eqb, ne_eqb, not-true, or_from, or_left, or_right, or_parts}
use Rattle.std.proofs.lemmas.List.{append-nil}
use Rattle.std.proofs.lemmas.List.Elements.{filter-append}
use Rattle.std.proofs.lemmas.List.Folds.{list_any-append}
use Rattle.kp_accum.specs.declared.item.Item.{Item}
use Rattle.kp_rules.proofs.ListLemmas.{all_back, all_filter, all_front, all_say, all_weaker}
use Rattle.kp_world.proofs.ListLemmas.{all_in}
use Rattle.kp_world.proofs.ListLemmas.{left_in}
use Rattle.kp_wire.proofs.ListLemmas.{all_append}

-- ---- lists

pub filter_twice : {A : Type 0} (p q : A → Bool) (xs : List A) → filter (λ k. p k && q k) xs ≡ filter q (filter p xs)
filter_twice p q [] = refl
filter_twice p q (x ∷ xs) = at_test (filter_twice p q xs) (p x)
  where
    at_test : filter (λ k. p k && q k) xs ≡ filter q (filter p xs) → (a : Bool)
        → cond (a && q x) (x ∷ filter (λ k. p k && q k) xs) (filter (λ k. p k && q k) xs) ≡ filter q (cond a (x ∷ filter p xs) (filter p xs))
    at_test h false = h
    at_test h true = ap (λ z. cond (q x) (x ∷ z) z) h

pub filter_agrees : {A : Type 0} (p q : A → Bool) (xs : List A) → AllByRecursion (λ x. p x ≡ q x) xs → filter p xs ≡ filter q xs
filter_agrees p q [] h = refl
filter_agrees p q (x ∷ xs) h = ap (λ z. cond z (x ∷ filter p xs) (filter p xs)) h.0 ∙ ap (λ z. cond (q x) (x ∷ z) z) (filter_agrees p q xs h.1)

pub filter_none : {A : Type 0} (p : A → Bool) (xs : List A) → AllByRecursion (λ x. p x ≡ false) xs → filter p xs ≡ []
filter_none p [] h = refl
filter_none p (x ∷ xs) h = ap (λ z. cond z (x ∷ filter p xs) (filter p xs)) h.0 ∙ filter_none p xs h.1

pub filter_all : {A : Type 0} (p : A → Bool) (xs : List A) → AllByRecursion (λ x. p x ≡ true) xs → filter p xs ≡ xs
filter_all p [] h = refl
filter_all p (x ∷ xs) h = ap (λ z. cond z (x ∷ filter p xs) (filter p xs)) h.0 ∙ ap (λ z. x ∷ z) (filter_all p xs h.1)

pub all_both : {A : Type 0} (P Q R : A → Type 0) → ((x : A) → P x → Q x → R x) → (xs : List A) → AllByRecursion P xs → AllByRecursion Q xs → AllByRecursion R xs
all_both P Q R f [] h k = tt
all_both P Q R f (x ∷ xs) h k = (f x h.0 k.0, all_both P Q R f xs h.1 k.1)

-- what passes a test
pub filter_passes : {A : Type 0} (p : A → Bool) (xs : List A) → AllByRecursion (λ x. p x ≡ true) (filter p xs)
filter_passes p xs = all_in (λ x. p x ≡ true) (filter p xs) (λ x i. (left_in p xs x i).1)

-- those that have this number, where all have one
pub filter_same : {A : Type 0} (f : A → ℕ) (n : ℕ) (xs : List A) → AllByRecursion (λ x. f x ≡ n) xs → filter (λ x. f x == n) xs ≡ xs
filter_same f n xs h = filter_all (λ x. f x == n) xs (all_weaker (λ x. f x ≡ n) (λ x. (f x == n) ≡ true) (λ x e. eq-eqb (f x) n e) xs h)

pub filter_other : {A : Type 0} (f : A → ℕ) (n m : ℕ) (xs : List A) → (n ≡ m → ⊥) → AllByRecursion (λ x. f x ≡ n) xs → filter (λ x. f x == m) xs ≡ []
filter_other f n m xs ne h = filter_none (λ x. f x == m) xs (all_weaker (λ x. f x ≡ n) (λ x. (f x == m) ≡ false) (λ x e. ne_eqb (f x) m (λ (same : f x ≡ m). ne (sym e ∙ same))) xs h)

pub any_none : {A : Type 0} (p : A → Bool) (xs : List A) → AllByRecursion (λ x. p x ≡ false) xs → list_any p xs ≡ false
any_none p [] h = refl
any_none p (x ∷ xs) h = or_from (p x) (list_any p xs) h.0 (any_none p xs h.1)

-- each of these is one of them
pub any_itself : {A : Type 0} (same : A → A → Bool) → ((x : A) → same x x ≡ true) → (xs : List A) → AllByRecursion (λ x. list_any (same x) xs ≡ true) xs
any_itself same itself [] = tt
any_itself same itself (x ∷ xs) = (
  or_left (same x x) (list_any (same x) xs) (itself x),
  all_weaker (λ y. list_any (same y) xs ≡ true) (λ y. list_any (same y) (x ∷ xs) ≡ true) (λ y e. or_right (same y x) (list_any (same y) xs) e) xs (any_itself same itself xs),
)

-- ---- numbers

abbrev pub has_number : List Item → ℕ → Bool
has_number items n = list_any (λ j. n == j.number) items

abbrev pub is_out : List Item → Item → Bool
is_out us i = not (has_number us i.number)

abbrev pub without : List Item → List Item → List Item
without us xs = filter (is_out us) xs

abbrev pub Below : ℕ → List Item → Type 0
Below n xs = AllByRecursion (λ i. i.number < n) xs

abbrev pub Above : ℕ → List Item → Type 0
Above n xs = AllByRecursion (λ i. n < i.number) xs

-- these numbers are not among those
abbrev pub Apart : List Item → List Item → Type 0
Apart xs ys = AllByRecursion (λ i. has_number ys i.number ≡ false) xs

abbrev pub Rising : List Item → Type 0
Rising [] = Unit {0}
Rising (x ∷ xs) = Above x.number xs × Rising xs

-- from this number on, none missing
abbrev pub AreNumbered : ℕ → List Item → Type 0
AreNumbered n [] = Unit {0}
AreNumbered n (x ∷ xs) = (x.number ≡ n) × AreNumbered (n + 1) xs

above_is_out : (k : ℕ) (xs : List Item) → Below k xs → has_number xs k ≡ false
above_is_out k xs h = any_none (λ j. k == j.number) xs (all_weaker (λ j. j.number < k) (λ j. (k == j.number) ≡ false) (λ j l. ne_eqb k j.number (λ e. omega (arith, e, l))) xs h)

below_is_out : (k : ℕ) (xs : List Item) → Above k xs → has_number xs k ≡ false
below_is_out k xs h = any_none (λ j. k == j.number) xs (all_weaker (λ j. k < j.number) (λ j. (k == j.number) ≡ false) (λ j l. ne_eqb k j.number (λ e. omega (arith, e, l))) xs h)

rising_back : (xs ys : List Item) → Rising (xs ++ ys) → Rising ys
rising_back [] ys h = h
rising_back (x ∷ xs) ys h = rising_back xs ys h.1

pub rising_apart : (xs ys : List Item) → Rising (xs ++ ys) → Apart xs ys
rising_apart [] ys h = tt
rising_apart (x ∷ xs) ys h = (below_is_out x.number ys (all_back (λ i. x.number < i.number) xs ys h.0), rising_apart xs ys h.1)

rising_apart_back : (xs ys : List Item) → Rising (xs ++ ys) → Apart ys xs
rising_apart_back [] ys h = all_say (λ i. false ≡ false) (λ i. refl) ys
rising_apart_back (x ∷ xs) ys h =
    all_both (λ i. has_number xs i.number ≡ false) (λ i. x.number < i.number) (λ i. has_number (x ∷ xs) i.number ≡ false)
    (λ i e l. or_from (i.number == x.number) (has_number xs i.number) (ne_eqb i.number x.number (λ same. omega (arith, same, l))) e) ys
    (rising_apart_back xs ys h.1) (all_back (λ i. x.number < i.number) xs ys h.0)

out_of_apart : (ys xs : List Item) → Apart xs ys → without ys xs ≡ xs
out_of_apart ys xs h = filter_all (is_out ys) xs (all_weaker (λ i. has_number ys i.number ≡ false) (λ i. is_out ys i ≡ true) (λ i e. ap not e) xs h)

pub in_itself : (xs : List Item) → AllByRecursion (λ i. has_number xs i.number ≡ true) xs
in_itself xs = any_itself (λ i j. i.number == j.number) (λ i. eq-eqb i.number i.number refl) xs

without_itself : (xs : List Item) → without xs xs ≡ []
without_itself xs = filter_none (is_out xs) xs (all_weaker (λ i. has_number xs i.number ≡ true) (λ i. is_out xs i ≡ false) (λ i e. ap not e) xs (in_itself xs))

apart_front : (xs ys zs : List Item) → Apart xs (ys ++ zs) → Apart xs ys
apart_front xs ys zs h = all_weaker (λ i. has_number (ys ++ zs) i.number ≡ false) (λ i. has_number ys i.number ≡ false)
    (λ i e. (or_parts (has_number ys i.number) (has_number zs i.number) (sym (list_any-append (λ j. i.number == j.number) ys zs) ∙ e)).0) xs h

-- rising items without those in their middle
without_middle : (xs ys zs : List Item) → Rising (xs ++ (ys ++ zs)) → without ys (xs ++ (ys ++ zs)) ≡ xs ++ zs
without_middle xs ys zs h =
    filter-append (is_out ys) xs (ys ++ zs)
    ∙ ap (λ r. r ++ without ys (ys ++ zs)) (out_of_apart ys xs (apart_front xs ys zs (rising_apart xs (ys ++ zs) h)))
    ∙ ap (λ r. xs ++ r) (filter-append (is_out ys) ys zs ∙ ap (λ r. r ++ without ys zs) (without_itself ys)
    ∙ out_of_apart ys zs (rising_apart_back ys zs (rising_back xs (ys ++ zs) h)))

without_both : (us vs xs : List Item) → without (us ++ vs) xs ≡ without vs (without us xs)
without_both us vs xs =
    filter_agrees (is_out (us ++ vs)) (λ i. is_out us i && is_out vs i) xs (all_say (λ i. is_out (us ++ vs) i ≡ (is_out us i && is_out vs i)) both xs)
    ∙ filter_twice (is_out us) (is_out vs) xs
  where
    either : (a b : Bool) → not (a || b) ≡ (not a && not b)
    either true b = refl
    either false b = refl

    both : (i : Item) → is_out (us ++ vs) i ≡ (is_out us i && is_out vs i)
    both i = ap not (list_any-append (λ j. i.number == j.number) us vs) ∙ either (has_number us i.number) (has_number vs i.number)

-- ---- numbered items

pub numbered_above : (k n : ℕ) (xs : List Item) → k < n → AreNumbered n xs → Above k xs
numbered_above k n [] l h = tt
numbered_above k n (x ∷ xs) l h = (omega (arith, l, h.0), numbered_above k (n + 1) xs (omega (arith, l)) h.1)

pub numbered_rise : (n : ℕ) (xs : List Item) → AreNumbered n xs → Rising xs
numbered_rise n [] h = tt
numbered_rise n (x ∷ xs) h = (numbered_above x.number (n + 1) xs (omega (arith, h.0)) h.1, numbered_rise (n + 1) xs h.1)

numbered_below : (n m : ℕ) (xs : List Item) → n + length xs ≤ m → AreNumbered n xs → Below m xs
numbered_below n m [] l h = tt
numbered_below n m (x ∷ xs) l h = (omega (arith, l, h.0), numbered_below (n + 1) m xs (omega (arith, l)) h.1)

pub numbered_more : (n : ℕ) (xs : List Item) (i : Item) → AreNumbered n xs → i.number ≡ n + length xs → AreNumbered n (xs ++ i ∷ [])
numbered_more n [] i h e = (omega (arith, e), tt)
numbered_more n (x ∷ xs) i h e = (h.0, numbered_more (n + 1) xs i h.1 (omega (arith, e)))

pub numbered_front : (n : ℕ) (xs ys : List Item) → AreNumbered n (xs ++ ys) → AreNumbered n xs
numbered_front n [] ys h = tt
numbered_front n (x ∷ xs) ys h = (h.0, numbered_front (n + 1) xs ys h.1)

pub numbered_back : (n : ℕ) (xs ys : List Item) → AreNumbered n (xs ++ ys) → AreNumbered (n + length xs) ys
numbered_back n [] ys h = let same : n ≡ n + 0 = omega arith in subst (λ (m : ℕ). AreNumbered m ys) same h
numbered_back n (x ∷ xs) ys h = let same : n + 1 + length xs ≡ n + suc (length xs) = omega arith in subst (λ (m : ℕ). AreNumbered m ys) same (numbered_back (n + 1) xs ys h.1)

rising_filter : (test : Item → Bool) (xs : List Item) → Rising xs → Rising (filter test xs)
rising_filter test [] h = tt
rising_filter test (x ∷ xs) h = at_test (test x) (rising_filter test xs h.1)
  where
    at_test : (b : Bool) → Rising (filter test xs) → Rising (cond b (x ∷ filter test xs) (filter test xs))
    at_test true rest = (all_filter (λ i. x.number < i.number) test xs h.0, rest)
    at_test false rest = rest

-- ---- what became of the items that were taken: queued, handed over, told Unsent

pub record Fates (taken queued handed unsent : List Item) : Type 0 where
  pub kept : without unsent taken ≡ handed ++ queued
  pub known : Below (length taken) unsent
  pub numbered : AreNumbered 0 taken

pub fates_rise : (t q h u : List Item) → Fates t q h u → Rising (h ++ q)
fates_rise t q h u f = subst Rising f.kept (rising_filter (is_out u) t (numbered_rise 0 t f.numbered))

fates_below : (t q h u : List Item) → Fates t q h u → Below (length t) (h ++ q)
fates_below t q h u f = subst (Below (length t)) f.kept (all_filter (λ i. i.number < length t) (is_out u) t (numbered_below 0 (length t) t (omega arith) f.numbered))

wider : (m n : ℕ) (xs : List Item) → m ≤ n → Below m xs → Below n xs
wider m n xs l h = all_weaker (λ i. i.number < m) (λ i. i.number < n) (λ i e. omega (arith, e, l)) xs h

-- one more was taken
kept_more : (t q h u : List Item) (i : Item) → Fates t q h u → i.number ≡ length t → without u (t ++ i ∷ []) ≡ (h ++ q) ++ i ∷ []
kept_more t q h u i f e =
    filter-append (is_out u) t (i ∷ [])
    ∙ ap (λ z. z ++ without u (i ∷ [])) f.kept
    ∙ ap (λ z. (h ++ q) ++ cond (not z) (i ∷ []) []) (above_is_out i.number u (subst (λ (n : ℕ). Below n u) (sym e) f.known))

pub fates_queued : (t q h u : List Item) (i : Item) → Fates t q h u → i.number ≡ length t → Fates (t ++ i ∷ []) (q ++ i ∷ []) h u
fates_queued t q h u i f e = record {
  kept = kept_more t q h u i f e ∙ append_assoc h q (i ∷ []);
  known = wider (length t) (length (t ++ i ∷ [])) u (omega (arith, length-append t (i ∷ []))) f.known;
  numbered = numbered_more 0 t i f.numbered (omega (arith, e));
}

-- a part of the queue, or what is taken, is told Unsent
given_up : (t u xs ys zs : List Item) → without u t ≡ xs ++ (ys ++ zs) → Rising (xs ++ (ys ++ zs)) → without (u ++ ys) t ≡ xs ++ zs
given_up t u xs ys zs e r = without_both u ys t ∙ ap (without ys) e ∙ without_middle xs ys zs r

pub fates_turned_away : (t q h u : List Item) (i : Item) → Fates t q h u → i.number ≡ length t → Fates (t ++ i ∷ []) q h (u ++ i ∷ [])
fates_turned_away t q h u i f e =
    let more = fates_queued t q h u i f e in
    let one : without u (t ++ i ∷ []) ≡ (h ++ q) ++ (i ∷ [] ++ []) = kept_more t q h u i f e in
    let rise : Rising ((h ++ q) ++ (i ∷ [] ++ [])) = subst Rising one (rising_filter (is_out u) (t ++ i ∷ []) (numbered_rise 0 (t ++ i ∷ []) more.numbered)) in
    record {
      kept = given_up (t ++ i ∷ []) u (h ++ q) (i ∷ []) [] one rise ∙ append-nil (h ++ q);
      known = all_append (λ j. j.number < length (t ++ i ∷ [])) u (i ∷ []) more.known (omega (arith, e, length-append t (i ∷ [])), tt);
      numbered = more.numbered;
    }

pub fates_handed_over : (t front back h u : List Item) → Fates t (front ++ back) h u → Fates t back (h ++ front) u
fates_handed_over t front back h u f = record { kept = f.kept ∙ sym (append_assoc h front back); known = f.known; numbered = f.numbered }

pub fates_given_up : (t front back h u : List Item) → Fates t (front ++ back) h u → Fates t back h (u ++ front)
fates_given_up t front back h u f =
    let below = all_back (λ i. i.number < length t) h (front ++ back) (fates_below t (front ++ back) h u f) in
    record {
      kept = given_up t u h front back f.kept (fates_rise t (front ++ back) h u f);
      known = all_append (λ i. i.number < length t) u front f.known (all_front (λ i. i.number < length t) front back below);
      numbered = f.numbered;
    }

-- what was handed over is what was taken, without what was told Unsent and without what is queued
pub fates_handed : (t q h u : List Item) → Fates t q h u → h ≡ without q (without u t)
fates_handed t q h u f =
    let whole : Rising (h ++ (q ++ [])) = subst Rising (ap (λ z. h ++ z) (sym (append-nil q))) (fates_rise t q h u f) in
    sym (ap (without q) (f.kept ∙ ap (λ z. h ++ z) (sym (append-nil q))) ∙ without_middle h q [] whole ∙ append-nil h)

-- nothing that was told Unsent was handed over
pub fates_apart : (t q h u : List Item) → Fates t q h u → Apart h u
fates_apart t q h u f =
    let passed : AllByRecursion (λ i. is_out u i ≡ true) (without u t) = filter_passes (is_out u) t in
    all_weaker (λ i. is_out u i ≡ true) (λ i. has_number u i.number ≡ false) (λ i e. not-true (has_number u i.number) e) h (all_front (λ i. is_out u i ≡ true) h q (subst (AllByRecursion (λ i. is_out u i ≡ true)) f.kept passed))
