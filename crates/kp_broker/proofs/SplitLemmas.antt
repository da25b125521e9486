-- A text cut at a byte that its parts lack.
use Rattle.std.proofs.Common.{◌≡◌, ℕ, Bool, true, false, ◌&&◌, not, eqb, List, [], ◌∷◌, ◌++◌, refl, ap, subst, ◌∙◌, arith}
use Rattle.std.specs.List.{slice_split, onto_first, join_with_byte, AllByRecursion}
use Rattle.std.specs.Int.{IsInRange}
use Rattle.std.specs.Str.Parse.{AllDigits}
use Rattle.std.proofs.lemmas.Str.Parse.{digit_from_value}
use Rattle.std.proofs.lemmas.List.Splits.{slice_split-cons_yes, slice_split-cons_no}
use Rattle.std.proofs.lemmas.Bool.Decides.{nat_tests}
use Rattle.std.proofs.lemmas.Bool.{and_parts, not-true}

abbrev pub is_byte : ℕ → ℕ → Bool
is_byte c b = eqb b c

-- whether a text has no such byte
abbrev pub lacks : ℕ → List ℕ → Bool
lacks c [] = true
lacks c (b ∷ bs) = not (is_byte c b) && lacks c bs

pub lacks-append : (c : ℕ) (xs ys : List ℕ) → lacks c xs ≡ true → lacks c ys ≡ true → lacks c (xs ++ ys) ≡ true
lacks-append c [] ys l k = k
lacks-append c (x ∷ xs) ys l k =
    let parts = and_parts (not (is_byte c x)) (lacks c xs) l in
    let others = lacks-append c xs ys parts.1 k in
    rw (parts.0, others) refl

pub lacks-other : (c b : ℕ) (bs : List ℕ) → lacks c (b ∷ bs) ≡ true → is_byte c b ≡ false
lacks-other c b bs l = not-true (is_byte c b) (and_parts (not (is_byte c b)) (lacks c bs) l).0

lacks-tail : (c b : ℕ) (bs : List ℕ) → lacks c (b ∷ bs) ≡ true → lacks c bs ≡ true
lacks-tail c b bs l = (and_parts (not (is_byte c b)) (lacks c bs) l).1

lacks-head : (c b : ℕ) (bs : List ℕ) → lacks c (b ∷ bs) ≡ true → c ≡ b → ⊥
lacks-head c b bs l same = let other = lacks-other c b bs l in grind (arith, nat_tests)

-- what stands before such a byte is a part
pub slice_split-first : (c : ℕ) (part rest : List ℕ) → lacks c part ≡ true → slice_split (is_byte c) (part ++ c ∷ rest) ≡ part ∷ slice_split (is_byte c) rest
slice_split-first c [] rest l = slice_split-cons_yes (is_byte c) c rest (grind (arith, nat_tests))
slice_split-first c (b ∷ bs) rest l =
    slice_split-cons_no (is_byte c) b (bs ++ c ∷ rest) (lacks-other c b bs l)
    ∙ ap (onto_first b) (slice_split-first c bs rest (lacks-tail c b bs l))

pub slice_split-last : (c : ℕ) (part : List ℕ) → lacks c part ≡ true → slice_split (is_byte c) part ≡ part ∷ []
slice_split-last c [] l = refl
slice_split-last c (b ∷ bs) l =
    slice_split-cons_no (is_byte c) b bs (lacks-other c b bs l)
    ∙ ap (onto_first b) (slice_split-last c bs (lacks-tail c b bs l))

-- parts that are joined by a byte are those between such bytes, if there are parts and they lack it
pub slice_split-join : (c : ℕ) (part : List ℕ) (parts : List (List ℕ)) → AllByRecursion (λ p. lacks c p ≡ true) (part ∷ parts) → slice_split (is_byte c) (join_with_byte c (part ∷ parts)) ≡ part ∷ parts
slice_split-join c part [] all = slice_split-last c part all.0
slice_split-join c part (next ∷ parts) all =
    slice_split-first c part (join_with_byte c (next ∷ parts)) all.0 ∙ ap (λ ps. part ∷ ps) (slice_split-join c next parts all.1)

-- there is one way to cut at the first of them
pub cut-injective : (c : ℕ) (xs ys xs' ys' : List ℕ) → lacks c xs ≡ true → lacks c xs' ≡ true → xs ++ c ∷ ys ≡ xs' ++ c ∷ ys' → (xs ≡ xs') × (ys ≡ ys')
cut-injective c [] ys [] ys' l l' is = (refl, cc)
cut-injective c [] ys (x ∷ xs') ys' l l' is = absurd (lacks-head c x xs' l' cc)
cut-injective c (x ∷ xs) ys [] ys' l l' is = absurd (lacks-head c x xs l cc)
cut-injective c (x ∷ xs) ys (x' ∷ xs') ys' l l' is =
    let heads : x ≡ x' = cc in
    let rest = cut-injective c xs ys xs' ys' (lacks-tail c x xs l) (lacks-tail c x' xs' l') cc in
    let fronts = rest.0 in
    (cc, rest.1)

-- digits are no other bytes
pub digits-lack : (c : ℕ) → (IsInRange 48 57 c → ⊥) → (ds : List ℕ) → AllDigits 10 ds → lacks c ds ≡ true
digits-lack c other [] all = refl
digits-lack c other (d ∷ ds) all =
    let digit = digit_from_value d all.0 in
    let others = digits-lack c other ds all.1 in
    let apart : d ≡ c → ⊥ = λ same. other (subst (IsInRange 48 57) same digit) in
    let differs : is_byte c d ≡ false = grind (arith, nat_tests) in
    rw (differs, others) refl
