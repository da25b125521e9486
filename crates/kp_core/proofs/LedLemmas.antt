-- Numbers by the leaders of their partitions, in the one order.
use Rattle.std.proofs.Common.{◌≡◌, ◌∙◌, ℕ, zero, suc, ◌<◌, ◌≤◌, Bool, true, false, not, List, [], ◌∷◌, length, get_or, take, drop, refl, sym, ap, arith}
use Rattle.std.specs.Prelude.{filter, nat_lt, nat_le, ◌==◌, if◌then◌else◌}
use Rattle.std.specs.List.{AllByRecursion, AllWithin, insert}
use Rattle.std.specs.List.Sorted.{IsPartitionedBy, IsPartitionPoint}
use Rattle.std.proofs.lemmas.Bool.Decides.{nat_tests}
use Rattle.kp_rules.proofs.ListLemmas.{all_filter}
use Rattle.kp_core.specs.ByLeader.{Led, NoneBefore, Rises, is_before, put}

-- ---- the order

pub behind_it : (x y : Led) → is_before y x ≡ true → is_before x y ≡ false
behind_it x y h = grind (arith, nat_tests)

pub not_before : (x y z : Led) → is_before z y ≡ false → is_before y x ≡ false → is_before z x ≡ false
not_before x y z h k = grind (arith, nat_tests)

pub before_all : (x y z : Led) → is_before z x ≡ true → is_before z y ≡ false → is_before y x ≡ true
before_all x y z h k = grind (arith, nat_tests)

pub other_way : (x y : Led) → (x.place ≡ y.place → ⊥) → is_before x y ≡ not (is_before y x)
other_way x y apart = cases (is_before y x) refl
  where
    cases : (b : Bool) → is_before y x ≡ b → is_before x y ≡ not b
    cases true is = behind_it x y is
    cases false is = grind (arith, nat_tests)

-- ---- a list in this order

pub put_first : (x : Led) (ys : List Led) → NoneBefore x ys → put x ys ≡ x ∷ ys
put_first x [] h = refl
put_first x (y ∷ ys) h = ap (λ (b : Bool). if b then y ∷ put x ys else x ∷ y ∷ ys) h.0

pub all_put : (P : Led → Type 0) (x : Led) (ys : List Led) → P x → AllByRecursion P ys → AllByRecursion P (put x ys)
all_put P x [] here rest = (here, tt)
all_put P x (y ∷ ys) here rest = cases (all_put P x ys here rest.1) (is_before y x)
  where
    cases : AllByRecursion P (put x ys) → (b : Bool) → AllByRecursion P (if b then y ∷ put x ys else x ∷ y ∷ ys)
    cases more true = (rest.0, more)
    cases more false = (here, rest)

none_before : (x y : Led) (ys : List Led) → is_before y x ≡ false → NoneBefore y ys → NoneBefore x ys
none_before x y [] is h = tt
none_before x y (z ∷ zs) is h = (not_before x y z h.0 is, none_before x y zs is h.1)

pub put_rises : (x : Led) (ys : List Led) → Rises ys → Rises (put x ys)
put_rises x [] h = (tt, tt)
put_rises x (y ∷ ys) h = cases (put_rises x ys h.1) (is_before y x) refl
  where
    cases : Rises (put x ys) → (b : Bool) → is_before y x ≡ b → Rises (if b then y ∷ put x ys else x ∷ y ∷ ys)
    cases more true is = (all_put (λ z. is_before z y ≡ false) x ys (behind_it x y is) h.0, more)
    cases more false is = ((is, none_before x y ys is h.0), h)

pub put_twice : (x y : Led) (zs : List Led) → (x.place ≡ y.place → ⊥) → put x (put y zs) ≡ put y (put x zs)
put_twice x y [] apart =
    ap (λ (b : Bool). if b then y ∷ x ∷ [] else x ∷ y ∷ []) (other_way y x (λ e. apart (sym e))) ∙ cases (is_before x y)
  where
    cases : (b : Bool) → (if not b then y ∷ x ∷ [] else x ∷ y ∷ []) ≡ (if b then x ∷ y ∷ [] else y ∷ x ∷ [])
    cases true = refl
    cases false = refl
put_twice x y (z ∷ zs) apart = cases (put_twice x y zs apart) (is_before z x) (is_before z y) refl refl
  where
    ends : (b : Bool) → (if not b then y ∷ x ∷ z ∷ zs else x ∷ y ∷ z ∷ zs) ≡ (if b then x ∷ y ∷ z ∷ zs else y ∷ x ∷ z ∷ zs)
    ends true = refl
    ends false = refl

    cases : put x (put y zs) ≡ put y (put x zs) → (a b : Bool) → is_before z x ≡ a → is_before z y ≡ b → put x (if b then z ∷ put y zs else y ∷ z ∷ zs) ≡ put y (if a then z ∷ put x zs else x ∷ z ∷ zs)
    cases more true true p q =
        ap (λ (a : Bool). if a then z ∷ put x (put y zs) else x ∷ z ∷ put y zs) p
        ∙ ap (λ (ws : List Led). z ∷ ws) more
        ∙ sym (ap (λ (b : Bool). if b then z ∷ put y (put x zs) else y ∷ z ∷ put x zs) q)
    cases more true false p q =
        ap (λ (b : Bool). if b then y ∷ put x (z ∷ zs) else x ∷ y ∷ z ∷ zs) (before_all x y z p q)
        ∙ ap (λ (a : Bool). y ∷ (if a then z ∷ put x zs else x ∷ z ∷ zs)) p
        ∙ sym (ap (λ (b : Bool). if b then z ∷ put y (put x zs) else y ∷ z ∷ put x zs) q)
    cases more false true p q =
        ap (λ (a : Bool). if a then z ∷ put x (put y zs) else x ∷ z ∷ put y zs) p
        ∙ sym (ap (λ (b : Bool). x ∷ (if b then z ∷ put y zs else y ∷ z ∷ zs)) q)
        ∙ sym (ap (λ (b : Bool). if b then x ∷ put y (z ∷ zs) else y ∷ x ∷ z ∷ zs) (before_all y x z q p))
    cases more false false p q =
        ap (λ (b : Bool). if b then y ∷ put x (z ∷ zs) else x ∷ y ∷ z ∷ zs) (other_way y x (λ e. apart (sym e)))
        ∙ ap (λ (a : Bool). if not (is_before x y) then y ∷ (if a then z ∷ put x zs else x ∷ z ∷ zs) else x ∷ y ∷ z ∷ zs) p
        ∙ ends (is_before x y)
        ∙ sym (ap (λ (b : Bool). if is_before x y then x ∷ (if b then z ∷ put y zs else y ∷ z ∷ zs) else y ∷ x ∷ z ∷ zs) q)

pub length-put : (x : Led) (ys : List Led) → length (put x ys) ≡ suc (length ys)
length-put x [] = refl
length-put x (y ∷ ys) = cases (length-put x ys) (is_before y x)
  where
    cases : length (put x ys) ≡ suc (length ys) → (b : Bool) → length (if b then y ∷ put x ys else x ∷ y ∷ ys) ≡ suc (length (y ∷ ys))
    cases more true = ap suc more
    cases more false = refl

-- ---- those that pass

pub put-filter : (q : Led → Bool) (x : Led) (ys : List Led) → Rises ys → filter q (put x ys) ≡ (if q x then put x (filter q ys) else filter q ys)
put-filter q x [] h = cases (q x)
  where
    cases : (b : Bool) → (if b then x ∷ [] else []) ≡ (if b then x ∷ [] else [])
    cases b = refl
put-filter q x (y ∷ ys) h = cases (put-filter q x ys h.1) (is_before y x) refl
  where
    passes : Bool → List Led → List Led
    passes b ws = if b then y ∷ ws else ws

    in_front : (b c : Bool) → is_before y x ≡ true → passes b (if c then put x (filter q ys) else filter q ys) ≡ (if c then put x (passes b (filter q ys)) else passes b (filter q ys))
    in_front true true is = sym (ap (λ (d : Bool). if d then y ∷ put x (filter q ys) else x ∷ y ∷ filter q ys) is)
    in_front true false is = refl
    in_front false true is = refl
    in_front false false is = refl

    behind : (c : Bool) → is_before y x ≡ false → (if c then x ∷ filter q (y ∷ ys) else filter q (y ∷ ys)) ≡ (if c then put x (filter q (y ∷ ys)) else filter q (y ∷ ys))
    behind true is = sym (put_first x (filter q (y ∷ ys)) (all_filter (λ z. is_before z x ≡ false) q (y ∷ ys) (is, none_before x y ys is h.0)))
    behind false is = refl

    cases : filter q (put x ys) ≡ (if q x then put x (filter q ys) else filter q ys) → (b : Bool) → is_before y x ≡ b → filter q (if b then y ∷ put x ys else x ∷ y ∷ ys) ≡ (if q x then put x (filter q (y ∷ ys)) else filter q (y ∷ ys))
    cases more true is = ap (passes (q y)) more ∙ in_front (q y) (q x) is
    cases more false is = behind (q x) is

-- ---- where they part

-- it holds of none behind one of which it does not
parts : (q : Led → Bool) → ((y z : Led) → is_before z y ≡ false → q z ≡ true → q y ≡ true) → (ys : List Led) → Rises ys → IsPartitionedBy q ys
parts q back [] h i j d le end passes = absurd (omega (arith, end))
parts q back (y ∷ ys) h zero zero d le end passes = passes
parts q back (y ∷ ys) h zero (suc j) d le end passes = back y (get_or ys j d) (at ys j (omega (arith, end)) h.0) passes
  where
    at : (zs : List Led) (k : ℕ) → k < length zs → NoneBefore y zs → is_before (get_or zs k d) y ≡ false
    at [] k l n = absurd (omega (arith, l))
    at (z ∷ zs) zero l n = n.0
    at (z ∷ zs) (suc k) l n = at zs k (omega (arith, l)) n.1
parts q back (y ∷ ys) h (suc i) zero d le end passes = absurd (omega (arith, le))
parts q back (y ∷ ys) h (suc i) (suc j) d le end passes = parts q back ys h.1 i j d (omega (arith, le)) (omega (arith, end)) passes

pub parts_at : (x : Led) (ys : List Led) → Rises ys → IsPartitionedBy (λ y. is_before y x) ys
parts_at x ys h = parts (λ y. is_before y x) (λ y z after passes. before_all x y z passes after) ys h

no_higher : (n : ℕ) (y z : Led) → is_before z y ≡ false → nat_lt z.leader n ≡ true → nat_lt y.leader n ≡ true
no_higher n y z after passes = grind (arith, nat_tests)

no_higher_yet : (n : ℕ) (y z : Led) → is_before z y ≡ false → nat_le z.leader n ≡ true → nat_le y.leader n ≡ true
no_higher_yet n y z after passes = grind (arith, nat_tests)

pub parts_below : (node : ℕ) (ys : List Led) → Rises ys → IsPartitionedBy (λ y. nat_lt y.leader node) ys
parts_below node ys h = parts (λ y. nat_lt y.leader node) (no_higher node) ys h

pub parts_upto : (node : ℕ) (ys : List Led) → Rises ys → IsPartitionedBy (λ y. nat_le y.leader node) ys
parts_upto node ys h = parts (λ y. nat_le y.leader node) (no_higher_yet node) ys h

pub drop_rises : (n : ℕ) (ys : List Led) → Rises ys → Rises (drop n ys)
drop_rises zero ys h = h
drop_rises (suc n) [] h = tt
drop_rises (suc n) (y ∷ ys) h = drop_rises n ys h.1

-- ---- at that place

abbrev pub PartAt : {X : Type 0} → (X → Bool) → List X → ℕ → Type 0
PartAt q ys i = IsPartitionPoint (λ y. q y ≡ true) (λ y. q y ≡ false) ys i

tail_parts : (q : Led → Bool) (y : Led) (ys : List Led) (i : ℕ) → PartAt q (y ∷ ys) (suc i) → PartAt q ys i
tail_parts q y ys i p = (λ k d low high. p.0 (suc k) d (omega arith) (omega (arith, high)), λ k d low high. p.1 (suc k) d (omega (arith, low)) (omega (arith, high)))

pub insert-put : (x : Led) (ys : List Led) (i : ℕ) → i ≤ length ys → PartAt (λ y. is_before y x) ys i → insert ys i x ≡ put x ys
insert-put x [] zero l p = refl
insert-put x [] (suc i) l p = absurd (omega (arith, l))
insert-put x (y ∷ ys) zero l p = sym (ap (λ (b : Bool). if b then y ∷ put x ys else x ∷ y ∷ ys) (p.1 zero y (omega arith) (omega arith)))
insert-put x (y ∷ ys) (suc i) l p =
    ap (λ (zs : List Led). y ∷ zs) (insert-put x ys i (omega (arith, l)) (tail_parts (λ z. is_before z x) y ys i p))
    ∙ sym (ap (λ (b : Bool). if b then y ∷ put x ys else x ∷ y ∷ ys) (p.0 zero y (omega arith) (omega arith)))

-- ---- those of a node

abbrev pub is_under : ℕ → Led → Bool
is_under node y = y.leader == node

low_not_under : (node : ℕ) (y : Led) → nat_lt y.leader node ≡ true → is_under node y ≡ false
low_not_under node y h = grind (arith, nat_tests)

high_not_under : (node : ℕ) (y : Led) → nat_le y.leader node ≡ false → is_under node y ≡ false
high_not_under node y h = grind (arith, nat_tests)

between : (node : ℕ) (y : Led) → nat_lt y.leader node ≡ false → nat_le y.leader node ≡ true → is_under node y ≡ true
between node y h k = grind (arith, nat_tests)

none_under : (node : ℕ) (ys : List Led) → AllWithin (λ y. nat_le y.leader node ≡ false) ys 0 (length ys) → filter (is_under node) ys ≡ []
none_under node [] h = refl
none_under node (y ∷ ys) h =
    ap (λ (b : Bool). if b then y ∷ filter (is_under node) ys else filter (is_under node) ys) (high_not_under node y (h zero y (omega arith) (omega arith)))
    ∙ none_under node ys (λ k d low high. h (suc k) d (omega arith) (omega (arith, high)))

first_under : (node : ℕ) (ys : List Led) (i : ℕ) → AllWithin (λ y. nat_lt y.leader node ≡ false) ys 0 (length ys) → i ≤ length ys → PartAt (λ y. nat_le y.leader node) ys i
    → take i ys ≡ filter (is_under node) ys
first_under node [] zero high l p = refl
first_under node [] (suc i) high l p = absurd (omega (arith, l))
first_under node (y ∷ ys) zero high l p = sym (none_under node (y ∷ ys) p.1)
first_under node (y ∷ ys) (suc i) high l p =
    ap (λ (zs : List Led). y ∷ zs)
    (first_under node ys i (λ k d low upper. high (suc k) d (omega arith) (omega (arith, upper))) (omega (arith, l)) (tail_parts (λ z. nat_le z.leader node) y ys i p))
    ∙ sym (ap (λ (b : Bool). if b then y ∷ filter (is_under node) ys else filter (is_under node) ys)
    (between node y (high zero y (omega arith) (omega arith)) (p.0 zero y (omega arith) (omega arith))))

pub all_under : (node : ℕ) (ys : List Led) (i j : ℕ) → i ≤ length ys → PartAt (λ y. nat_lt y.leader node) ys i → j ≤ length (drop i ys) → PartAt (λ y. nat_le y.leader node) (drop i ys) j
    → take j (drop i ys) ≡ filter (is_under node) ys
all_under node ys zero j l p m r = first_under node ys j p.1 m r
all_under node [] (suc i) j l p m r = absurd (omega (arith, l))
all_under node (y ∷ ys) (suc i) j l p m r =
    all_under node ys i j (omega (arith, l)) (tail_parts (λ z. nat_lt z.leader node) y ys i p) m r
    ∙ sym (ap (λ (b : Bool). if b then y ∷ filter (is_under node) ys else filter (is_under node) ys) (low_not_under node y (p.0 zero y (omega arith) (omega arith))))
