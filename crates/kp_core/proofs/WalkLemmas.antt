-- A walk over some numbers, one after the other.
use Rattle.std.proofs.Common.{◌≡◌, ◌∙◌, ℕ, zero, suc, ◌+◌, ◌-◌, ◌<◌, ◌≤◌, Bool, true, false, true≢false, Bor, List, [], ◌∷◌, ◌++◌, length, get_or, take, drop, Some, None, Ok, Err, IsOk, is_ok, insert, inl, inr, refl, sym, ap, arith}
use Rattle.std.specs.Prelude.{Option, MatchOption, Result, filter_map, find, if◌then◌else◌, nat_lt, ◌||◌}
use Rattle.std.specs.List.{AllByRecursion, cons_option, list_any, slice_get}
use Rattle.std.specs.Option.{option_copied}
use Rattle.std.specs.List.Sorted.{IsPartitionedBy, IsPartitionPoint}
use Rattle.std.proofs.lemmas.Bool.{cases_lt}
use Rattle.std.proofs.lemmas.Bool.Decides.{nat_tests}
use Rattle.std.proofs.lemmas.List.{drop_all, get_or-append-add, get_or_default, length-append, take-append-drop, take_all, take_more}
use Rattle.std.proofs.lemmas.List.Elements.{filter_map-append}
use Rattle.std.proofs.lemmas.Option.{get_or_from_slice_get, none-some, slice_get-get_or}
use Rattle.kp_wire.proofs.ListLemmas.{drop_here}

-- ---- one of them

pub all_here : (P : ℕ → Type 0) (ps : List ℕ) (i d : ℕ) → i < length ps → AllByRecursion P ps → P (get_or ps i d)
all_here P [] i d l h = absurd (omega (arith, l))
all_here P (p ∷ ps) zero d l h = h.0
all_here P (p ∷ ps) (suc i) d l h = all_here P ps i d (omega (arith, l)) h.1

here : (ps : List ℕ) (i : ℕ) → i < length ps → drop i ps ≡ get_or ps i 0 ∷ drop (i + 1) ps
here ps i l = drop_here ps i (get_or ps i 0) l (get_or_default ps i 0 (get_or ps i 0) l)

-- ---- whether one of them passes

pub any_here : (g : ℕ → Bool) (ps : List ℕ) (i : ℕ) → i < length ps → g (get_or ps i 0) ≡ true → list_any g (drop i ps) ≡ list_any g ps → list_any g ps ≡ true
any_here g ps i l passes so_far =
    sym so_far ∙ ap (list_any g) (here ps i l) ∙ ap (λ (b : Bool). b || list_any g (drop (i + 1) ps)) passes

pub any_none : (g : ℕ → Bool) (ps : List ℕ) (i : ℕ) → length ps ≤ i → list_any g (drop i ps) ≡ list_any g ps → list_any g ps ≡ false
any_none g ps i end so_far = sym so_far ∙ ap (list_any g) (drop_all i ps end)

-- ---- the first that passes

pub find_here : (g : ℕ → Bool) (ps : List ℕ) (i : ℕ) → i < length ps → g (get_or ps i 0) ≡ true → find g (drop i ps) ≡ find g ps → find g ps ≡ Some (get_or ps i 0)
find_here g ps i l passes so_far =
    sym so_far ∙ ap (find g) (here ps i l) ∙ ap (λ (b : Bool). if b then Some (get_or ps i 0) else find g (drop (i + 1) ps)) passes

pub find_none : (g : ℕ → Bool) (ps : List ℕ) (i : ℕ) → length ps ≤ i → find g (drop i ps) ≡ find g ps → find g ps ≡ None
find_none g ps i end so_far = sym so_far ∙ ap (find g) (drop_all i ps end)

-- ---- what they give

pub given_more : {A : Type 0} (h : ℕ → Option A) (ps : List ℕ) (k : ℕ) → k < length ps
    → filter_map h (take (k + 1) ps) ≡ filter_map h (take k ps) ++ cons_option (h (get_or ps k 0)) []
given_more {A} h ps k l =
    let p = get_or ps k 0 in
    ap (filter_map h) (take_more ps k p l ∙ ap (λ (q : ℕ). take k ps ++ q ∷ []) (sym (get_or_default ps k 0 p l)))
    ∙ filter_map-append h (take k ps) (p ∷ [])

pub given_some : {A : Type 0} (h : ℕ → Option A) (ps : List ℕ) (k : ℕ) (y : A) → k < length ps → h (get_or ps k 0) ≡ Some y → filter_map h ps ≡ [] → ⊥
given_some {A} h ps k y l some none =
    let front = filter_map h (take k ps) in
    let rest = filter_map h (drop (k + 1) ps) in
    let whole : filter_map h ps ≡ front ++ y ∷ rest =
    ap (filter_map h) (sym (take-append-drop k ps))
    ∙ filter_map-append h (take k ps) (drop k ps)
    ∙ ap (λ (qs : List ℕ). front ++ filter_map h qs) (here ps k l)
    ∙ ap (λ (o : Option A). front ++ cons_option o rest) some in
    let length-is : length (front ++ y ∷ rest) ≡ 0 = ap length (sym whole ∙ none) in
    omega (arith, length-is, length-append front (y ∷ rest))

-- ---- those below a number stand before the others

in_first : (xs ys : List ℕ) (k d : ℕ) → k < length xs → get_or (xs ++ ys) k d ≡ get_or xs k d
in_first [] ys k d l = absurd (omega (arith, l))
in_first (x ∷ xs) ys zero d l = refl
in_first (x ∷ xs) ys (suc k) d l = in_first xs ys k d (omega (arith, l))

in_second : (xs ys : List ℕ) (k d : ℕ) → length xs ≤ k → get_or (xs ++ ys) k d ≡ get_or ys (k - length xs) d
in_second xs ys k d l =
    let same : k ≡ length xs + (k - length xs) = omega (arith, l) in
    ap (λ (n : ℕ). get_or (xs ++ ys) n d) same ∙ get_or-append-add xs ys (k - length xs) d

low : (m : ℕ) (below above : List ℕ) (k d : ℕ) → AllByRecursion (λ p. p < m) below → k < length below → nat_lt (get_or (below ++ above) k d) m ≡ true
low m below above k d lows l =
    let less : get_or below k d < m = all_here (λ p. p < m) below k d l lows in
    ap (λ (n : ℕ). nat_lt n m) (in_first below above k d l) ∙ is_low (get_or below k d) less
  where
    is_low : (n : ℕ) → n < m → nat_lt n m ≡ true
    is_low n less = grind (arith, nat_tests)

high : (m : ℕ) (below above : List ℕ) (k d : ℕ) → AllByRecursion (λ p. m ≤ p) above → length below ≤ k → k < length (below ++ above) → nat_lt (get_or (below ++ above) k d) m ≡ false
high m below above k d highs l end =
    let more : m ≤ get_or above (k - length below) d =
    all_here (λ p. m ≤ p) above (k - length below) d (omega (arith, l, end, length-append below above)) highs in
    ap (λ (n : ℕ). nat_lt n m) (in_second below above k d l) ∙ is_high (get_or above (k - length below) d) more
  where
    is_high : (n : ℕ) → m ≤ n → nat_lt n m ≡ false
    is_high n more = grind (arith, nat_tests)

pub parted : (m : ℕ) (below above : List ℕ) → AllByRecursion (λ p. p < m) below → AllByRecursion (λ p. m ≤ p) above
    → IsPartitionedBy (λ p. nat_lt p m) (below ++ above)
parted m below above lows highs i j d l end passes = elim (cases_lt i (length below)) [
  | inl before ↦ low m below above i d lows before
  | inr behind ↦ absurd (true≢false (sym passes ∙ high m below above j d highs (omega (arith, l, behind)) end))
]

pub point-is : (m : ℕ) (below above : List ℕ) (i : ℕ) → AllByRecursion (λ p. p < m) below → AllByRecursion (λ p. m ≤ p) above
    → i ≤ length (below ++ above) → IsPartitionPoint (λ p. nat_lt p m ≡ true) (λ p. nat_lt p m ≡ false) (below ++ above) i → i ≡ length below
point-is m below above i lows highs bound point = elim (cases_lt i (length below)) [
  | inl before ↦ absurd (true≢false (sym (low m below above i 0 lows before) ∙ point.1 i 0 (omega arith) (omega (arith, before, length-append below above))))
  | inr behind ↦ elim (cases_lt (length below) i) [
    | inl past ↦ absurd (true≢false (sym (point.0 (length below) 0 (omega arith) past)
        ∙ high m below above (length below) 0 highs (omega arith) (omega (arith, past, bound))))
    | inr same ↦ omega (arith, behind, same)
  ]
]

-- the first of two parts, and the second
pub first_part : (xs ys : List ℕ) → take (length xs) (xs ++ ys) ≡ xs
first_part [] ys = refl
first_part (x ∷ xs) ys = ap (λ (zs : List ℕ). x ∷ zs) (first_part xs ys)

pub second_part : (xs ys : List ℕ) → drop (length xs) (xs ++ ys) ≡ ys
second_part [] ys = refl
second_part (x ∷ xs) ys = second_part xs ys

-- what was put in stands between them
pub put-is : {E : Type 0} (p : ℕ) (below above before after : List ℕ) (at : ℕ) (r : Result (Unit {0}) E) → before ≡ below ++ above → at ≡ length below
    → IsOk r → after ≡ (if is_ok r then insert before at p else before) → after ≡ below ++ p ∷ above
put-is p below above before after at (Ok done) is same ok put =
    put ∙ ap (λ (n : ℕ). insert before n p) same ∙ ap (λ (xs : List ℕ). insert xs (length below) p) is
    ∙ ap (λ (xs : List ℕ). xs ++ p ∷ drop (length below) (below ++ above)) (first_part below above)
    ∙ ap (λ (ys : List ℕ). below ++ p ∷ ys) (second_part below above)
put-is p below above before after at (Err e) is same ok put = absurd (true≢false (sym ok))

-- ---- at their end

-- where the last one passes, all do
pub last_passes : (P : Type 0) (q : ℕ → Bool) (ps : List ℕ) (o : Option (Bor ℕ)) (Q : Bor ℕ → Type 0) → option_copied o ≡ slice_get ps (length ps - 1) → MatchOption o P Q
    → ((x : Bor ℕ) → Q x → q x.now ≡ true) → IsPartitionedBy q ps → IsPartitionPoint (λ p. q p ≡ true) (λ p. q p ≡ false) ps (length ps)
last_passes P q ps o Q is told gives parted = (
  λ k d low high. parted k (length ps - 1) d (omega (arith, high)) (omega (arith, high)) (passes o is told d (omega (arith, high))),
  λ k d low high. absurd (omega (arith, low, high)),
)
  where
    passes : (o : Option (Bor ℕ)) → option_copied o ≡ slice_get ps (length ps - 1) → MatchOption o P Q → (d : ℕ) → 0 < length ps → q (get_or ps (length ps - 1) d) ≡ true
    passes None is told d some = absurd (none-some (get_or ps (length ps - 1) d) (is ∙ slice_get-get_or ps (length ps - 1) d (omega (arith, some))))
    passes (Some x) is told d some = ap q (get_or_from_slice_get ps (length ps - 1) x.now d (sym is)) ∙ gives x told

pub insert_last : (p : ℕ) (ps : List ℕ) → insert ps (length ps) p ≡ ps ++ p ∷ []
insert_last p ps =
    ap (λ (qs : List ℕ). qs ++ p ∷ drop (length ps) ps) (take_all (length ps) ps (omega arith))
    ∙ ap (λ (qs : List ℕ). ps ++ p ∷ qs) (drop_all (length ps) ps (omega arith))
