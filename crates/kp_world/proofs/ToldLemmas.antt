-- No item is told twice, and the memory that is used is that of the items that are not told.
use Rattle.std.proofs.Common.{◌≡◌, ℕ, zero, suc, ◌+◌, ◌<◌, ◌≤◌, Bool, true, false, not, cond, List, [], ◌∷◌, length, take, drop, refl, sym, ap, ◌∙◌, subst, arith}
use Rattle.std.specs.Prelude.{flat_map, if◌then◌else◌, ◌==◌, ◌&&◌}
use Rattle.std.specs.List.{AllByRecursion, IsDistinct, filter, range_with_len, sum_by}
use Rattle.std.proofs.lemmas.Bool.{and_parts, and_right, eqb-true, eqb-false, eq-eqb, ne_eqb}
use Rattle.std.proofs.lemmas.List.{take-append-drop}
use Rattle.kp_accum.specs.declared.item.Item.{Item}
use Rattle.kp_accum.specs.Queue.{charge_of}
use Rattle.kp_rules.specs.Partitions.{untold, used}
use Rattle.kp_world.specs.Facts.{facts}
use Rattle.kp_world.specs.Accepting.{accepted_by, for_partition, taken_by}
use Rattle.kp_world.specs.Accounts.{is_same, is_among, told_items, items_taken, IsToldOnce, IsUsedByUntold}
use Rattle.kp_world.specs.World.{World}
use Rattle.kp_world.proofs.AccountLemmas.{IsAccounted, partition-append}
use Rattle.kp_world.proofs.FateLemmas.{any_itself, any_none, AreNumbered, numbered_above, numbered_front}
use Rattle.kp_world.proofs.WeightLemmas.{weigh, none_counted, weigh_agrees, weigh_beyond, weigh_flat, weigh_none, sum_is}
use Rattle.kp_rules.proofs.ListLemmas.{all_say, all_take, all_weaker}

-- ---- counting an item

abbrev pub count_of : Item → Item → ℕ
count_of i j = if is_same i j then 1 else 0

pub same_itself : (i : Item) → is_same i i ≡ true
same_itself i =
    ap (λ (b : Bool). b && (i.partition == i.partition && (i.number == i.number))) (eq-eqb i.sender i.sender refl)
    ∙ ap (λ (b : Bool). b && (i.number == i.number)) (eq-eqb i.partition i.partition refl)
    ∙ eq-eqb i.number i.number refl

pub weighs_itself : (xs : List Item) → AllByRecursion (λ i. 1 ≤ weigh (count_of i) xs) xs
weighs_itself [] = tt
weighs_itself (x ∷ xs) = (
  (let one : count_of x x ≡ 1 = ap (λ (b : Bool). if b then 1 else 0) (same_itself x) in omega (arith, one)),
  all_weaker (λ i. 1 ≤ weigh (count_of i) xs) (λ i. 1 ≤ weigh (count_of i) (x ∷ xs)) (λ i e. omega (arith, e)) xs (weighs_itself xs),
)

distinct : (xs : List Item) → ((i : Item) → weigh (count_of i) xs ≤ 1) → IsDistinct is_same xs
unfolding IsDistinct
distinct [] h = tt
distinct (x ∷ xs) h =
    let one : count_of x x ≡ 1 = ap (λ (b : Bool). if b then 1 else 0) (same_itself x) in
    let most : count_of x x + weigh (count_of x) xs ≤ 1 = h x in
    (none_counted (is_same x) xs (omega (arith, one, most)), distinct xs (λ i. let all : count_of i x + weigh (count_of i) xs ≤ 1 = h i in omega (arith, all)))

-- ---- each item was taken once

not_same : (i x : Item) → (i.number == x.number) ≡ false → is_same i x ≡ false
not_same i x is = ap (λ (b : Bool). i.sender == x.sender && (i.partition == x.partition && b)) is ∙ and_right (i.sender == x.sender) (i.partition == x.partition && false) (and_right (i.partition == x.partition) false refl)

counted_past : (k n : ℕ) (i : Item) (xs : List Item) → i.number ≡ k → k < n → AreNumbered n xs → weigh (count_of i) xs ≡ 0
counted_past k n i xs e l h =
    weigh_none (count_of i) xs (all_weaker (λ (x : Item). k < x.number) (λ x. count_of i x ≡ 0) (λ x m. ap (λ (b : Bool). if b then 1 else 0) (not_same i x (ne_eqb i.number x.number (λ same. omega (arith, same, e, m))))) xs (numbered_above k n xs l h))

counted_once : (n : ℕ) (i : Item) (xs : List Item) → AreNumbered n xs → weigh (count_of i) xs ≤ 1
counted_once n i [] h = omega arith
counted_once n i (x ∷ xs) h = at_test (is_same i x) refl (counted_once (n + 1) i xs h.1)
  where
    at_test : (b : Bool) → is_same i x ≡ b → weigh (count_of i) xs ≤ 1 → (if b then 1 else 0) + weigh (count_of i) xs ≤ 1
    at_test true is rest =
        let same : i.number ≡ x.number = eqb-true i.number x.number (and_parts (i.partition == x.partition) (i.number == x.number) (and_parts (i.sender == x.sender) (i.partition == x.partition && (i.number == x.number)) is).1).1 in
        let at : x.number ≡ n = h.0 in
        let none : weigh (count_of i) xs ≡ 0 = counted_past i.number (n + 1) i xs refl (omega (arith, same, at)) h.1 in
        omega (arith, none)
    at_test false is rest = omega (arith, rest)

-- only those of its partition count
counted_for : (i : Item) (xs : List Item) → weigh (count_of i) xs ≡ weigh (count_of i) (for_partition i.partition xs)
counted_for i [] = refl
counted_for i (x ∷ xs) = at_test (x.partition == i.partition) refl (counted_for i xs)
  where
    at_test : (b : Bool) → (x.partition == i.partition) ≡ b → weigh (count_of i) xs ≡ weigh (count_of i) (for_partition i.partition xs)
        → count_of i x + weigh (count_of i) xs ≡ weigh (count_of i) (cond b (x ∷ for_partition i.partition xs) (for_partition i.partition xs))
    at_test true is rest = ap (λ (n : ℕ). count_of i x + n) rest
    at_test false is rest =
        let here : is_same i x ≡ false = ap (λ (b : Bool). i.sender == x.sender && (b && (i.number == x.number))) (ne_eqb i.partition x.partition (λ (e : i.partition ≡ x.partition). eqb-false x.partition i.partition is (sym e))) ∙ and_right (i.sender == x.sender) false refl in
        let zero_here : count_of i x ≡ 0 = ap (λ (b : Bool). if b then 1 else 0) here in
        omega (arith, zero_here, rest)

-- only those of its sender count
other_sender : (i : Item) (s : ℕ) (xs : List Item) → (s == i.sender) ≡ false → AllByRecursion (λ (x : Item). x.sender ≡ s) xs → weigh (count_of i) xs ≡ 0
other_sender i s xs is h = weigh_none (count_of i) xs (all_weaker (λ (x : Item). x.sender ≡ s) (λ x. count_of i x ≡ 0) (λ x e. ap (λ (b : Bool). if b && (i.partition == x.partition && (i.number == x.number)) then 1 else 0) (ne_eqb i.sender x.sender (λ (same : i.sender ≡ x.sender). eqb-false s i.sender is (sym e ∙ sym same)))) xs h)

one_place : (F : ℕ → ℕ) (q : ℕ) → ((n : ℕ) → (n == q) ≡ false → F n ≡ 0) → F q ≤ 1 → (a m : ℕ) → weigh F (range_with_len a m) ≤ 1
one_place F q h one a zero = omega arith
one_place F q h one a (suc m) = at_test (a == q) refl (one_place F q h one (a + 1) m)
  where
    at_test : (b : Bool) → (a == q) ≡ b → weigh F (range_with_len (a + 1) m) ≤ 1 → F a + weigh F (range_with_len (a + 1) m) ≤ 1
    at_test true is rest =
        let e : a ≡ q = eqb-true a q is in
        let here : F a ≤ 1 = subst (λ (n : ℕ). F n ≤ 1) (sym e) one in
        let none : weigh F (range_with_len (a + 1) m) ≡ weigh (λ n. 0) (range_with_len (a + 1) m) = weigh_beyond (λ n. 0) F q h (a + 1) m (omega (arith, e)) in
        let zeros : weigh (λ n. 0) (range_with_len (a + 1) m) ≡ 0 = weigh_none (λ n. 0) (range_with_len (a + 1) m) (all_say (λ n. 0 ≡ 0) (λ n. refl) (range_with_len (a + 1) m)) in
        omega (arith, here, none, zeros)
    at_test false is rest = let here : F a ≡ 0 = h a is in omega (arith, here, rest)

taken_once : (w : World) → IsAccounted w → (i : Item) → weigh (count_of i) (items_taken (facts w)) ≤ 1
taken_once w a i =
    let most : weigh (λ s. weigh (count_of i) (take (taken_by s w) (accepted_by s w))) (range_with_len 0 (length w.accepted)) ≤ 1 = one_place (λ s. weigh (count_of i) (take (taken_by s w) (accepted_by s w))) i.sender other here 0 (length w.accepted) in
    let all : weigh (count_of i) (items_taken (facts w)) ≡ weigh (λ s. weigh (count_of i) (take (taken_by s w) (accepted_by s w))) (range_with_len 0 (length w.accepted)) = weigh_flat (count_of i) (λ s. take (taken_by s w) (accepted_by s w)) (range_with_len 0 (length w.accepted)) in
    omega (arith, most, all)
  where
    own : (s : ℕ) → AllByRecursion (λ (x : Item). x.sender ≡ s) (take (taken_by s w) (accepted_by s w))
    own s = all_take (λ (x : Item). x.sender ≡ s) (taken_by s w) (accepted_by s w) (a.senders s).own

    other : (s : ℕ) → (s == i.sender) ≡ false → weigh (count_of i) (take (taken_by s w) (accepted_by s w)) ≡ 0
    other s is = other_sender i s (take (taken_by s w) (accepted_by s w)) is (own s)

    numbered : AreNumbered 0 (for_partition i.partition (take (taken_by i.sender w) (accepted_by i.sender w)))
    numbered = numbered_front 0 (for_partition i.partition (take (taken_by i.sender w) (accepted_by i.sender w))) (for_partition i.partition (drop (taken_by i.sender w) (accepted_by i.sender w)))
        (subst (AreNumbered 0) (ap (for_partition i.partition) (sym (take-append-drop (taken_by i.sender w) (accepted_by i.sender w))) ∙ partition-append i.partition (take (taken_by i.sender w) (accepted_by i.sender w)) (drop (taken_by i.sender w) (accepted_by i.sender w))) ((a.senders i.sender).numbered i.partition))

    here : weigh (count_of i) (take (taken_by i.sender w) (accepted_by i.sender w)) ≤ 1
    here =
        let same : weigh (count_of i) (take (taken_by i.sender w) (accepted_by i.sender w)) ≡ weigh (count_of i) (for_partition i.partition (take (taken_by i.sender w) (accepted_by i.sender w))) = counted_for i (take (taken_by i.sender w) (accepted_by i.sender w)) in
        let once : weigh (count_of i) (for_partition i.partition (take (taken_by i.sender w) (accepted_by i.sender w))) ≤ 1 = counted_once 0 i (for_partition i.partition (take (taken_by i.sender w) (accepted_by i.sender w))) numbered in
        omega (arith, same, once)

-- told or not told, it counts once
counted_all : (w : World) → IsAccounted w → (i : Item) → weigh (count_of i) (told_items (facts w)) + weigh (count_of i) (flat_map untold w.core.partitions) ≤ 1
counted_all w a i =
    let all : weigh (count_of i) (told_items (facts w)) + weigh (count_of i) (flat_map untold w.core.partitions) ≡ weigh (count_of i) (items_taken (facts w)) = a.weights (count_of i) in
    let once : weigh (count_of i) (items_taken (facts w)) ≤ 1 = taken_once w a i in
    omega (arith, all, once)

pub told_once : (w : World) → IsAccounted w → IsToldOnce (facts w)
told_once w a = distinct (told_items (facts w)) (λ i. let all : weigh (count_of i) (told_items (facts w)) + weigh (count_of i) (flat_map untold w.core.partitions) ≤ 1 = counted_all w a i in omega (arith, all))

-- ---- memory

weigh_tested : (g : Item → ℕ) (test : Item → Bool) (xs : List Item) → weigh (λ i. if test i then g i else 0) xs ≡ weigh g (filter test xs)
weigh_tested g test [] = refl
weigh_tested g test (x ∷ xs) = at_test (test x) (weigh_tested g test xs)
  where
    at_test : (b : Bool) → weigh (λ i. if test i then g i else 0) xs ≡ weigh g (filter test xs)
        → (if b then g x else 0) + weigh (λ i. if test i then g i else 0) xs ≡ weigh g (cond b (x ∷ filter test xs) (filter test xs))
    at_test true rest = ap (λ (n : ℕ). g x + n) rest
    at_test false rest = omega (arith, rest)

pub used_by_untold : (w : World) → IsAccounted w → IsUsedByUntold (facts w)
unfolding used
used_by_untold w a =
    let told : Item → Bool = λ i. not (is_among i (told_items (facts w))) in
    let f : Item → ℕ = λ i. if not (is_among i (told_items (facts w))) then charge_of i else 0 in
    let all : weigh (λ i. if not (is_among i (told_items (facts w))) then charge_of i else 0) (told_items (facts w)) + weigh (λ i. if not (is_among i (told_items (facts w))) then charge_of i else 0) (flat_map untold w.core.partitions) ≡ weigh (λ i. if not (is_among i (told_items (facts w))) then charge_of i else 0) (items_taken (facts w)) = a.weights f in
    let none : weigh (λ i. if not (is_among i (told_items (facts w))) then charge_of i else 0) (told_items (facts w)) ≡ 0 =
    weigh_none f (told_items (facts w)) (all_weaker (λ i. is_among i (told_items (facts w)) ≡ true) (λ i. (if not (is_among i (told_items (facts w))) then charge_of i else 0) ≡ 0) (λ i e. ap (λ (b : Bool). if not b then charge_of i else 0) e) (told_items (facts w)) (any_itself is_same same_itself (told_items (facts w)))) in
    let same : weigh (λ i. if not (is_among i (told_items (facts w))) then charge_of i else 0) (flat_map untold w.core.partitions) ≡ weigh charge_of (flat_map untold w.core.partitions) =
    weigh_agrees f charge_of (flat_map untold w.core.partitions) (all_weaker (λ i. 1 ≤ weigh (count_of i) (flat_map untold w.core.partitions)) (λ i. (if not (is_among i (told_items (facts w))) then charge_of i else 0) ≡ charge_of i) untold_is (flat_map untold w.core.partitions) (weighs_itself (flat_map untold w.core.partitions))) in
    let left : weigh (λ i. if not (is_among i (told_items (facts w))) then charge_of i else 0) (items_taken (facts w)) ≡ weigh charge_of (filter (λ i. not (is_among i (told_items (facts w)))) (items_taken (facts w))) = weigh_tested charge_of told (items_taken (facts w)) in
    let before : sum_by charge_of (flat_map untold w.core.partitions) ≡ weigh charge_of (flat_map untold w.core.partitions) = sum_is charge_of (flat_map untold w.core.partitions) in
    let after : sum_by charge_of (filter (λ i. not (is_among i (told_items (facts w)))) (items_taken (facts w))) ≡ weigh charge_of (filter (λ i. not (is_among i (told_items (facts w)))) (items_taken (facts w))) = sum_is charge_of (filter told (items_taken (facts w))) in
    omega (arith, all, none, same, left, before, after)
  where
    untold_is : (i : Item) → 1 ≤ weigh (count_of i) (flat_map untold w.core.partitions) → (if not (is_among i (told_items (facts w))) then charge_of i else 0) ≡ charge_of i
    untold_is i l =
        let all : weigh (count_of i) (told_items (facts w)) + weigh (count_of i) (flat_map untold w.core.partitions) ≤ 1 = counted_all w a i in
        let none : weigh (count_of i) (told_items (facts w)) ≡ 0 = omega (arith, all, l) in
        ap (λ (b : Bool). if not b then charge_of i else 0) (any_none (is_same i) (told_items (facts w)) (none_counted (is_same i) (told_items (facts w)) none))
