-- What was handed over of a sender and partition is what was accepted and has left.
use Rattle.std.proofs.Common.{◌≡◌, ℕ, ◌+◌, ◌<◌, Bool, true, false, not, cond, List, [], ◌∷◌, ◌++◌, length, take, map, refl, sym, ap, ◌∙◌, subst}
use Rattle.std.specs.Prelude.{◌==◌, ◌&&◌, ◌||◌}
use Rattle.std.specs.List.{AllByRecursion, filter, range_with_len}
use Rattle.std.proofs.lemmas.Bool.{and_right, eqb-true, eqb-false, eq-eqb, ne_eqb}
use Rattle.std.proofs.lemmas.List.{append-nil, take-append-drop}
use Rattle.std.proofs.lemmas.List.Elements.{filter-append}
use Rattle.kp_accum.specs.declared.item.Item.{Item}
use Rattle.kp_rules.specs.InOrder.{AreRising}
use Rattle.kp_rules.specs.Partitions.{partition_at, items_open, items_queued, untold}
use Rattle.kp_rules.specs.Records.{Partition}
use Rattle.kp_world.specs.Facts.{facts, told_in}
use Rattle.kp_world.specs.Accepting.{accepted_by, for_partition, taken_by}
use Rattle.kp_world.specs.Accounts.{is_same, is_among, of_sender, items_handed, unsent_among, not_taken, queued_at, has_left, AreAccountedFor, AreInOrder}
use Rattle.kp_world.specs.World.{World}
use Rattle.kp_world.proofs.AccountLemmas.{taken_for, IsAccounted, partition-append}
use Rattle.kp_world.proofs.FateLemmas.{all_both, filter_agrees, filter_none, filter_passes, filter_same, filter_twice, has_number, is_out, AreNumbered, in_itself, numbered_rise, fates_rise, fates_handed, Rising, rising_apart, fates_apart}
use Rattle.kp_rules.proofs.ListLemmas.{all_back, all_filter, all_front, all_take, all_weaker}
use Rattle.kp_wire.proofs.ListLemmas.{all_drop}

-- ---- of one sender and partition

abbrev Of : ℕ → ℕ → Item → Type 0
Of s p i = (i.sender ≡ s) × (i.partition ≡ p)

both_of : (s p : ℕ) (items : List Item) → AllByRecursion (λ (i : Item). i.sender ≡ s) items → AllByRecursion (Of s p) (for_partition p items)
both_of s p items h =
    all_both (λ i. i.sender ≡ s) (λ i. (i.partition == p) ≡ true) (Of s p) (λ i e is. (e, eqb-true i.partition p is)) (for_partition p items)
    (all_filter (λ i. i.sender ≡ s) (λ i. i.partition == p) items h) (filter_passes (λ (i : Item). i.partition == p) items)

same_test : (m n k : ℕ) → m ≡ n → (b : Bool) → (k == n) ≡ b → (m == k) ≡ b
same_test m n k e true is = eq-eqb m k (e ∙ sym (eqb-true k n is))
same_test m n k e false is = ne_eqb m k (λ (same : m ≡ k). eqb-false k n is (sym same ∙ e))

-- an item of a sender and partition is among these where one of that sender and partition has its number
among_of : (s p : ℕ) (i : Item) → Of s p i → (items : List Item) → is_among i items ≡ has_number (of_sender s (for_partition p items)) i.number
among_of s p i of [] = refl
among_of s p i of (x ∷ items) = at_partition (x.partition == p) refl (among_of s p i of items)
  where
    at_sender : (b : Bool) → (x.sender == s) ≡ b → (x.partition == p) ≡ true → is_among i items ≡ has_number (of_sender s (for_partition p items)) i.number
        → (is_same i x || is_among i items) ≡ has_number (cond b (x ∷ of_sender s (for_partition p items)) (of_sender s (for_partition p items))) i.number
    at_sender true is at rest =
        ap (λ (z : Bool). (z && (i.partition == x.partition && (i.number == x.number))) || is_among i items) (same_test i.sender s x.sender of.0 true is)
        ∙ ap (λ (z : Bool). (z && (i.number == x.number)) || is_among i items) (same_test i.partition p x.partition of.1 true at)
        ∙ ap (λ (z : Bool). (i.number == x.number) || z) rest
    at_sender false is at rest = ap (λ (z : Bool). (z && (i.partition == x.partition && (i.number == x.number))) || is_among i items) (same_test i.sender s x.sender of.0 false is) ∙ rest

    at_partition : (b : Bool) → (x.partition == p) ≡ b → is_among i items ≡ has_number (of_sender s (for_partition p items)) i.number
        → (is_same i x || is_among i items) ≡ has_number (of_sender s (cond b (x ∷ for_partition p items) (for_partition p items))) i.number
    at_partition true at rest = at_sender (x.sender == s) refl at rest
    at_partition false at rest =
        ap (λ (z : Bool). (i.sender == x.sender && (z && (i.number == x.number))) || is_among i items) (same_test i.partition p x.partition of.1 false at)
        ∙ ap (λ (z : Bool). z || is_among i items) (and_right (i.sender == x.sender) false refl)
        ∙ rest

-- ---- numbers

pub numbers_are : (n : ℕ) (items : List Item) → AreNumbered n items → map (λ (i : Item). i.number) items ≡ range_with_len n (length items)
numbers_are n [] h = refl
numbers_are n (i ∷ items) h = ap (λ (m : ℕ). m ∷ map (λ (x : Item). x.number) items) h.0 ∙ ap (λ (r : List ℕ). n ∷ r) (numbers_are (n + 1) items h.1)

-- ---- the account

queue_home : (p : ℕ) (t : Partition) → AllByRecursion (λ (i : Item). i.partition ≡ p) (untold t) → AllByRecursion (λ (i : Item). i.partition ≡ p) (items_queued t.queue)
unfolding untold
queue_home p t h = all_back (λ (i : Item). i.partition ≡ p) (items_open t.open_batches) (items_queued t.queue) h

-- what of the items that were taken has left, and that of the others nothing has
record Leaving (s p : ℕ) (w : World) (taken others queued unsent : List Item) : Type 0 where
  pub all : for_partition p (accepted_by s w) ≡ taken ++ others
  pub leave : AllByRecursion (λ i. has_left (facts w) i ≡ (is_out unsent i && is_out queued i)) taken
  pub stay : AllByRecursion (λ i. has_left (facts w) i ≡ false) others

leaving : (s p : ℕ) (w : World) → IsAccounted w → p < length w.core.partitions
    → Leaving s p w (taken_for s p w.accepted w.taken) (for_partition p (not_taken s (facts w))) (of_sender s (queued_at p (facts w))) (of_sender s (for_partition p (unsent_among (told_in w.past))))
leaving s p w a l = record {
  all = split;
  leave = all_both Later (Of s p) Leaves one_leaves (taken_for s p w.accepted w.taken) (rising_apart (taken_for s p w.accepted w.taken) (for_partition p (not_taken s (facts w))) (numbered_rise 0 (taken_for s p w.accepted w.taken ++ for_partition p (not_taken s (facts w))) numbered)) (both_of s p (take (taken_by s w) (accepted_by s w)) own_front);
  stay = all_both (λ i. has_number (for_partition p (not_taken s (facts w))) i.number ≡ true) (Of s p) (λ i. has_left (facts w) i ≡ false) one_stays (for_partition p (not_taken s (facts w))) (in_itself (for_partition p (not_taken s (facts w)))) (both_of s p (not_taken s (facts w)) own_back);
}
  where
    split : for_partition p (accepted_by s w) ≡ taken_for s p w.accepted w.taken ++ for_partition p (not_taken s (facts w))
    split = ap (for_partition p) (sym (take-append-drop (taken_by s w) (accepted_by s w))) ∙ partition-append p (take (taken_by s w) (accepted_by s w)) (not_taken s (facts w))

    numbered : AreNumbered 0 (taken_for s p w.accepted w.taken ++ for_partition p (not_taken s (facts w)))
    numbered = subst (AreNumbered 0) split ((a.senders s).numbered p)

    own_front : AllByRecursion (λ (i : Item). i.sender ≡ s) (take (taken_by s w) (accepted_by s w))
    own_front = all_take (λ (i : Item). i.sender ≡ s) (taken_by s w) (accepted_by s w) (a.senders s).own

    own_back : AllByRecursion (λ (i : Item). i.sender ≡ s) (not_taken s (facts w))
    own_back = all_drop (λ (i : Item). i.sender ≡ s) (taken_by s w) (accepted_by s w) (a.senders s).own

    -- its tests, by numbers
    untaken : (i : Item) → Of s p i → is_among i (not_taken i.sender (facts w)) ≡ has_number (for_partition p (not_taken s (facts w))) i.number
    untaken i of =
        ap (λ (x : ℕ). is_among i (not_taken x (facts w))) of.0
        ∙ among_of s p i of (not_taken s (facts w))
        ∙ ap (λ items. has_number items i.number) (filter_same (λ (x : Item). x.sender) s (for_partition p (not_taken s (facts w))) (all_filter (λ (x : Item). x.sender ≡ s) (λ (x : Item). x.partition == p) (not_taken s (facts w)) own_back))

    queued : (i : Item) → Of s p i → is_among i (queued_at i.partition (facts w)) ≡ has_number (of_sender s (queued_at p (facts w))) i.number
    queued i of =
        ap (λ (x : ℕ). is_among i (queued_at x (facts w))) of.1
        ∙ among_of s p i of (queued_at p (facts w))
        ∙ ap (λ items. has_number (of_sender s items) i.number) (filter_same (λ (x : Item). x.partition) p (queued_at p (facts w)) (queue_home p (partition_at p w.core.partitions) (a.home p)))

    tests : (x y : Bool) → (not x && not (false || y)) ≡ (not x && not y)
    tests x y = refl

    Later : Item → Type 0
    Later i = has_number (for_partition p (not_taken s (facts w))) i.number ≡ false

    Leaves : Item → Type 0
    Leaves i = has_left (facts w) i ≡ (is_out (of_sender s (for_partition p (unsent_among (told_in w.past)))) i && is_out (of_sender s (queued_at p (facts w))) i)

    one_leaves : (i : Item) → has_number (for_partition p (not_taken s (facts w))) i.number ≡ false → Of s p i
        → has_left (facts w) i ≡ (is_out (of_sender s (for_partition p (unsent_among (told_in w.past)))) i && is_out (of_sender s (queued_at p (facts w))) i)
    one_leaves i later of =
        ap (λ (x : Bool). not x && not (is_among i (not_taken i.sender (facts w)) || is_among i (queued_at i.partition (facts w)))) (among_of s p i of (unsent_among (told_in w.past)))
        ∙ ap (λ (x : Bool). is_out (of_sender s (for_partition p (unsent_among (told_in w.past)))) i && not (x || is_among i (queued_at i.partition (facts w)))) (untaken i of ∙ later)
        ∙ ap (λ (x : Bool). is_out (of_sender s (for_partition p (unsent_among (told_in w.past)))) i && not x) (queued i of)

    one_stays : (i : Item) → has_number (for_partition p (not_taken s (facts w))) i.number ≡ true → Of s p i → has_left (facts w) i ≡ false
    one_stays i there of =
        ap (λ (x : Bool). not (is_among i (unsent_among (told_in w.past))) && not (x || is_among i (queued_at i.partition (facts w)))) (untaken i of ∙ there)
        ∙ and_right (not (is_among i (unsent_among (told_in w.past)))) false refl

pub accounted_for : (s p : ℕ) (w : World) → IsAccounted w → p < length w.core.partitions → AreAccountedFor s p (facts w)
accounted_for s p w a l =
    let t = taken_for s p w.accepted w.taken in
    let r = for_partition p (not_taken s (facts w)) in
    let q = of_sender s (queued_at p (facts w)) in
    let u = of_sender s (for_partition p (unsent_among (told_in w.past))) in
    let k = leaving s p w a l in
    fates_handed t q (of_sender s (items_handed p (facts w))) u (a.fates s p l)
    ∙ sym (filter_twice (is_out u) (is_out q) t)
    ∙ sym (filter_agrees (has_left (facts w)) (λ i. is_out (of_sender s (for_partition p (unsent_among (told_in w.past)))) i && is_out (of_sender s (queued_at p (facts w))) i) t k.leave)
    ∙ sym (append-nil (filter (has_left (facts w)) t))
    ∙ ap (λ x. filter (has_left (facts w)) (taken_for s p w.accepted w.taken) ++ x) (sym (filter_none (has_left (facts w)) r k.stay))
    ∙ sym (filter-append (has_left (facts w)) t r)
    ∙ ap (filter (has_left (facts w))) (sym k.all)

-- ---- what was handed over

by_sender : (P : ℕ → Item → Type 0) (items : List Item) → ((s : ℕ) → AllByRecursion (P s) (of_sender s items)) → AllByRecursion (λ i. P i.sender i) items
by_sender P [] h = tt
by_sender P (x ∷ items) h = (here x.sender (x.sender == x.sender) (eq-eqb x.sender x.sender refl) (h x.sender), by_sender P items (λ s. rest s (x.sender == s) (h s)))
  where
    here : (s : ℕ) (b : Bool) → b ≡ true → AllByRecursion (P s) (cond b (x ∷ of_sender s items) (of_sender s items)) → P s x
    here s true e k = k.0
    here s false e k = absurd cc

    rest : (s : ℕ) (b : Bool) → AllByRecursion (P s) (cond b (x ∷ of_sender s items) (of_sender s items)) → AllByRecursion (P s) (of_sender s items)
    rest s true k = k.1
    rest s false k = k

-- it is of its sender and partition
handed_of : (s p : ℕ) (w : World) → IsAccounted w → p < length w.core.partitions → AllByRecursion (Of s p) (of_sender s (items_handed p (facts w)))
handed_of s p w a l =
    let t = taken_for s p w.accepted w.taken in
    let h = of_sender s (items_handed p (facts w)) in
    let own = all_take (λ (i : Item). i.sender ≡ s) (taken_by s w) (accepted_by s w) (a.senders s).own in
    all_front (Of s p) h (of_sender s (queued_at p (facts w)))
    (subst (AllByRecursion (Of s p)) (a.fates s p l).kept (all_filter (Of s p) (is_out (of_sender s (for_partition p (unsent_among (told_in w.past))))) t (both_of s p (take (taken_by s w) (accepted_by s w)) own)))

pub handed_home : (p : ℕ) (w : World) → IsAccounted w → p < length w.core.partitions → AllByRecursion (λ i. i.partition ≡ p) (items_handed p (facts w))
handed_home p w a l = by_sender (λ s i. i.partition ≡ p) (items_handed p (facts w)) (λ s. all_weaker (Of s p) (λ i. i.partition ≡ p) (λ i of. of.1) (of_sender s (items_handed p (facts w))) (handed_of s p w a l))

-- nothing that was told Unsent was handed over
pub handed_is_sent : (p : ℕ) (w : World) → IsAccounted w → p < length w.core.partitions → AllByRecursion (λ i. is_among i (unsent_among (told_in w.past)) ≡ false) (items_handed p (facts w))
handed_is_sent p w a l = by_sender (λ s i. is_among i (unsent_among (told_in w.past)) ≡ false) (items_handed p (facts w)) (λ s.
    let h = of_sender s (items_handed p (facts w)) in
    all_both (λ i. has_number (of_sender s (for_partition p (unsent_among (told_in w.past)))) i.number ≡ false) (Of s p) (λ i. is_among i (unsent_among (told_in w.past)) ≡ false) (λ i apart of. among_of s p i of (unsent_among (told_in w.past)) ∙ apart) h
    (fates_apart (taken_for s p w.accepted w.taken) (of_sender s (queued_at p (facts w))) h (of_sender s (for_partition p (unsent_among (told_in w.past)))) (a.fates s p l)) (handed_of s p w a l))

-- ---- in order, and once

rising_front : (xs ys : List Item) → Rising (xs ++ ys) → Rising xs
rising_front [] ys h = tt
rising_front (x ∷ xs) ys h = (all_front (λ (i : Item). x.number < i.number) xs ys h.0, rising_front xs ys h.1)

numbers_above : (n : ℕ) (items : List Item) → AllByRecursion (λ (i : Item). n < i.number) items → AllByRecursion (λ (m : ℕ). n < m) (map (λ (i : Item). i.number) items)
numbers_above n [] h = tt
numbers_above n (i ∷ items) h = (h.0, numbers_above n items h.1)

numbers_rise : (items : List Item) → Rising items → AreRising (map (λ (i : Item). i.number) items)
numbers_rise [] h = tt
numbers_rise (i ∷ items) h = (numbers_above i.number items h.0, numbers_rise items h.1)

pub in_order : (s p : ℕ) (w : World) → IsAccounted w → p < length w.core.partitions → AreInOrder s p (facts w)
in_order s p w a l =
    let t = taken_for s p w.accepted w.taken in
    let q = of_sender s (queued_at p (facts w)) in
    let h = of_sender s (items_handed p (facts w)) in
    let u = of_sender s (for_partition p (unsent_among (told_in w.past))) in
    numbers_rise h (rising_front h q (fates_rise t q h u (a.fates s p l)))
