-- What was taken is accounted for still when an item is accepted, and when one is taken.
use Rattle.kp_world.proofs.TellingLemmas.{HasDistinct}
use Rattle.kp_rules.proofs.PartitionLemmas.{one_changed}
use Rattle.std.proofs.Common.{◌≡◌, ℕ, zero, suc, ◌+◌, ◌<◌, ◌≤◌, Bool, true, false, cond, List, [], ◌∷◌, ◌++◌, length, get_or, take, Some, refl, sym, ap, ◌∙◌, subst, arith, append_assoc, length-append}
use Rattle.std.specs.Prelude.{flat_map, if◌then◌else◌, slice_get, slice_set, slice_index, slice_index_or, ◌==◌, ◌||◌}
use Rattle.std.specs.List.{AllByRecursion, range_with_len}
use Rattle.std.proofs.lemmas.Bool.{eqb-true, eqb-false, eq-eqb, ne_eqb}
use Rattle.std.proofs.lemmas.List.{append-nil, length-set, get_or-set_same, get_or-set_other, take-append-le}
use Rattle.kp_accum.specs.declared.config.Config.{Config}
use Rattle.kp_accum.specs.declared.item.Item.{Item}
use Rattle.kp_accum.specs.Queue.{Pending, joins, joined_by, begun_by, with_item}
use Rattle.kp_rules.specs.declared.outcome.Outcome.TheVariants.{Unsent}
use Rattle.kp_rules.specs.declared.outcome.Reason.{Reason}
use Rattle.kp_rules.specs.Appending.{enqueue, with_queued}
use Rattle.kp_rules.specs.Partitions.{new_partition, partition_at, changed_at, is_in, items_open, items_queued, untold}
use Rattle.kp_rules.specs.Records.{HandedBatch, Partition, Core, Told}
use Rattle.kp_rules.specs.Telling.{told_all}
use Rattle.kp_world.specs.Accepting.{for_partition}
use Rattle.kp_world.specs.Accounts.{items_of, of_sender, unsent_among}
use Rattle.kp_world.specs.Client.{handed_at}
use Rattle.kp_world.proofs.AccountLemmas.{taken_for, taken_of, all_taken, items_told-append, Accepts, Accounts, sender-append, partition-append, both-append}
use Rattle.kp_world.proofs.ConservationLemmas.{items_told, unsent-append}
use Rattle.kp_world.proofs.WeightLemmas.{weigh, weigh-append, weigh_at, weigh_flat, weigh_none}
use Rattle.kp_world.proofs.FateLemmas.{filter_same, AreNumbered, numbered_more, numbered_back, Fates, fates_queued, fates_turned_away}
use Rattle.kp_rules.proofs.PartitionLemmas.{length-changed_at, at-changed_at}
use Rattle.kp_world.proofs.TellingLemmas.{home_past, weigh_places}
use Rattle.kp_log.proofs.PlaceLemmas.{In}
use Rattle.kp_rules.proofs.ListLemmas.{all_filter, all_say}
use Rattle.kp_world.proofs.ListLemmas.{all_at}
use Rattle.kp_wire.proofs.ListLemmas.{all_append}

-- ---- lists

-- an element of a list that was set at a place
at_set : {A : Type 0} (xs : List A) (i j : ℕ) (v d : A) → i < length xs → get_or (slice_set xs i v) j d ≡ (if j == i then v else get_or xs j d)
at_set {A = A} xs i j v d l = at_test (j == i) refl
  where
    at_test : (b : Bool) → (j == i) ≡ b → get_or (slice_set xs i v) j d ≡ (if b then v else get_or xs j d)
    at_test true is = let e : j ≡ i = eqb-true j i is in subst (λ (n : ℕ). get_or (slice_set xs i v) n d ≡ v) (sym e) (get_or-set_same xs i v d l)
    at_test false is = get_or-set_other xs i j v d (eqb-false j i is)

flat_agrees : (F G : ℕ → List Item) → ((n : ℕ) → F n ≡ G n) → (ns : List ℕ) → flat_map F ns ≡ flat_map G ns
flat_agrees F G h [] = refl
flat_agrees F G h (n ∷ ns) = ap (λ (r : List Item). r ++ flat_map F ns) (h n) ∙ ap (λ (r : List Item). G n ++ r) (flat_agrees F G h ns)

nothing : (k n : ℕ) → weigh (λ p. 0) (range_with_len k n) ≡ 0
nothing k n = weigh_none (λ p. 0) (range_with_len k n) (all_say (λ p. 0 ≡ 0) (λ p. refl) (range_with_len k n))

-- partitions whose items weigh as much
pub weigh_same : (f : Item → ℕ) (d : Partition) (ts ts' : List Partition) → length ts' ≡ length ts → ((p : ℕ) → p < length ts → weigh f (untold (get_or ts' p d)) ≡ weigh f (untold (get_or ts p d)))
    → weigh f (flat_map untold ts') ≡ weigh f (flat_map untold ts)
weigh_same f d ts ts' e h =
    let none : weigh (λ p. 0) (range_with_len 0 (length ts)) ≡ 0 = nothing 0 (length ts) in
    let all : weigh (λ p. 0) (range_with_len 0 (length ts)) + weigh f (flat_map untold ts') ≡ weigh f (flat_map untold ts) = weigh_places (λ p. 0) f 0 ts ts' d e (λ q l. omega (arith, h q l)) in
    omega (arith, none, all)

-- one of which weighs more
weigh_more : (f : Item → ℕ) (v : ℕ) (d : Partition) (ts ts' : List Partition) (q : ℕ) → length ts' ≡ length ts → q < length ts
    → weigh f (untold (get_or ts' q d)) ≡ weigh f (untold (get_or ts q d)) + v
    → ((p : ℕ) → p < length ts → (p ≡ q → ⊥) → weigh f (untold (get_or ts' p d)) ≡ weigh f (untold (get_or ts p d)))
    → weigh f (flat_map untold ts') ≡ weigh f (flat_map untold ts) + v
weigh_more f v d ts ts' q e l here other =
    let none : weigh (λ p. 0) (range_with_len 0 (length ts')) ≡ 0 = nothing 0 (length ts') in
    let one : weigh (λ p. if p == q then v else 0) (range_with_len 0 (length ts')) ≡ weigh (λ p. 0) (range_with_len 0 (length ts')) + v =
    weigh_at (λ p. 0) (λ p. if p == q then v else 0) q v (ap (λ (b : Bool). if b then v else 0) (eq-eqb q q refl) ∙ (let same : v ≡ 0 + v = omega arith in same)) (λ n is. ap (λ (b : Bool). if b then v else 0) is) 0 (length ts') (omega arith) (omega (arith, e, l)) in
    let all : weigh (λ p. if p == q then v else 0) (range_with_len 0 (length ts')) + weigh f (flat_map untold ts) ≡ weigh f (flat_map untold ts') =
    weigh_places (λ p. if p == q then v else 0) f 0 ts' ts d (sym e) (λ p m. let same : p ≡ 0 + p = omega arith in subst (λ (n : ℕ). (if n == q then v else 0) + weigh f (untold (get_or ts p d)) ≡ weigh f (untold (get_or ts' p d))) same (at_place p (p == q) refl (omega (arith, e, m)))) in
    omega (arith, none, one, all)
  where
    at_place : (p : ℕ) (b : Bool) → (p == q) ≡ b → p < length ts → (if b then v else 0) + weigh f (untold (get_or ts p d)) ≡ weigh f (untold (get_or ts' p d))
    at_place p true is m =
        let k : p ≡ q = eqb-true p q is in
        let more : weigh f (untold (get_or ts' p d)) ≡ weigh f (untold (get_or ts p d)) + v = subst (λ (n : ℕ). weigh f (untold (get_or ts' n d)) ≡ weigh f (untold (get_or ts n d)) + v) (sym k) here in
        omega (arith, more)
    at_place p false is m = let same : weigh f (untold (get_or ts' p d)) ≡ weigh f (untold (get_or ts p d)) = other p m (eqb-false p q is) in omega (arith, same)

-- ---- accepting

for_one : (p : ℕ) (i : Item) → (b : Bool) → (i.partition == p) ≡ b → for_partition p (i ∷ []) ≡ cond b (i ∷ []) []
for_one p i b e = ap (λ (z : Bool). cond z (i ∷ []) []) e

accepts_more : (count s : ℕ) (items : List Item) (n : ℕ) (i : Item) → Accepts count s items n → i.sender ≡ s → i.partition < count → i.number ≡ length (for_partition i.partition items)
    → Accepts count s (items ++ i ∷ []) n
accepts_more count s items n i a own there number = record {
  known = all_append (λ (x : Item). x.partition < count) items (i ∷ []) a.known (there, tt);
  within = let w : n ≤ length items = a.within in omega (arith, length-append items (i ∷ []));
  own = all_append (λ (x : Item). x.sender ≡ s) items (i ∷ []) a.own (own, tt);
  numbered = λ p. subst (AreNumbered 0) (sym (partition-append p items (i ∷ []))) (at_test p (i.partition == p) refl);
}
  where
    at_test : (p : ℕ) (b : Bool) → (i.partition == p) ≡ b → AreNumbered 0 (for_partition p items ++ for_partition p (i ∷ []))
    at_test p true is =
        let e : i.partition ≡ p = eqb-true i.partition p is in
        let at : i.number ≡ length (for_partition p items) = subst (λ (q : ℕ). i.number ≡ length (for_partition q items)) e number in
        subst (λ r. AreNumbered 0 (for_partition p items ++ r)) (sym (for_one p i true is)) (numbered_more 0 (for_partition p items) i (a.numbered p) (omega (arith, at)))
    at_test p false is = subst (λ r. AreNumbered 0 (for_partition p items ++ r)) (sym (for_one p i false is)) (subst (AreNumbered 0) (sym (append-nil (for_partition p items))) (a.numbered p))

pub accounts_accepted : (core : Core) (accepted : List (List Item)) (taken : List ℕ) (handed : List (List HandedBatch)) (told : List Told) (i : Item)
    → Accounts core accepted taken handed told → i.sender < length accepted → i.partition < length core.partitions → i.number ≡ length (for_partition i.partition (slice_index_or accepted i.sender []))
    → Accounts core (slice_set accepted i.sender (slice_index_or accepted i.sender [] ++ i ∷ [])) taken handed told
accounts_accepted core accepted taken handed told i a there known number = record {
  taken_count = a.taken_count ∙ sym (length-set accepted i.sender (slice_index_or accepted i.sender [] ++ i ∷ []));
  handed_count = a.handed_count;
  senders = λ s. subst (λ items. Accepts (length core.partitions) s items (slice_index taken s)) (sym (at_set accepted i.sender s (slice_index_or accepted i.sender [] ++ i ∷ []) [] there)) (accepts s (s == i.sender) refl);
  home = a.home;
  requests = a.requests;
  fates = λ s p l. subst (λ t. Fates t (of_sender s (items_queued (partition_at p core.partitions).queue)) (of_sender s (items_of (handed_at p handed))) (of_sender s (for_partition p (unsent_among told))))
      (sym (ap (λ items. for_partition p (take (slice_index taken s) items)) (at_set accepted i.sender s (slice_index_or accepted i.sender [] ++ i ∷ []) [] there) ∙ ap (for_partition p) (same s (s == i.sender) refl)))
      (a.fates s p l);
  weights = λ f. a.weights f ∙ ap (weigh f) (sym all_same);
}
  where
    accepts : (s : ℕ) (b : Bool) → (s == i.sender) ≡ b → Accepts (length core.partitions) s (if b then slice_index_or accepted i.sender [] ++ i ∷ [] else slice_index_or accepted s []) (slice_index taken s)
    accepts s true is =
        let e : s ≡ i.sender = eqb-true s i.sender is in
        subst (λ (n : ℕ). Accepts (length core.partitions) n (slice_index_or accepted i.sender [] ++ i ∷ []) (slice_index taken n)) (sym e)
        (accepts_more (length core.partitions) i.sender (slice_index_or accepted i.sender []) (slice_index taken i.sender) i (a.senders i.sender) refl known number)
    accepts s false is = a.senders s

    same : (s : ℕ) (b : Bool) → (s == i.sender) ≡ b
        → take (slice_index taken s) (if b then slice_index_or accepted i.sender [] ++ i ∷ [] else slice_index_or accepted s []) ≡ take (slice_index taken s) (slice_index_or accepted s [])
    same s true is =
        let e : s ≡ i.sender = eqb-true s i.sender is in
        subst (λ (n : ℕ). take (slice_index taken n) (slice_index_or accepted i.sender [] ++ i ∷ []) ≡ take (slice_index taken n) (slice_index_or accepted n [])) (sym e)
        (take-append-le (slice_index taken i.sender) (slice_index_or accepted i.sender []) (i ∷ []) (a.senders i.sender).within)
    same s false is = refl

    each_same : (s : ℕ) → taken_of (slice_set accepted i.sender (slice_index_or accepted i.sender [] ++ i ∷ [])) taken s ≡ taken_of accepted taken s
    each_same s = ap (take (slice_index taken s)) (at_set accepted i.sender s (slice_index_or accepted i.sender [] ++ i ∷ []) [] there) ∙ same s (s == i.sender) refl

    all_same : all_taken (slice_set accepted i.sender (slice_index_or accepted i.sender [] ++ i ∷ [])) taken ≡ all_taken accepted taken
    all_same =
        ap (λ (n : ℕ). flat_map (taken_of (slice_set accepted i.sender (slice_index_or accepted i.sender [] ++ i ∷ [])) taken) (range_with_len 0 n)) (length-set accepted i.sender (slice_index_or accepted i.sender [] ++ i ∷ []))
        ∙ flat_agrees (taken_of (slice_set accepted i.sender (slice_index_or accepted i.sender [] ++ i ∷ [])) taken) (taken_of accepted taken) each_same (range_with_len 0 (length accepted))

-- ---- taking

-- the next of a sender's items
pub record NextOf (count s : ℕ) (items : List Item) (n : ℕ) (i : Item) : Type 0 where
  pub known : i.partition < count
  pub below : n < length items
  pub taken : take (n + 1) items ≡ take n items ++ i ∷ []
  pub sender : i.sender ≡ s
  pub number : i.number ≡ length (for_partition i.partition (take n items))

-- a list, taken at the place of an element
pub took : {A : Type 0} (xs : List A) (n : ℕ) (i : A) → slice_get xs n ≡ Some i → (rest : List A) × (n < length xs) × (xs ≡ take n xs ++ i ∷ rest) × (take (n + 1) xs ≡ take n xs ++ i ∷ [])
took [] n i e = absurd cc
took (x ∷ xs) zero i e = let is : x ≡ i = cc in (xs, omega arith, ap (λ z. z ∷ xs) is, ap (λ z. z ∷ []) is)
took (x ∷ xs) (suc n) i e =
    let h = took xs n i e in
    let more : suc n + 1 ≡ suc (n + 1) = omega arith in
    (h.0, omega (arith, h.1), ap (λ z. x ∷ z) h.2, ap (λ (m : ℕ). take m (x ∷ xs)) more ∙ ap (λ z. x ∷ z) h.3)

number_at : (front : List Item) (i : Item) (rest : List Item) → AreNumbered 0 (for_partition i.partition (front ++ i ∷ rest)) → i.number ≡ length (for_partition i.partition front)
number_at front i rest h =
    let p = i.partition in
    let first : for_partition i.partition (i ∷ rest) ≡ i ∷ for_partition i.partition rest = ap (λ (b : Bool). cond b (i ∷ for_partition i.partition rest) (for_partition i.partition rest)) (eq-eqb i.partition i.partition refl) in
    let all : for_partition i.partition (front ++ i ∷ rest) ≡ for_partition i.partition front ++ i ∷ for_partition i.partition rest = partition-append i.partition front (i ∷ rest) ∙ ap (λ r. for_partition i.partition front ++ r) first in
    let at : AreNumbered (0 + length (for_partition i.partition front)) (i ∷ for_partition i.partition rest) = numbered_back 0 (for_partition i.partition front) (i ∷ for_partition i.partition rest) (subst (AreNumbered 0) all h) in
    let it : i.number ≡ 0 + length (for_partition i.partition front) = at.0 in
    omega (arith, it)

pub next_of : (count s : ℕ) (items : List Item) (n : ℕ) (i : Item) → Accepts count s items n → slice_get items n ≡ Some i → NextOf count s items n i
next_of count s items n i a e =
    let h = took items n i e in
    let inside : In i items = record { earlier = take n items; later = h.0; split = h.2 } in
    record {
      below = h.1;
      taken = h.3;
      sender = all_at (λ (x : Item). x.sender ≡ s) items i a.own inside;
      known = all_at (λ (x : Item). x.partition < count) items i a.known inside;
      number = number_at (take n items) i h.0 (subst (λ xs. AreNumbered 0 (for_partition i.partition xs)) h.2 (a.numbered i.partition));
    }

-- what of an item is of this sender and partition
abbrev picked : ℕ → ℕ → Item → List Item
picked s q i = of_sender s (for_partition q (i ∷ []))

picked_other : (s q : ℕ) (i : Item) → (i.partition == q) ≡ false → picked s q i ≡ []
picked_other s q i e = ap (of_sender s) (for_one q i false e)

picked_here : (s q : ℕ) (i : Item) → (b : Bool) → (i.sender == s) ≡ b → (i.partition == q) ≡ true → picked s q i ≡ cond b (i ∷ []) []
picked_here s q i b a e = ap (of_sender s) (for_one q i true e) ∙ ap (λ (z : Bool). cond z (i ∷ []) []) a

at_picked : (P : List Item → Type 0) (s q : ℕ) (i : Item) → P [] → (i.sender ≡ s → i.partition ≡ q → P (i ∷ [])) → P (picked s q i)
at_picked P s q i none one = at_partition (i.partition == q) refl
  where
    at_sender : (b : Bool) → (i.sender == s) ≡ b → (i.partition == q) ≡ true → P (picked s q i)
    at_sender true is e = subst P (sym (picked_here s q i true is e)) (one (eqb-true i.sender s is) (eqb-true i.partition q e))
    at_sender false is e = subst P (sym (picked_here s q i false is e)) none

    at_partition : (b : Bool) → (i.partition == q) ≡ b → P (picked s q i)
    at_partition true e = at_sender (i.sender == s) refl e
    at_partition false e = subst P (sym (picked_other s q i e)) none

-- one item more was taken, of this sender and partition or of others
more_queued : (s q : ℕ) (i : Item) (t w h u : List Item) → (i.sender ≡ s → i.partition ≡ q → i.number ≡ length t) → Fates t w h u → Fates (t ++ picked s q i) (w ++ picked s q i) h u
more_queued s q i t w h u number f =
    at_picked (λ r. Fates (t ++ r) (w ++ r) h u) s q i
    (subst (λ (r : List Item). Fates r (w ++ []) h u) (sym (append-nil t)) (subst (λ (r : List Item). Fates t r h u) (sym (append-nil w)) f))
    (λ sender partition. fates_queued t w h u i f (number sender partition))

more_turned : (s q : ℕ) (i : Item) (t w h u : List Item) → (i.sender ≡ s → i.partition ≡ q → i.number ≡ length t) → Fates t w h u → Fates (t ++ picked s q i) w h (u ++ picked s q i)
more_turned s q i t w h u number f =
    at_picked (λ r. Fates (t ++ r) w h (u ++ r)) s q i
    (subst (λ (r : List Item). Fates r w h (u ++ [])) (sym (append-nil t)) (subst (λ (r : List Item). Fates t w h r) (sym (append-nil u)) f))
    (λ sender partition. fates_turned_away t w h u i f (number sender partition))

-- ---- the account, with one item more

abbrev with_one : ℕ → List ℕ → List ℕ
with_one s taken = slice_set taken s (slice_index taken s + 1)

-- item i is the next of sender s
abbrev IsNext : ℕ → ℕ → List (List Item) → List ℕ → Item → Type 0
IsNext count s accepted taken i = NextOf count s (slice_index_or accepted s []) (slice_index taken s) i

taken_more : (count s : ℕ) (accepted : List (List Item)) (taken : List ℕ) (i : Item) → s < length taken → IsNext count s accepted taken i → (s' q : ℕ)
    → taken_for s' q accepted (with_one s taken) ≡ taken_for s' q accepted taken ++ picked s' q i
taken_more count s accepted taken i l next s' q =
    ap (λ (n : ℕ). for_partition q (take n (slice_index_or accepted s' []))) (at_set taken s s' (slice_index taken s + 1) 0 l) ∙ at_test (s' == s) refl
  where
    own : of_sender s (for_partition q (i ∷ [])) ≡ for_partition q (i ∷ [])
    own = filter_same (λ (x : Item). x.sender) s (for_partition q (i ∷ [])) (all_filter (λ (x : Item). x.sender ≡ s) (λ (x : Item). x.partition == q) (i ∷ []) (next.sender, tt))

    at_test : (b : Bool) → (s' == s) ≡ b → for_partition q (take (if b then slice_index taken s + 1 else slice_index taken s') (slice_index_or accepted s' [])) ≡ taken_for s' q accepted taken ++ picked s' q i
    at_test true is =
        let e : s' ≡ s = eqb-true s' s is in
        subst (λ (n : ℕ). for_partition q (take (slice_index taken s + 1) (slice_index_or accepted n [])) ≡ taken_for n q accepted taken ++ picked n q i) (sym e)
        (ap (for_partition q) next.taken ∙ partition-append q (take (slice_index taken s) (slice_index_or accepted s [])) (i ∷ [])
        ∙ ap (λ r. taken_for s q accepted taken ++ r) (sym own))
    at_test false is =
        let none : picked s' q i ≡ [] = at_picked (λ r. r ≡ []) s' q i refl (λ sender partition. absurd (eqb-false s' s is (sym sender ∙ next.sender))) in
        sym (ap (λ r. taken_for s' q accepted taken ++ r) none ∙ append-nil (taken_for s' q accepted taken))

number_for : (count s : ℕ) (accepted : List (List Item)) (taken : List ℕ) (i : Item) → IsNext count s accepted taken i → (s' q : ℕ) → i.sender ≡ s' → i.partition ≡ q → i.number ≡ length (taken_for s' q accepted taken)
number_for count s accepted taken i next s' q sender partition =
    let own : s ≡ s' = sym next.sender ∙ sender in
    subst (λ (n : ℕ). i.number ≡ length (taken_for n q accepted taken)) own (subst (λ (n : ℕ). i.number ≡ length (taken_for s n accepted taken)) partition next.number)

weigh_taken : (f : Item → ℕ) (count s : ℕ) (accepted : List (List Item)) (taken : List ℕ) (i : Item) → s < length taken → length taken ≡ length accepted → IsNext count s accepted taken i
    → weigh f (all_taken accepted (with_one s taken)) ≡ weigh f (all_taken accepted taken) + f i
weigh_taken f count s accepted taken i l count_is next =
    weigh_flat f (taken_of accepted (with_one s taken)) (range_with_len 0 (length accepted))
    ∙ weigh_at (λ n. weigh f (taken_of accepted taken n)) (λ n. weigh f (taken_of accepted (with_one s taken) n)) s (f i) here other 0 (length accepted) (omega arith) (omega (arith, l, count_is))
    ∙ ap (λ (n : ℕ). n + f i) (sym (weigh_flat f (taken_of accepted taken) (range_with_len 0 (length accepted))))
  where
    at : (n : ℕ) → taken_of accepted (with_one s taken) n ≡ take (if n == s then slice_index taken s + 1 else slice_index taken n) (slice_index_or accepted n [])
    at n = ap (λ (m : ℕ). take m (slice_index_or accepted n [])) (at_set taken s n (slice_index taken s + 1) 0 l)

    here : weigh f (taken_of accepted (with_one s taken) s) ≡ weigh f (taken_of accepted taken s) + f i
    here =
        let one : weigh f (take (slice_index taken s) (slice_index_or accepted s []) ++ i ∷ []) ≡ weigh f (take (slice_index taken s) (slice_index_or accepted s [])) + (f i + 0) = weigh-append f (take (slice_index taken s) (slice_index_or accepted s [])) (i ∷ []) in
        let all : weigh f (taken_of accepted (with_one s taken) s) ≡ weigh f (take (slice_index taken s) (slice_index_or accepted s []) ++ i ∷ []) =
        ap (weigh f) (at s ∙ ap (λ (b : Bool). take (if b then slice_index taken s + 1 else slice_index taken s) (slice_index_or accepted s [])) (eq-eqb s s refl) ∙ next.taken) in
        omega (arith, one, all)

    other : (n : ℕ) → (n == s) ≡ false → weigh f (taken_of accepted (with_one s taken) n) ≡ weigh f (taken_of accepted taken n)
    other n is = ap (weigh f) (at n ∙ ap (λ (b : Bool). take (if b then slice_index taken s + 1 else slice_index taken n) (slice_index_or accepted n [])) is)

accepts_taken : (count s : ℕ) (accepted : List (List Item)) (taken : List ℕ) (i : Item) → s < length taken → IsNext count s accepted taken i
    → ((s' : ℕ) → Accepts count s' (slice_index_or accepted s' []) (slice_index taken s')) → (s' : ℕ) → Accepts count s' (slice_index_or accepted s' []) (slice_index (with_one s taken) s')
accepts_taken count s accepted taken i l next a s' = subst (Accepts count s' (slice_index_or accepted s' [])) (sym (at_set taken s s' (slice_index taken s + 1) 0 l)) (at_test (s' == s) refl)
  where
    at_test : (b : Bool) → (s' == s) ≡ b → Accepts count s' (slice_index_or accepted s' []) (if b then slice_index taken s + 1 else slice_index taken s')
    at_test true is =
        let e : s' ≡ s = eqb-true s' s is in
        let h = a s in
        let below : slice_index taken s < length (slice_index_or accepted s []) = next.below in
        let here : Accepts count s (slice_index_or accepted s []) (slice_index taken s + 1) = record { within = omega arith; known = h.known; own = h.own; numbered = h.numbered } in
        subst (λ (n : ℕ). Accepts count n (slice_index_or accepted n []) (slice_index taken s + 1)) (sym e) here
    at_test false is = a s'

pub accounts_turned_away : (why : Reason) (core core' : Core) (accepted : List (List Item)) (taken : List ℕ) (handed : List (List HandedBatch)) (told : List Told) (s : ℕ) (i : Item)
    → Accounts core accepted taken handed told → s < length taken → IsNext (length core.partitions) s accepted taken i
    → core'.partitions ≡ core.partitions → core'.requests ≡ core.requests → Accounts core' accepted (with_one s taken) handed (told ++ told_all (Unsent why) (i ∷ []))
accounts_turned_away why core core' accepted taken handed told s i a l next same_partitions same_requests = record {
  taken_count = length-set taken s (slice_index taken s + 1) ∙ a.taken_count;
  handed_count = a.handed_count ∙ ap length (sym same_partitions);
  senders = λ s'. subst (λ (ts : List Partition). Accepts (length ts) s' (slice_index_or accepted s' []) (slice_index (with_one s taken) s')) (sym same_partitions) (accepts_taken (length core.partitions) s accepted taken i l next a.senders s');
  home = λ p. subst (λ (ts : List Partition). AllByRecursion (λ x. x.partition ≡ p) (untold (partition_at p ts))) (sym same_partitions) (a.home p);
  requests = subst (AllByRecursion HasDistinct) (sym same_requests) a.requests;
  fates = λ s' q h.
      subst (λ (ts : List Partition). Fates (taken_for s' q accepted (with_one s taken)) (of_sender s' (items_queued (partition_at q ts).queue)) (of_sender s' (items_of (handed_at q handed))) (of_sender s' (for_partition q (unsent_among (told ++ told_all (Unsent why) (i ∷ [])))))) (sym same_partitions)
      (subst (λ t. Fates t (of_sender s' (items_queued (partition_at q core.partitions).queue)) (of_sender s' (items_of (handed_at q handed))) (of_sender s' (for_partition q (unsent_among (told ++ told_all (Unsent why) (i ∷ [])))))) (sym (taken_more (length core.partitions) s accepted taken i l next s' q))
      (subst (λ u. Fates (taken_for s' q accepted taken ++ picked s' q i) (of_sender s' (items_queued (partition_at q core.partitions).queue)) (of_sender s' (items_of (handed_at q handed))) u) (sym (ap (λ r. of_sender s' (for_partition q r)) (unsent-append told (told_all (Unsent why) (i ∷ []))) ∙ both-append s' q (unsent_among told) (i ∷ [])))
      (more_turned s' q i (taken_for s' q accepted taken) (of_sender s' (items_queued (partition_at q core.partitions).queue)) (of_sender s' (items_of (handed_at q handed))) (of_sender s' (for_partition q (unsent_among told)))
      (number_for (length core.partitions) s accepted taken i next s' q) (a.fates s' q (within q h)))));
  weights = λ f.
      let before : weigh f (items_told told) + weigh f (flat_map untold core.partitions) ≡ weigh f (all_taken accepted taken) = a.weights f in
      let one : weigh f (items_told (told ++ told_all (Unsent why) (i ∷ []))) ≡ weigh f (items_told told) + (f i + 0) = items_told-append f told (told_all (Unsent why) (i ∷ [])) in
      let more : weigh f (all_taken accepted (with_one s taken)) ≡ weigh f (all_taken accepted taken) + f i = weigh_taken f (length core.partitions) s accepted taken i l a.taken_count next in
      let same : weigh f (flat_map untold core'.partitions) ≡ weigh f (flat_map untold core.partitions) = ap (λ (ts : List Partition). weigh f (flat_map untold ts)) same_partitions in
      omega (arith, before, one, more, same);
}
  where
    within : (p : ℕ) → p < length core'.partitions → p < length core.partitions
    within p h = subst (λ (ts : List Partition). p < length ts) same_partitions h

-- ---- queued

queued_with : (c : Config) (i : Item) (q : List Pending) → items_queued (with_item c i q) ≡ items_queued q ++ i ∷ []
unfolding with_item
queued_with c i [] = refl
queued_with c i (b ∷ []) = at_test (joins c i b)
  where
    at_test : (join : Bool) → items_queued (if join then joined_by i b ∷ [] else b ∷ begun_by i ∷ []) ≡ (b.items ++ []) ++ i ∷ []
    at_test true = append-nil (b.items ++ i ∷ []) ∙ ap (λ r. r ++ i ∷ []) (sym (append-nil b.items))
    at_test false = ap (λ r. r ++ i ∷ []) (sym (append-nil b.items))
queued_with c i (b ∷ b' ∷ q) = ap (λ r. b.items ++ r) (queued_with c i (b' ∷ q)) ∙ sym (append_assoc b.items (items_queued (b' ∷ q)) (i ∷ []))

home_queued : (c : Config) (i : Item) (t : Partition) (p : ℕ) → i.partition ≡ p → AllByRecursion (λ x. x.partition ≡ p) (untold t) → AllByRecursion (λ x. x.partition ≡ p) (untold (enqueue c i t))
unfolding untold
home_queued c i t p e h =
    subst (AllByRecursion (λ (x : Item). x.partition ≡ p)) (append_assoc (items_open t.open_batches) (items_queued t.queue) (i ∷ []) ∙ ap (λ r. items_open t.open_batches ++ r) (sym (queued_with c i t.queue)))
    (all_append (λ (x : Item). x.partition ≡ p) (items_open t.open_batches ++ items_queued t.queue) (i ∷ []) h (e, tt))

weigh_queued : (f : Item → ℕ) (c : Config) (i : Item) (t : Partition) → weigh f (untold (enqueue c i t)) ≡ weigh f (untold t) + f i
unfolding untold
weigh_queued f c i t =
    let queue : weigh f (items_queued (with_item c i t.queue)) ≡ weigh f (items_queued t.queue) + (f i + 0) = ap (weigh f) (queued_with c i t.queue) ∙ weigh-append f (items_queued t.queue) (i ∷ []) in
    let a : weigh f (items_open t.open_batches ++ items_queued (with_item c i t.queue)) ≡ weigh f (items_open t.open_batches) + weigh f (items_queued (with_item c i t.queue)) = weigh-append f (items_open t.open_batches) (items_queued (with_item c i t.queue)) in
    let b : weigh f (items_open t.open_batches ++ items_queued t.queue) ≡ weigh f (items_open t.open_batches) + weigh f (items_queued t.queue) = weigh-append f (items_open t.open_batches) (items_queued t.queue) in
    omega (arith, queue, a, b)

-- its core with the item in its partition's queue, as a change of several partitions
abbrev changed_by : Item → Core → Core
changed_by i core = record core { partitions = changed_at (i.partition ∷ []) (λ p t. enqueue core.config i t) core.partitions }

accounts_changed : (core : Core) (accepted : List (List Item)) (taken : List ℕ) (handed : List (List HandedBatch)) (told : List Told) (s : ℕ) (i : Item)
    → Accounts core accepted taken handed told → s < length taken → IsNext (length core.partitions) s accepted taken i → Accounts (changed_by i core) accepted (with_one s taken) handed told
accounts_changed core accepted taken handed told s i a l next = record {
  taken_count = length-set taken s (slice_index taken s + 1) ∙ a.taken_count;
  handed_count = a.handed_count ∙ sym count;
  senders = λ s'. subst (λ (n : ℕ). Accepts n s' (slice_index_or accepted s' []) (slice_index (with_one s taken) s')) (sym count) (accepts_taken (length core.partitions) s accepted taken i l next a.senders s');
  home = home_past (changed_by i core).partitions (λ p h. subst (λ (t : Partition). AllByRecursion (λ x. x.partition ≡ p) (untold t)) (sym (changed p (within p h))) (at_home p (i.partition == p) refl));
  requests = a.requests;
  fates = λ s' q h.
      subst (λ t. Fates t (of_sender s' (items_queued (partition_at q (changed_by i core).partitions).queue)) (of_sender s' (items_of (handed_at q handed))) (of_sender s' (for_partition q (unsent_among told)))) (sym (taken_more (length core.partitions) s accepted taken i l next s' q))
      (subst (λ w. Fates (taken_for s' q accepted taken ++ picked s' q i) w (of_sender s' (items_of (handed_at q handed))) (of_sender s' (for_partition q (unsent_among told)))) (sym (queue s' q (within q h)))
      (more_queued s' q i (taken_for s' q accepted taken) (of_sender s' (items_queued (partition_at q core.partitions).queue)) (of_sender s' (items_of (handed_at q handed))) (of_sender s' (for_partition q (unsent_among told)))
      (number_for (length core.partitions) s accepted taken i next s' q) (a.fates s' q (within q h))));
  weights = λ f.
      let before : weigh f (items_told told) + weigh f (flat_map untold core.partitions) ≡ weigh f (all_taken accepted taken) = a.weights f in
      let more : weigh f (all_taken accepted (with_one s taken)) ≡ weigh f (all_taken accepted taken) + f i = weigh_taken f (length core.partitions) s accepted taken i l a.taken_count next in
      let queue_more : weigh f (flat_map untold (changed_by i core).partitions) ≡ weigh f (flat_map untold core.partitions) + f i =
      weigh_more f (f i) (new_partition 0) core.partitions (changed_by i core).partitions i.partition count next.known (one_more f) (λ p h ne. ap (weigh f) (ap untold (changed p h ∙ ap (λ (b : Bool). if b || false then enqueue core.config i (partition_at p core.partitions) else partition_at p core.partitions) (ne_eqb i.partition p (λ (e : i.partition ≡ p). ne (sym e)))))) in
      omega (arith, before, more, queue_more);
}
  where
    count : length (changed_at (i.partition ∷ []) (λ p t. enqueue core.config i t) core.partitions) ≡ length core.partitions
    count = length-changed_at (i.partition ∷ []) (λ p t. enqueue core.config i t) core.partitions

    within : (p : ℕ) → p < length (changed_at (i.partition ∷ []) (λ p t. enqueue core.config i t) core.partitions) → p < length core.partitions
    within p h = subst (λ (n : ℕ). p < n) (length-changed_at (i.partition ∷ []) (λ p t. enqueue core.config i t) core.partitions) h

    changed : (p : ℕ) → p < length core.partitions → partition_at p (changed_at (i.partition ∷ []) (λ p t. enqueue core.config i t) core.partitions)
        ≡ (if is_in p (i.partition ∷ []) then enqueue core.config i (partition_at p core.partitions) else partition_at p core.partitions)
    changed p h = at-changed_at (i.partition ∷ []) (λ p t. enqueue core.config i t) core.partitions p h

    one_more : (f : Item → ℕ) → weigh f (untold (partition_at i.partition (changed_at (i.partition ∷ []) (λ p t. enqueue core.config i t) core.partitions))) ≡ weigh f (untold (partition_at i.partition core.partitions)) + f i
    one_more f = ap (weigh f) (ap untold (changed i.partition next.known ∙ ap (λ (b : Bool). if b || false then enqueue core.config i (partition_at i.partition core.partitions) else partition_at i.partition core.partitions) (eq-eqb i.partition i.partition refl))) ∙ weigh_queued f core.config i (partition_at i.partition core.partitions)

    at_home : (p : ℕ) (b : Bool) → (i.partition == p) ≡ b → AllByRecursion (λ x. x.partition ≡ p) (untold (if b || false then enqueue core.config i (partition_at p core.partitions) else partition_at p core.partitions))
    at_home p true is = home_queued core.config i (partition_at p core.partitions) p (eqb-true i.partition p is) (a.home p)
    at_home p false is = a.home p

    queue_of : (s' q : ℕ) (b : Bool) → (i.partition == q) ≡ b
        → of_sender s' (items_queued (if b || false then enqueue core.config i (partition_at q core.partitions) else partition_at q core.partitions).queue) ≡ of_sender s' (items_queued (partition_at q core.partitions).queue) ++ picked s' q i
    queue_of s' q true is =
        ap (of_sender s') (queued_with core.config i (partition_at q core.partitions).queue) ∙ sender-append s' (items_queued (partition_at q core.partitions).queue) (i ∷ [])
        ∙ ap (λ r. of_sender s' (items_queued (partition_at q core.partitions).queue) ++ of_sender s' r) (sym (for_one q i true is))
    queue_of s' q false is = sym (ap (λ r. of_sender s' (items_queued (partition_at q core.partitions).queue) ++ r) (picked_other s' q i is) ∙ append-nil (of_sender s' (items_queued (partition_at q core.partitions).queue)))

    queue : (s' q : ℕ) → q < length core.partitions → of_sender s' (items_queued (partition_at q (changed_at (i.partition ∷ []) (λ p t. enqueue core.config i t) core.partitions)).queue)
        ≡ of_sender s' (items_queued (partition_at q core.partitions).queue) ++ picked s' q i
    queue s' q h = ap (λ (t : Partition). of_sender s' (items_queued t.queue)) (at-changed_at (i.partition ∷ []) (λ p t. enqueue core.config i t) core.partitions q h) ∙ queue_of s' q (i.partition == q) refl

pub accounts_queued : (core : Core) (accepted : List (List Item)) (taken : List ℕ) (handed : List (List HandedBatch)) (told : List Told) (s : ℕ) (i : Item)
    → Accounts core accepted taken handed told → s < length taken → IsNext (length core.partitions) s accepted taken i → Accounts (with_queued i core) accepted (with_one s taken) handed told
accounts_queued core accepted taken handed told s i a l next =
    subst (λ (ts : List Partition). Accounts (record core { partitions = ts }) accepted (with_one s taken) handed told) (sym (one_changed i.partition (enqueue core.config i) core.partitions))
    (accounts_changed core accepted taken handed told s i a l next)
