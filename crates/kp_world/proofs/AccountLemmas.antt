-- What holds of every world: of each sender and partition, what was taken is accounted for.
use Rattle.kp_world.proofs.TellingLemmas.{HasDistinct}
use Rattle.std.proofs.Common.{◌≡◌, ℕ, ◌+◌, ◌<◌, ◌≤◌, Bool, true, false, cond, List, [], ◌∷◌, ◌++◌, length, take, map, refl, sym, ap, ◌∙◌, subst, arith}
use Rattle.std.specs.Prelude.{flat_map, slice_index, slice_index_or, ◌==◌}
use Rattle.std.specs.List.{AllByRecursion, filter, range_with_len}
use Rattle.std.proofs.lemmas.List.{append-nil, map-append}
use Rattle.std.proofs.lemmas.List.Concat.{flat_map-append}
use Rattle.std.proofs.lemmas.List.Elements.{filter-append}
use Rattle.kp_accum.specs.declared.item.Item.{Item}
use Rattle.kp_rules.specs.Partitions.{partition_at, items_queued, untold}
use Rattle.kp_rules.specs.Records.{HandedBatch, Core, Told}
use Rattle.kp_world.specs.Facts.{told_in}
use Rattle.kp_world.specs.Accepting.{for_partition}
use Rattle.kp_world.specs.Accounts.{of_sender, items_of, unsent_among, is_unsent}
use Rattle.kp_world.specs.Client.{handed_at}
use Rattle.kp_world.specs.Line.{Line}
use Rattle.kp_world.specs.Noting.{noted}
use Rattle.kp_world.specs.World.{World, Happened}
use Rattle.kp_world.proofs.ConservationLemmas.{items_told, unsent-append}
use Rattle.kp_world.proofs.FateLemmas.{AreNumbered, Fates, fates_given_up}
use Rattle.kp_world.proofs.TellingLemmas.{told_for, AtHome, home_past, CoreTells, core_weighs}
use Rattle.kp_world.proofs.WeightLemmas.{weigh, weigh-append}

-- ---- what holds

-- a sender's items that were taken
abbrev pub taken_of : List (List Item) → List ℕ → ℕ → List Item
taken_of accepted taken s = take (slice_index taken s) (slice_index_or accepted s [])

-- a sender's items for a partition that were taken
abbrev pub taken_for : ℕ → ℕ → List (List Item) → List ℕ → List Item
taken_for s p accepted taken = for_partition p (taken_of accepted taken s)

-- all items that were taken
abbrev pub all_taken : List (List Item) → List ℕ → List Item
all_taken accepted taken = flat_map (taken_of accepted taken) (range_with_len 0 (length accepted))

-- a sender's items for so many partitions, of which so many were taken
pub record Accepts (n s : ℕ) (items : List Item) (taken : ℕ) : Type 0 where
  pub within : taken ≤ length items
  pub known : AllByRecursion (λ i. i.partition < n) items
  pub own : AllByRecursion (λ i. i.sender ≡ s) items
  pub numbered : (p : ℕ) → AreNumbered 0 (for_partition p items)

pub record Accounts (core : Core) (accepted : List (List Item)) (taken : List ℕ) (handed : List (List HandedBatch)) (told : List Told) : Type 0 where
  pub taken_count : length taken ≡ length accepted
  pub handed_count : length handed ≡ length core.partitions
  pub senders : (s : ℕ) → Accepts (length core.partitions) s (slice_index_or accepted s []) (slice_index taken s)
  pub home : AtHome core.partitions
  pub requests : AllByRecursion HasDistinct core.requests
  pub fates : (s p : ℕ) → p < length core.partitions
      → Fates (taken_for s p accepted taken) (of_sender s (items_queued (partition_at p core.partitions).queue)) (of_sender s (items_of (handed_at p handed))) (of_sender s (for_partition p (unsent_among told)))
  pub weights : (f : Item → ℕ) → weigh f (items_told told) + weigh f (flat_map untold core.partitions) ≡ weigh f (all_taken accepted taken)

abbrev pub IsAccounted : World → Type 0
IsAccounted w = Accounts w.core w.accepted w.taken w.handed (told_in w.past)

-- ---- by sender and partition

pub sender-append : (s : ℕ) (a b : List Item) → of_sender s (a ++ b) ≡ of_sender s a ++ of_sender s b
sender-append s a b = filter-append (λ (i : Item). i.sender == s) a b

pub partition-append : (p : ℕ) (a b : List Item) → for_partition p (a ++ b) ≡ for_partition p a ++ for_partition p b
partition-append p a b = filter-append (λ (i : Item). i.partition == p) a b

pub both-append : (s p : ℕ) (a b : List Item) → of_sender s (for_partition p (a ++ b)) ≡ of_sender s (for_partition p a) ++ of_sender s (for_partition p b)
both-append s p a b = ap (of_sender s) (partition-append p a b) ∙ sender-append s (for_partition p a) (for_partition p b)

-- the items of a partition that were told Unsent
unsent_for : (p : ℕ) (told : List Told) → for_partition p (unsent_among told) ≡ unsent_among (told_for p told)
unsent_for p [] = refl
unsent_for p (t ∷ told) = at_tests (is_unsent t.outcome) (t.item.partition == p) refl refl (unsent_for p told)
  where
    at_tests : (a b : Bool) → is_unsent t.outcome ≡ a → (t.item.partition == p) ≡ b
        → for_partition p (unsent_among told) ≡ unsent_among (told_for p told)
        → for_partition p (map (λ (x : Told). x.item) (cond (is_unsent t.outcome) (t ∷ filter (λ (x : Told). is_unsent x.outcome) told) (filter (λ (x : Told). is_unsent x.outcome) told)))
        ≡ unsent_among (cond (t.item.partition == p) (t ∷ filter (λ (x : Told). x.item.partition == p) told) (filter (λ (x : Told). x.item.partition == p) told))
    at_tests true true x y e = rw (x, y, x) (ap (λ r. t.item ∷ r) e)
    at_tests true false x y e = rw (x, y) e
    at_tests false true x y e = rw (x, y, x) e
    at_tests false false x y e = rw (x, y) e

-- ---- a call on the core

pub items_told-append : (f : Item → ℕ) (a b : List Told) → weigh f (items_told (a ++ b)) ≡ weigh f (items_told a) + weigh f (items_told b)
items_told-append f a b = ap (weigh f) (map-append (λ (t : Told). t.item) a b) ∙ weigh-append f (items_told a) (items_told b)

pub accounts_core : (core : Core) (accepted : List (List Item)) (taken : List ℕ) (handed : List (List HandedBatch)) (told more : List Told) (core' : Core)
    → Accounts core accepted taken handed told → CoreTells core more core' → Accounts core' accepted taken handed (told ++ more)
accounts_core core accepted taken handed told more core' a k = record {
  taken_count = a.taken_count;
  handed_count = a.handed_count ∙ sym k.count;
  senders = λ s. subst (λ (n : ℕ). Accepts n s (slice_index_or accepted s []) (slice_index taken s)) (sym k.count) (a.senders s);
  home = home_past core'.partitions (λ p l. (k.each p (within p l)).left_from (λ i. i.partition ≡ p) (a.home p));
  requests = k.requests HasDistinct a.requests;
  fates = λ s p l.
      let here = within p l in
      let front = unsent_among (told_for p more) in
      let back = items_queued (partition_at p core'.partitions).queue in
      let queue : of_sender s (items_queued (partition_at p core.partitions).queue) ≡ of_sender s front ++ of_sender s back =
      ap (of_sender s) (k.each p here).queue ∙ sender-append s (unsent_among (told_for p more)) (items_queued (partition_at p core'.partitions).queue) in
      let grown : of_sender s (for_partition p (unsent_among told)) ++ of_sender s front ≡ of_sender s (for_partition p (unsent_among (told ++ more))) =
      sym (ap (λ r. of_sender s (for_partition p r)) (unsent-append told more) ∙ both-append s p (unsent_among told) (unsent_among more) ∙ ap (λ r. of_sender s (for_partition p (unsent_among told)) ++ of_sender s r) (unsent_for p more)) in
      subst (Fates (taken_for s p accepted taken) (of_sender s back) (of_sender s (items_of (handed_at p handed)))) grown
      (fates_given_up (taken_for s p accepted taken) (of_sender s front) (of_sender s back) (of_sender s (items_of (handed_at p handed))) (of_sender s (for_partition p (unsent_among told)))
      (subst (λ q. Fates (taken_for s p accepted taken) q (of_sender s (items_of (handed_at p handed))) (of_sender s (for_partition p (unsent_among told)))) queue (a.fates s p here)));
  weights = λ f.
      let before : weigh f (items_told told) + weigh f (flat_map untold core.partitions) ≡ weigh f (all_taken accepted taken) = a.weights f in
      let call : weigh f (items_told more) + weigh f (flat_map untold core'.partitions) ≡ weigh f (flat_map untold core.partitions) = core_weighs core more core' k f in
      let all : weigh f (items_told (told ++ more)) ≡ weigh f (items_told told) + weigh f (items_told more) = items_told-append f told more in
      omega (arith, before, call, all);
}
  where
    within : (p : ℕ) → p < length core'.partitions → p < length core.partitions
    within p l = subst (λ (n : ℕ). p < n) k.count l

-- ---- how it is noted

pub told_noted : (past : List Happened) (h : Happened) → told_in (past ++ h ∷ []) ≡ told_in past ++ h.told
told_noted past h = flat_map-append (λ (x : Happened). x.told) past (h ∷ []) ∙ ap (λ r. told_in past ++ r) (append-nil h.told)

pub accounts_noted : (core : Core) (answer : List Line) (told : List Told) (w : World)
    → Accounts core w.accepted w.taken w.handed (told_in w.past ++ told) → IsAccounted (noted core answer told w)
unfolding noted
accounts_noted core answer told w a = subst (Accounts core w.accepted w.taken w.handed) (sym (told_noted w.past _)) a

pub accounts_only : (core : Core) (answer : List Line) (w : World) → Accounts core w.accepted w.taken w.handed (told_in w.past) → IsAccounted (noted core answer [] w)
accounts_only core answer w a =
    accounts_noted core answer [] w (subst (Accounts core w.accepted w.taken w.handed) (sym (append-nil (told_in w.past))) a)

pub accounts_call : (core : Core) (answer : List Line) (told : List Told) (w : World) → IsAccounted w → CoreTells w.core told core → IsAccounted (noted core answer told w)
accounts_call core answer told w a k = accounts_noted core answer told w (accounts_core w.core w.accepted w.taken w.handed (told_in w.past) told core a k)
