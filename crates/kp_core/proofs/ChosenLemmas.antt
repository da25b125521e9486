-- A rule at some partitions, one after the other, each of them once.
use Rattle.std.proofs.Common.{◌≡◌, ◌∙◌, ℕ, ◌<◌, false, List, [], ◌∷◌, ◌++◌, length, map, set, refl, sym, ap, subst, arith}
use Rattle.std.specs.Prelude.{flat_map}
use Rattle.std.specs.List.{AllByRecursion}
use Rattle.std.proofs.lemmas.List.{length-set}
use Rattle.kp_rules.specs.InOrder.{AreDistinct}
use Rattle.kp_rules.specs.Partitions.{changed_at, is_in, partition_at}
use Rattle.kp_rules.specs.Records.{Partition, Effect, Told}
use Rattle.kp_rules.proofs.PartitionLemmas.{changed_first, changed_none, others_same}
use Rattle.kp_parts.specs.Desk.{Desk, Covers, tell_desk}
use Rattle.kp_parts.proofs.DeskLemmas.{covers-left, covers-right, tell_desk-append}
use Rattle.kp_parts.proofs.TellingLemmas.{tell_desk-nil}

-- ---- the others are as they were

-- what is true of each other partition is true of it still
pub others_all : (P : ℕ → Partition → Type 0) (p : ℕ) (v : Partition) (ps : List ℕ) (ts : List Partition) → is_in p ps ≡ false
    → AllByRecursion (λ q. P q (partition_at q ts)) ps → AllByRecursion (λ q. P q (partition_at q (set ts p v))) ps
others_all P p v ps ts once all = from_pairs ps (subst AllPairs (sym (others_same (λ q t. (q, t)) p v ps ts once)) (to_pairs ps all))
  where
    AllPairs : List (ℕ × Partition) → Type 0
    AllPairs xs = AllByRecursion (λ x. P x.0 x.1) xs

    to_pairs : (qs : List ℕ) → AllByRecursion (λ q. P q (partition_at q ts)) qs → AllPairs (map (λ q. (q, partition_at q ts)) qs)
    to_pairs [] h = tt
    to_pairs (q ∷ qs) h = (h.0, to_pairs qs h.1)

    from_pairs : (qs : List ℕ) → AllPairs (map (λ q. (q, partition_at q (set ts p v))) qs) → AllByRecursion (λ q. P q (partition_at q (set ts p v))) qs
    from_pairs [] h = tt
    from_pairs (q ∷ qs) h = (h.0, from_pairs qs h.1)

pub there_still : (p : ℕ) (v : Partition) (ps : List ℕ) (ts : List Partition) → AllByRecursion (λ q. q < length ts) ps
    → AllByRecursion (λ q. q < length (set ts p v)) ps
there_still p v [] ts h = tt
there_still p v (q ∷ ps) ts h = let here : q < length ts = h.0 in (omega (arith, here, length-set ts p v), there_still p v ps ts h.1)

told_same : (g : ℕ → Partition → List Told) (p : ℕ) (v : Partition) (ps : List ℕ) (ts : List Partition) → is_in p ps ≡ false
    → flat_map (λ q. g q (partition_at q (set ts p v))) ps ≡ flat_map (λ q. g q (partition_at q ts)) ps
told_same g p v ps ts once = joined ps (set ts p v) ∙ ap joined_lists (others_same g p v ps ts once) ∙ sym (joined ps ts)
  where
    joined_lists : List (List Told) → List Told
    joined_lists xs = flat_map (λ x. x) xs

    joined : (qs : List ℕ) (us : List Partition) → flat_map (λ q. g q (partition_at q us)) qs ≡ joined_lists (map (λ q. g q (partition_at q us)) qs)
    joined [] us = refl
    joined (q ∷ qs) us = ap (λ (rest : List Told). g q (partition_at q us) ++ rest) (joined qs us)

-- ---- the rule

-- The rule is still to be followed at these partitions, and then it is so at all that were chosen; the desk has told of
-- those before.
pub record IsToFollow (rule : ℕ → Partition → Effect) (chosen : List ℕ) (before : List Partition) (old : Desk)
    (ps : List ℕ) (ts : List Partition) (d : Desk) : Type 0 where
  pub count : length ts ≡ length before
  pub there : AllByRecursion (λ p. p < length ts) ps
  pub once : AreDistinct ps
  pub changed : changed_at ps (λ p t. (rule p t).after) ts ≡ changed_at chosen (λ p t. (rule p t).after) before
  pub says : tell_desk (flat_map (λ p. (rule p (partition_at p ts)).told) ps) d
      ≡ tell_desk (flat_map (λ p. (rule p (partition_at p before)).told) chosen) old
  pub covers : Covers d (flat_map (λ p. (rule p (partition_at p ts)).told) ps)

pub covers_chosen : {rule : ℕ → Partition → Effect} {chosen : List ℕ} {before : List Partition} {old : Desk} {p : ℕ} {ps : List ℕ} {ts : List Partition} {d : Desk}
    → IsToFollow rule chosen before old (p ∷ ps) ts d → Covers d (rule p (partition_at p ts)).told
covers_chosen {rule} {p = p} {ps = ps} {ts = ts} {d = d} f =
    covers-left (rule p (partition_at p ts)).told (flat_map (λ q. (rule q (partition_at q ts)).told) ps) d f.covers

pub follow_next : {rule : ℕ → Partition → Effect} {chosen : List ℕ} {before : List Partition} {old : Desk} {p : ℕ} {ps : List ℕ} {ts : List Partition} {d : Desk}
    (us : List Partition) (e : Desk) → us ≡ set ts p (rule p (partition_at p ts)).after → e ≡ tell_desk (rule p (partition_at p ts)).told d
    → IsToFollow rule chosen before old (p ∷ ps) ts d → IsToFollow rule chosen before old ps us e
follow_next {rule} {chosen} {before} {old} {p} {ps} {ts} {d} us e next tells f =
    subst (λ (xs : List Partition). IsToFollow rule chosen before old ps xs e) (sym next)
    (subst (λ (x : Desk). IsToFollow rule chosen before old ps after x) (sym tells) there)
  where
    after : List Partition
    after = set ts p (rule p (partition_at p ts)).after

    told : List Told
    told = (rule p (partition_at p ts)).told

    rest : List Told
    rest = flat_map (λ q. (rule q (partition_at q ts)).told) ps

    same : flat_map (λ q. (rule q (partition_at q after)).told) ps ≡ rest
    same = told_same (λ q t. (rule q t).told) p (rule p (partition_at p ts)).after ps ts f.once.0

    there : IsToFollow rule chosen before old ps after (tell_desk told d)
    there = record {
      count = length-set ts p _ ∙ f.count;
      there = there_still p _ ps ts f.there.1;
      once = f.once.1;
      changed = sym (changed_first p ps (λ q t. (rule q t).after) ts f.there.0 f.once.0) ∙ f.changed;
      says = ap (λ (xs : List Told). tell_desk xs (tell_desk told d)) same ∙ sym (tell_desk-append told rest d) ∙ f.says;
      covers = subst (Covers (tell_desk told d)) (sym same) (covers-right told rest d f.covers);
    }

pub follow_none : {rule : ℕ → Partition → Effect} {chosen : List ℕ} {before : List Partition} {old : Desk} {ts : List Partition} {d : Desk}
    → IsToFollow rule chosen before old [] ts d
    → (ts ≡ changed_at chosen (λ p t. (rule p t).after) before) × (d ≡ tell_desk (flat_map (λ p. (rule p (partition_at p before)).told) chosen) old)
follow_none {rule} {ts = ts} {d = d} f = (sym (changed_none (λ p t. (rule p t).after) ts) ∙ f.changed, sym (tell_desk-nil d) ∙ f.says)

-- ---- a change of which nothing is told

-- The change is still to be made at these partitions, and then it is so at all that were chosen.
pub record IsToChange (change : Partition → Partition) (chosen : List ℕ) (before : List Partition) (ps : List ℕ) (ts : List Partition) : Type 0 where
  pub there : AllByRecursion (λ p. p < length ts) ps
  pub once : AreDistinct ps
  pub changed : changed_at ps (λ p t. change t) ts ≡ changed_at chosen (λ p t. change t) before

pub change_next : {change : Partition → Partition} {chosen : List ℕ} {before : List Partition} {p : ℕ} {ps : List ℕ} {ts : List Partition} (us : List Partition)
    → us ≡ set ts p (change (partition_at p ts)) → IsToChange change chosen before (p ∷ ps) ts → IsToChange change chosen before ps us
change_next {change} {chosen} {before} {p} {ps} {ts} us next f = subst (IsToChange change chosen before ps) (sym next) (record {
  there = there_still p _ ps ts f.there.1;
  once = f.once.1;
  changed = sym (changed_first p ps (λ q t. change t) ts f.there.0 f.once.0) ∙ f.changed;
})

pub change_none : {change : Partition → Partition} {chosen : List ℕ} {before : List Partition} {ts : List Partition} → IsToChange change chosen before [] ts
    → ts ≡ changed_at chosen (λ p t. change t) before
change_none {change} {ts = ts} f = sym (changed_none (λ p t. change t) ts) ∙ f.changed
