-- How a partition fares in a call on the core by which no batch goes out and no id is given: it keeps its audit and its
-- ids, its first batch under an id is acknowledged only where its items are told so, and what a flush waits for is told
-- or is waited for still.
use Rattle.std.proofs.Common.{◌≡◌, ◌⊎◌, ℕ, ◌+◌, ◌≤◌, Bool, true, false, not, cond, List, [], ◌∷◌, ◌++◌, map, ℤ, pos, ◌+ℤ◌, Some, refl, sym, ap, ◌∙◌, subst, inl, inr, ⊎_elim, arith}
use Rattle.std.specs.Prelude.{if◌then◌else◌, find, flat_map, ◌||◌}
use Rattle.std.specs.List.{AllByRecursion, enumerate_from}
use Rattle.kp_accum.specs.declared.config.Config.{Config}
use Rattle.kp_accum.specs.declared.item.Item.{Item}
use Rattle.kp_accum.specs.Queue.{Pending, joins, joined_by, begun_by, with_item, marked_by_flush}
use Rattle.kp_accum.specs.Ready.{is_late}
use Rattle.kp_frames.specs.declared.produce.PartitionProduceResponse.{PartitionProduceResponse}
use Rattle.kp_log.proofs.PlaceLemmas.{In, In-nil, In-cons, In-head, In-tail, In-append_left, In-append_right, In-append_cases, In-filter}
use Rattle.kp_rules.specs.Leading.{led_by}
use Rattle.kp_rules.specs.declared.attempt.Attempt.TheVariants.{Waiting}
use Rattle.kp_rules.specs.declared.meaning.Meaning.{Meaning}
use Rattle.kp_rules.specs.declared.meaning.Meaning.TheVariants.{Stored, Duplicate, Retry, Reject}
use Rattle.kp_rules.specs.declared.outcome.Outcome.{Outcome}
use Rattle.kp_rules.specs.declared.outcome.Outcome.TheVariants.{Delivered, DeliveredNoOffset, Rejected, Unsent}
use Rattle.kp_rules.specs.declared.outcome.Reason.{Reason}
use Rattle.kp_rules.specs.declared.outcome.Reason.TheVariants as reason
use Rattle.kp_rules.specs.Appending.{enqueue}
use Rattle.kp_rules.specs.Attempts.{awaits, awaiting, is_waiting}
use Rattle.kp_rules.specs.Dropping.{drop_attempt, drop_attempts, drop_led}
use Rattle.kp_rules.specs.Fence.{fence, give_up}
use Rattle.kp_rules.specs.Flush.{mark_open, mark}
use Rattle.kp_rules.specs.HandingOver.{again_in, opened_in, hand_over_in, send_again_in}
use Rattle.kp_rules.specs.Partitions.{items_open, items_queued}
use Rattle.kp_rules.specs.Records.{HandedBatch, Open, Partition, Told}
use Rattle.kp_rules.specs.Settling.{without_attempt, put_off, is_first_under_id, meaning_of, acknowledge, settle_by}
use Rattle.kp_rules.specs.Telling.{told_all, told_offsets}
use Rattle.kp_rules.specs.Tick.{late_front, behind_late, expire_front, heed_deadlines}
use Rattle.kp_rules.proofs.CallLemmas.{at_entries, at_heed, by_entries, at_led, at_moved}
use Rattle.kp_world.proofs.ConservationLemmas.{items_told, told_all_items, told_offsets_items, given_up_items, attempt_count}
use Rattle.kp_world.proofs.FlightLemmas.{sent_again_in}
use Rattle.kp_world.proofs.KeepingLemmas.{same_waiting}
use Rattle.kp_rules.proofs.ListLemmas.{all_weaker}
use Rattle.kp_world.proofs.ListLemmas.{In-map, all_at, all_in, found_in}
use Rattle.kp_world.proofs.WeightLemmas.{none_counted}

-- ---- lists of lists

pub in_flat : {A B : Type 0} (g : A → List B) (xs : List A) (x : A) (y : B) → In x xs → In y (g x) → In y (flat_map g xs)
in_flat g [] x y i j = absurd (In-nil x i)
in_flat {B = B} g (z ∷ xs) x y i j = ⊎_elim
    (λ (same : x ≡ z). In-append_left y (g z) (flat_map g xs) (subst (λ w. In y (g w)) same j))
    (λ (k : In x xs). In-append_right y (g z) (flat_map g xs) (in_flat g xs x y k j))
    (In-cons x z xs i)

pub from_flat : {A B : Type 0} (g : A → List B) (xs : List A) (y : B) → In y (flat_map g xs) → (x : A) × In x xs × In y (g x)
from_flat g [] y i = absurd (In-nil y i)
from_flat {A = A} g (z ∷ xs) y i = ⊎_elim
    (λ (j : In y (g z)). (z, In-head z xs, j))
    (λ (j : In y (flat_map g xs)). let k = from_flat g xs y j in (k.0, In-tail k.0 z xs k.1, k.2))
    (In-append_cases y (g z) (flat_map g xs) i)

-- ---- what a flush waits for

pub record OpenMarked (os : List Open) (i : Item) : Type 0 where
  pub it : Open
  pub there : In it os
  pub is_marked : it.marked ≡ true
  pub has : In i it.batch.items

pub record QueueMarked (q : List Pending) (i : Item) : Type 0 where
  pub it : Pending
  pub there : In it q
  pub is_marked : it.marked ≡ true
  pub has : In i it.items

-- the item is in a marked batch
abbrev pub IsMarked : Partition → Item → Type 0
IsMarked t i = OpenMarked t.open_batches i ⊎ QueueMarked t.queue i

-- marked items stay so, or are told
abbrev MarksStay : Partition → List Told → Partition → Type 0
MarksStay t told t' = (i : Item) → IsMarked t i → IsMarked t' i ⊎ In i (items_told told)

-- each open batch as it was, but for its attempt
record Similar (f : Open → Open) : Type 0 where
  pub batch : (o : Open) → (f o).batch ≡ o.batch
  pub marked : (o : Open) → o.marked ≡ true → (f o).marked ≡ true

open_mapped : (f : Open → Open) → Similar f → (os : List Open) (i : Item) → OpenMarked os i → OpenMarked (map f os) i
open_mapped f a os i m = record {
  it = f m.it;
  there = In-map f m.it os m.there;
  is_marked = a.marked m.it m.is_marked;
  has = subst (λ (b : HandedBatch). In i b.items) (sym (a.batch m.it)) m.has;
}

marks_mapped : (f : Open → Open) → Similar f → (t t' : Partition) (told : List Told) → t'.queue ≡ t.queue → t'.open_batches ≡ map f t.open_batches → MarksStay t told t'
marks_mapped f a t t' told queue opens i m = inl (⊎_elim
    (λ (x : OpenMarked t.open_batches i). inl (subst (λ (os : List Open). OpenMarked os i) (sym opens) (open_mapped f a t.open_batches i x)))
    (λ (x : QueueMarked t.queue i). inr (subst (λ (q : List Pending). QueueMarked q i) (sym queue) x))
    m)

-- ---- the first batch under an id

-- the item was told that its record is stored
pub record WasHeard (told : List Told) (i : Item) : Type 0 where
  pub it : Told
  pub there : In it told
  pub item : it.item ≡ i
  pub stored : ((offset : ℤ) × (it.outcome ≡ Delivered offset)) ⊎ (it.outcome ≡ DeliveredNoOffset)

-- the first batch under the present id is open, and all its items were told so
pub record FirstIsHeard (t : Partition) (told : List Told) : Type 0 where
  pub it : Open
  pub there : In it t.open_batches
  pub first : is_first_under_id t it.batch ≡ true
  pub heard : AllByRecursion (WasHeard told) it.batch.items

-- ---- one partition

pub record Fares (t : Partition) (told : List Told) (t' : Partition) : Type 0 where
  pub audit : t'.audit ≡ t.audit
  pub ids : t'.ids ≡ t.ids
  pub heard : t'.acknowledged ≡ true → (t.acknowledged ≡ true) ⊎ FirstIsHeard t told
  pub marks : MarksStay t told t'

heard_more : (told told' : List Told) → ((x : Told) → In x told → In x told') → (i : Item) → WasHeard told i → WasHeard told' i
heard_more told told' more i h = record { it = h.it; there = more h.it h.there; item = h.item; stored = h.stored }

pub all_heard_more : (told told' : List Told) → ((x : Told) → In x told → In x told') → (is : List Item) → AllByRecursion (WasHeard told) is → AllByRecursion (WasHeard told') is
all_heard_more told told' more is h = all_weaker (WasHeard told) (WasHeard told') (heard_more told told' more) is h

items_more : (told told' : List Told) → ((x : Told) → In x told → In x told') → (i : Item) → In i (items_told told) → In i (items_told told')
items_more told told' more i h = let x = from_map told h in subst (λ j. In j (items_told told')) (sym x.2) (In-map (λ (y : Told). y.item) x.0 told' (more x.0 x.1))
  where
    from_map : (ts : List Told) → In i (items_told ts) → (x : Told) × In x ts × (i ≡ x.item)
    from_map [] j = absurd (In-nil i j)
    from_map (x ∷ ts) j = ⊎_elim
        (λ (same : i ≡ x.item). (x, In-head x ts, same))
        (λ (k : In i (items_told ts)). let l = from_map ts k in (l.0, In-tail l.0 x ts l.1, l.2))
        (In-cons i x.item (items_told ts) j)

-- more was told
pub fares_more : (t : Partition) (told told' : List Told) (t' : Partition) → ((x : Told) → In x told → In x told') → Fares t told t' → Fares t told' t'
fares_more t told told' t' more f = record {
  audit = f.audit;
  ids = f.ids;
  heard = λ a. ⊎_elim (λ (b : t.acknowledged ≡ true). inl b) (λ (x : FirstIsHeard t told). inr (record { it = x.it; there = x.there; first = x.first; heard = all_heard_more told told' more x.it.batch.items x.heard })) (f.heard a);
  marks = λ i m. ⊎_elim (λ (x : IsMarked t' i). inl x) (λ (x : In i (items_told told)). inr (items_more told told' more i x)) (f.marks i m);
}

pub fares_same : (t : Partition) (told : List Told) → Fares t told t
fares_same t told = record { audit = refl; ids = refl; heard = λ a. inl a; marks = λ i m. inl m }

-- one rule, and then another that acknowledges nothing
pub fares_then : (t u v : Partition) (told more : List Told) → Fares t told u → v.acknowledged ≡ u.acknowledged → Fares u more v → Fares t (told ++ more) v
fares_then t u v told more f same g =
    let first = fares_more t told (told ++ more) u (λ x i. In-append_left x told more i) f in
    let then_ = fares_more u more (told ++ more) v (λ x i. In-append_right x told more i) g in
    record {
      audit = g.audit ∙ f.audit;
      ids = g.ids ∙ f.ids;
      heard = λ a. first.heard (sym same ∙ a);
      marks = λ i m. ⊎_elim (λ (x : IsMarked u i). then_.marks i x) (λ (x : In i (items_told (told ++ more))). inr x) (first.marks i m);
    }

-- ---- attempts, marks and the queue

pub fares_dropped : (now : ℕ) (t : Partition) → Fares t [] (drop_attempts now t)
fares_dropped now t = record {
  audit = refl;
  ids = refl;
  heard = λ a. inl a;
  marks = marks_mapped (drop_attempt now) (record { batch = λ o. refl; marked = λ o m. m }) t (drop_attempts now t) [] refl refl;
}

pub fares_led : (node now : ℕ) (t : Partition) → Fares t [] (drop_led node now t)
fares_led node now t = at_led (Fares t []) node now t (fares_dropped now t) (fares_same t [])

pub fares_lead : (leader now : ℕ) (t : Partition) → Fares t [] (led_by leader now t)
fares_lead leader now t =
    let dropped = fares_dropped now t in
    at_moved (Fares t []) leader now t (fares_same t []) (record { audit = refl; ids = refl; heard = λ a. inl a; marks = dropped.marks })

queue_mapped : (q : List Pending) (i : Item) → QueueMarked q i → QueueMarked (map marked_by_flush q) i
queue_mapped q i m = record { it = marked_by_flush m.it; there = In-map marked_by_flush m.it q m.there; is_marked = refl; has = m.has }

pub fares_marked : (t : Partition) → Fares t [] (mark t)
fares_marked t = record {
  audit = refl;
  ids = refl;
  heard = λ a. inl a;
  marks = λ i m. inl (⊎_elim
      (λ (x : OpenMarked t.open_batches i). inl (open_mapped mark_open (record { batch = λ o. refl; marked = λ o e. refl }) t.open_batches i x))
      (λ (x : QueueMarked t.queue i). inr (queue_mapped t.queue i x))
      m);
}

queued_stays : (c : Config) (j : Item) (q : List Pending) (i : Item) → QueueMarked q i → QueueMarked (with_item c j q) i
unfolding with_item
queued_stays c j [] i m = absurd (In-nil m.it m.there)
queued_stays c j (b ∷ []) i m = at_test (joins c j b)
  where
    here : m.it ≡ b
    here = ⊎_elim (λ (same : m.it ≡ b). same) (λ (none : In m.it []). absurd (In-nil m.it none)) (In-cons m.it b [] m.there)

    at_test : (join : Bool) → QueueMarked (if join then joined_by j b ∷ [] else b ∷ begun_by j ∷ []) i
    at_test true = record {
      it = joined_by j b;
      there = In-head (joined_by j b) [];
      is_marked = ap (λ (x : Pending). x.marked) (sym here) ∙ m.is_marked;
      has = In-append_left i b.items (j ∷ []) (subst (λ (x : Pending). In i x.items) here m.has);
    }
    at_test false = record { it = m.it; there = subst (λ (x : Pending). In x (b ∷ begun_by j ∷ [])) (sym here) (In-head b (begun_by j ∷ [])); is_marked = m.is_marked; has = m.has }
queued_stays c j (b ∷ b' ∷ q) i m = ⊎_elim
    (λ (same : m.it ≡ b). record { it = m.it; there = subst (λ (x : Pending). In x (b ∷ with_item c j (b' ∷ q))) (sym same) (In-head b (with_item c j (b' ∷ q))); is_marked = m.is_marked; has = m.has })
    (λ (k : In m.it (b' ∷ q)).
    let rest = queued_stays c j (b' ∷ q) i (record { it = m.it; there = k; is_marked = m.is_marked; has = m.has }) in
    record { it = rest.it; there = In-tail rest.it b (with_item c j (b' ∷ q)) rest.there; is_marked = rest.is_marked; has = rest.has })
    (In-cons m.it b (b' ∷ q) m.there)

pub fares_queued : (c : Config) (j : Item) (t : Partition) → Fares t [] (enqueue c j t)
fares_queued c j t = record {
  audit = refl;
  ids = refl;
  heard = λ a. inl a;
  marks = λ i m. inl (⊎_elim (λ (x : OpenMarked t.open_batches i). inl x) (λ (x : QueueMarked t.queue i). inr (queued_stays c j t.queue i x)) m);
}

-- ---- giving up, and expiry

-- all that is not told is told
given_up_told : (why : Reason) (t : Partition) (i : Item) → IsMarked t i → In i (items_told (give_up why t).told)
given_up_told why t i m = subst (λ is. In i is) (sym (given_up_items why t)) (⊎_elim
    (λ (x : OpenMarked t.open_batches i). In-append_left i (items_open t.open_batches) (items_queued t.queue) (in_flat (λ (o : Open). o.batch.items) t.open_batches x.it i x.there x.has))
    (λ (x : QueueMarked t.queue i). In-append_right i (items_open t.open_batches) (items_queued t.queue) (in_flat (λ (b : Pending). b.items) t.queue x.it i x.there x.has))
    m)

pub fares_given_up : (why : Reason) (t : Partition) → Fares t (give_up why t).told (give_up why t).after
unfolding give_up
fares_given_up why t = record { audit = refl; ids = refl; heard = λ a. inl a; marks = λ i m. inr (given_up_told why t i m) }

pub fares_fenced : (t : Partition) → Fares t (fence t).told (fence t).after
unfolding fence give_up
fares_fenced t = record { audit = refl; ids = refl; heard = λ a. inl a; marks = λ i m. inr (given_up_told reason.Fenced t i m) }

fenced_alike : (t : Partition) → (fence t).after.acknowledged ≡ t.acknowledged
unfolding fence give_up
fenced_alike t = refl

late_or_behind : (c : Config) (now : ℕ) (q : List Pending) (b : Pending) → In b q → In b (late_front c now q) ⊎ In b (behind_late c now q)
unfolding late_front behind_late
late_or_behind c now [] b i = absurd (In-nil b i)
late_or_behind c now (x ∷ q) b i = at_test (is_late c now x) (λ j. late_or_behind c now q b j)
  where
    at_test : (late : Bool) → (In b q → In b (late_front c now q) ⊎ In b (behind_late c now q))
        → In b (if late then x ∷ late_front c now q else []) ⊎ In b (if late then behind_late c now q else x ∷ q)
    at_test true rest = ⊎_elim
        (λ (same : b ≡ x). inl (subst (λ (y : Pending). In y (x ∷ late_front c now q)) (sym same) (In-head x (late_front c now q))))
        (λ (j : In b q). ⊎_elim (λ (k : In b (late_front c now q)). inl (In-tail b x (late_front c now q) k)) (λ (k : In b (behind_late c now q)). inr k) (rest j))
        (In-cons b x q i)
    at_test false rest = inr i

pub fares_expired : (c : Config) (now : ℕ) (t : Partition) → Fares t (expire_front c now t).told (expire_front c now t).after
fares_expired c now t = record {
  audit = refl;
  ids = refl;
  heard = λ a. inl a;
  marks = λ i m. ⊎_elim (λ (x : OpenMarked t.open_batches i). inl (inl x)) (λ (x : QueueMarked t.queue i). ⊎_elim (late i x) (λ (j : In x.it (behind_late c now t.queue)). inl (inr (record { it = x.it; there = j; is_marked = x.is_marked; has = x.has }))) (late_or_behind c now t.queue x.it x.there)) m;
}
  where
    late : (i : Item) (x : QueueMarked t.queue i) → In x.it (late_front c now t.queue) → IsMarked (expire_front c now t).after i ⊎ In i (items_told (expire_front c now t).told)
    late i x j = inr (subst (λ is. In i is) (sym (told_all_items (Unsent reason.Expired) (items_queued (late_front c now t.queue)))) (in_flat (λ (b : Pending). b.items) (late_front c now t.queue) x.it i j x.has))

pub fares_passed : (c : Config) (now : ℕ) (t : Partition) → Fares t (heed_deadlines c now t).told (heed_deadlines c now t).after
fares_passed c now t = at_heed (λ e. Fares t e.told e.after) c now t (λ late. fares_fenced t) (fares_expired c now t)

pub passed_alike : (c : Config) (now : ℕ) (t : Partition) → (heed_deadlines c now t).after.acknowledged ≡ t.acknowledged
passed_alike c now t = at_heed (λ e. e.after.acknowledged ≡ t.acknowledged) c now t (λ late. fenced_alike t) refl

-- ---- an answer

-- where only one batch awaits it, that is the one
only_one : (k : ℕ) (os : List Open) (o x : Open) → attempt_count k os ≤ 1 → find (awaits k) os ≡ Some o → In x os → awaits k x ≡ true → x ≡ o
only_one k [] o x one e i is = absurd (In-nil x i)
only_one k (y ∷ os) o x one e i is = at_test (awaits k y) refl one e (λ l e' j. only_one k os o x l e' j is)
  where
    none : attempt_count k os ≡ 0 → In x os → ⊥
    none zero_left j = let no : awaits k x ≡ false = all_at (λ (z : Open). awaits k z ≡ false) os x (none_counted (awaits k) os zero_left) j in let both : true ≡ false = sym is ∙ no in cc

    at_test : (b : Bool) → awaits k y ≡ b → (if b then 1 else 0) + attempt_count k os ≤ 1 → cond b (Some y) (find (awaits k) os) ≡ Some o
        → (attempt_count k os ≤ 1 → find (awaits k) os ≡ Some o → In x os → x ≡ o) → x ≡ o
    at_test true here l e' later =
        let same : y ≡ o = cc in
        ⊎_elim (λ (first : x ≡ y). first ∙ same) (λ (j : In x os). absurd (none (omega (arith, l)) j)) (In-cons x y os i)
    at_test false here l e' later = ⊎_elim
        (λ (first : x ≡ y). let both : true ≡ false = sym is ∙ ap (awaits k) first ∙ here in absurd cc)
        (λ (j : In x os). later (omega (arith, l)) e' j)
        (In-cons x y os i)

-- what is told of a batch, which is open no more
marks_without : (k : ℕ) (t : Partition) (o : Open) (told : List Told) → attempt_count k t.open_batches ≤ 1 → awaiting k t ≡ Some o → items_told told ≡ o.batch.items → MarksStay t told (without_attempt k t)
marks_without k t o told one at items i m = ⊎_elim opens (λ (x : QueueMarked t.queue i). inl (inr x)) m
  where
    opens : OpenMarked t.open_batches i → IsMarked (without_attempt k t) i ⊎ In i (items_told told)
    opens x = at_test (awaits k x.it) refl
      where
        at_test : (b : Bool) → awaits k x.it ≡ b → IsMarked (without_attempt k t) i ⊎ In i (items_told told)
        at_test true is = inr (subst (λ is. In i is) (sym items) (subst (λ (y : Open). In i y.batch.items) (only_one k t.open_batches o x.it one at x.there is) x.has))
        at_test false is = inl (inl (record { it = x.it; there = In-filter (λ (y : Open). not (awaits k y)) x.it t.open_batches (ap not is) x.there; is_marked = x.is_marked; has = x.has }))

fares_without : (k : ℕ) (t : Partition) (o : Open) (told : List Told) → attempt_count k t.open_batches ≤ 1 → awaiting k t ≡ Some o → items_told told ≡ o.batch.items → Fares t told (without_attempt k t)
fares_without k t o told one at items = record { audit = refl; ids = refl; heard = λ a. inl a; marks = marks_without k t o told one at items }

fares_acknowledged : (k : ℕ) (t : Partition) (o : Open) (told : List Told) → attempt_count k t.open_batches ≤ 1 → awaiting k t ≡ Some o → items_told told ≡ o.batch.items → AllByRecursion (WasHeard told) o.batch.items
    → Fares t told (acknowledge k t o told).after
fares_acknowledged k t o told one at items all = record {
  audit = refl;
  ids = refl;
  heard = λ a. by_first t.acknowledged refl a;
  marks = marks_without k t o told one at items;
}
  where
    by_first : (b : Bool) → t.acknowledged ≡ b → b || is_first_under_id t o.batch ≡ true → (t.acknowledged ≡ true) ⊎ FirstIsHeard t told
    by_first true is h = inl is
    by_first false is h = inr (record { it = o; there = (found_in (awaits k) t.open_batches o at).0; first = h; heard = all })

-- each item of a batch is told its outcome, and each outcome says that it is stored
abbrev SaysStored : Outcome → Type 0
SaysStored x = ((offset : ℤ) × (x ≡ Delivered offset)) ⊎ (x ≡ DeliveredNoOffset)

all_told_stored : (x : Outcome) → SaysStored x → (items : List Item) → AllByRecursion (WasHeard (told_all x items)) items
all_told_stored x s items = all_in (WasHeard (told_all x items)) items (λ i j. record { it = record { item = i; outcome = x }; there = In-map (λ (y : Item). let told : Told = record { item = y; outcome = x } in told) i items j; item = refl; stored = s })

offsets_told : (g : ℕ → Outcome) → ((k : ℕ) → SaysStored (g k)) → (n : ℕ) (items : List Item)
    → AllByRecursion (WasHeard (map (λ (x : ℕ × Item). let told : Told = record { item = x.1; outcome = g x.0 } in told) (enumerate_from n items))) items
offsets_told g s n [] = tt
offsets_told g s n (i ∷ items) =
    let first : Told = record { item = i; outcome = g n } in
    let rest : List Told = map (λ (x : ℕ × Item). let told : Told = record { item = x.1; outcome = g x.0 } in told) (enumerate_from (n + 1) items) in (
      record { it = first; there = In-head first rest; item = refl; stored = s n },
      all_heard_more rest (first ∷ rest) (λ x j. In-tail x first rest j) items (offsets_told g s (n + 1) items),
    )

pub fares_settled : (now k : ℕ) (t : Partition) (o : Open) (a : PartitionProduceResponse) → attempt_count k t.open_batches ≤ 1 → awaiting k t ≡ Some o → (v : Meaning) → Fares t (settle_by now k t o a v).told (settle_by now k t o a v).after
fares_settled now k t o a one at Stored =
    let offset : ℕ → Outcome = λ n. Delivered (a.base_offset +ℤ pos n) in
    fares_acknowledged k t o (told_offsets a.base_offset o.batch.items) one at (told_offsets_items offset 0 o.batch.items) (offsets_told offset (λ n. inl (_, refl)) 0 o.batch.items)
fares_settled now k t o a one at Duplicate =
    fares_acknowledged k t o (told_all DeliveredNoOffset o.batch.items) one at (told_all_items DeliveredNoOffset o.batch.items) (all_told_stored DeliveredNoOffset (inr refl) o.batch.items)
fares_settled now k t o a one at Retry = record {
  audit = refl;
  ids = refl;
  heard = λ b. inl b;
  marks = marks_mapped (put_off now k) (record { batch = same_waiting now k; marked = λ x m. marked x (awaits k x) m }) t (settle_by now k t o a Retry).after [] refl refl;
}
  where
    marked : (x : Open) (b : Bool) → x.marked ≡ true → (if b then (record x { attempt = Waiting now }) else x).marked ≡ true
    marked x true m = m
    marked x false m = m
fares_settled now k t o a one at Reject =
    fares_then t (without_attempt k t) (fence (without_attempt k t)).after (told_all (Rejected a.error_code) o.batch.items) (fence (without_attempt k t)).told
    (fares_without k t o (told_all (Rejected a.error_code) o.batch.items) one at (told_all_items (Rejected a.error_code) o.batch.items)) (fenced_alike (without_attempt k t)) (fares_fenced (without_attempt k t))

pub fares_entries : (now k : ℕ) (t : Partition) (xs : List PartitionProduceResponse) → ((a : PartitionProduceResponse) (rest : List PartitionProduceResponse) → xs ≡ a ∷ rest → (o : Open) → awaiting k t ≡ Some o → attempt_count k t.open_batches ≤ 1)
    → Fares t (by_entries now k t xs).told (by_entries now k t xs).after
fares_entries now k t xs one = at_entries (λ e. Fares t e.told e.after) now k t xs (fares_same t []) (λ a others is o at. fares_settled now k t o a (one a others is o at) at (meaning_of a.error_code))

-- ---- a batch goes out

again_marked : (k : ℕ) (os : List Open) (i : Item) → OpenMarked os i → OpenMarked (send_again_in k os) i
unfolding send_again_in
again_marked k [] i m = absurd (In-nil m.it m.there)
again_marked k (y ∷ os) i m = at_test (is_waiting y) (λ z. again_marked k os i z)
  where
    at_test : (w : Bool) → (OpenMarked os i → OpenMarked (send_again_in k os) i) → OpenMarked (if w then again_in k y ∷ os else y ∷ send_again_in k os) i
    at_test true later = ⊎_elim
        (λ (same : m.it ≡ y). record { it = again_in k y; there = In-head (again_in k y) os; is_marked = ap (λ (x : Open). x.marked) (sym same) ∙ m.is_marked; has = subst (λ (x : Open). In i x.batch.items) same m.has })
        (λ (j : In m.it os). record { it = m.it; there = In-tail m.it (again_in k y) os j; is_marked = m.is_marked; has = m.has })
        (In-cons m.it y os m.there)
    at_test false later = ⊎_elim
        (λ (same : m.it ≡ y). record { it = m.it; there = subst (λ (x : Open). In x (y ∷ send_again_in k os)) (sym same) (In-head y (send_again_in k os)); is_marked = m.is_marked; has = m.has })
        (λ (j : In m.it os). let l = later (record { it = m.it; there = j; is_marked = m.is_marked; has = m.has }) in record { it = l.it; there = In-tail l.it y (send_again_in k os) l.there; is_marked = l.is_marked; has = l.has })
        (In-cons m.it y os m.there)

pub handed_marked : (k : ℕ) (t : Partition) (i : Item) → IsMarked t i → (q : List Pending) → t.queue ≡ q → IsMarked (hand_over_in k t q) i
unfolding hand_over_in
handed_marked k t i m [] is = m
handed_marked k t i m (front ∷ behind) is = ⊎_elim
    (λ (x : OpenMarked t.open_batches i). inl (record { it = x.it; there = In-append_left x.it t.open_batches (opened_in k t front ∷ []) x.there; is_marked = x.is_marked; has = x.has }))
    (λ (x : QueueMarked t.queue i). ⊎_elim
    (λ (same : x.it ≡ front). inl (record {
      it = opened_in k t front;
      there = In-append_right (opened_in k t front) t.open_batches (opened_in k t front ∷ []) (In-head (opened_in k t front) []);
      is_marked = ap (λ (b : Pending). b.marked) (sym same) ∙ x.is_marked;
      has = subst (λ (b : Pending). In i b.items) same x.has;
    }))
    (λ (j : In x.it behind). inr (record { it = x.it; there = j; is_marked = x.is_marked; has = x.has }))
    (In-cons x.it front behind (subst (λ (bs : List Pending). In x.it bs) is x.there)))
    m

pub fares_again : (k : ℕ) (t : Partition) → Fares t [] (sent_again_in k t)
fares_again k t = record {
  audit = refl;
  ids = refl;
  heard = λ a. inl a;
  marks = λ i m. inl (⊎_elim (λ (x : OpenMarked t.open_batches i). inl (again_marked k t.open_batches i x)) (λ (x : QueueMarked t.queue i). inr x) m);
}
