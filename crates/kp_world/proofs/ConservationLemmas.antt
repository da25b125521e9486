-- What a rule does to the items of a partition: it tells some of those that were not told, and keeps
-- the others in order.
use Rattle.kp_rules.proofs.CallLemmas.{at_led, at_moved}
use Rattle.std.proofs.Common.{◌≡◌, ℕ, ◌+◌, ◌≤◌, Bool, true, false, not, cond, List, [], ◌∷◌, ◌++◌, map, pos, Some, None, refl, sym, ap, ◌∙◌, subst, arith, append_assoc}
use Rattle.std.specs.Prelude.{Option, if◌then◌else◌, find, ◌+ℤ◌}
use Rattle.std.specs.List.{AllByRecursion, filter, list_any, enumerate_from}
use Rattle.std.proofs.lemmas.List.{append-nil, map-append}
use Rattle.std.proofs.lemmas.List.Elements.{filter-append}
use Rattle.kp_accum.specs.declared.config.Config.{Config}
use Rattle.kp_accum.specs.declared.item.Item.{Item}
use Rattle.kp_accum.specs.Queue.{Pending, marked_by_flush}
use Rattle.kp_accum.specs.Ready.{is_late}
use Rattle.kp_frames.specs.declared.produce.PartitionProduceResponse.{PartitionProduceResponse}
use Rattle.kp_rules.proofs.OutcomeLemmas.{by_attempt}
use Rattle.kp_rules.specs.Leading.{moved_to, led_by}
use Rattle.kp_rules.specs.Fence.{fence, give_up}
use Rattle.kp_rules.specs.Tick.{heed_deadlines}
use Rattle.kp_rules.specs.declared.outcome.Outcome.{Outcome}
use Rattle.kp_rules.specs.declared.outcome.Outcome.TheVariants.{Unknown, DeliveredNoOffset, Delivered, Rejected, Unsent}
use Rattle.kp_rules.specs.declared.outcome.Reason.{Reason}
use Rattle.kp_rules.specs.declared.outcome.Reason.TheVariants as reason
use Rattle.kp_rules.specs.declared.meaning.Meaning.{Meaning}
use Rattle.kp_rules.specs.declared.meaning.Meaning.TheVariants.{Stored, Duplicate, Retry, Reject}
use Rattle.kp_rules.specs.Attempts.{awaits, awaiting}
use Rattle.kp_rules.specs.Dropping.{drop_attempt, drop_attempts, drop_led}
use Rattle.kp_rules.specs.Flush.{mark_open, mark}
use Rattle.kp_rules.specs.Partitions.{items_open, items_queued, untold}
use Rattle.kp_rules.specs.Records.{HandedBatch, Open, Partition, Told}
use Rattle.kp_rules.specs.Settling.{without_attempt, retry_later, put_off, meaning_of, acknowledge, settle_by, settle_batch}
use Rattle.kp_rules.specs.Telling.{told_all, told_offsets}
use Rattle.kp_rules.specs.Tick.{late_front, behind_late, expire_front, is_open_late}
use Rattle.kp_world.specs.Accounts.{is_unsent, unsent_among}
use Rattle.std.proofs.lemmas.List.Concat.{flat_map-append}
use Rattle.kp_world.proofs.KeepingLemmas.{same_waiting}
use Rattle.kp_world.proofs.FateLemmas.{filter_all, filter_none}
use Rattle.kp_rules.proofs.OutcomeLemmas.{all_enumerated, all_told}
use Rattle.kp_log.proofs.PlaceLemmas.{In, In-from_contains}
use Rattle.std.proofs.lemmas.Bool.{not_from_false}
use Rattle.kp_world.proofs.WeightLemmas.{weigh, weigh-append, none_counted}
use Rattle.kp_rules.proofs.ListLemmas.{all_flat_map}
use Rattle.kp_rules.proofs.ListLemmas.{all_back, all_front, all_say, all_weaker}
use Rattle.kp_world.proofs.ListLemmas.{found_in, left_in}
use Rattle.kp_wire.proofs.ListLemmas.{all_append}

-- ---- what is told

abbrev pub items_told : List Told → List Item
items_told told = map (λ t. t.item) told

abbrev told_as : Outcome → Item → Told
told_as outcome i = record { item = i; outcome = outcome }

pub told_all_items : (outcome : Outcome) (items : List Item) → items_told (told_all outcome items) ≡ items
told_all_items outcome [] = refl
told_all_items outcome (i ∷ items) = ap (λ r. i ∷ r) (told_all_items outcome items)

pub told_offsets_items : (g : ℕ → Outcome) (n : ℕ) (items : List Item) → items_told (map (λ (x : ℕ × Item). told_as (g x.0) x.1) (enumerate_from n items)) ≡ items
told_offsets_items g n [] = refl
told_offsets_items g n (i ∷ items) = ap (λ r. i ∷ r) (told_offsets_items g (n + 1) items)

unsent_no : (told : List Told) → AllByRecursion (λ (t : Told). is_unsent t.outcome ≡ false) told → unsent_among told ≡ []
unsent_no told h = ap (map (λ (t : Told). t.item)) (filter_none (λ (t : Told). is_unsent t.outcome) told h)

unsent_all : (outcome : Outcome) (items : List Item) → is_unsent outcome ≡ true → unsent_among (told_all outcome items) ≡ items
unsent_all outcome items e =
    ap (map (λ (t : Told). t.item)) (filter_all (λ (t : Told). is_unsent t.outcome) (told_all outcome items) (all_told (λ (t : Told). is_unsent t.outcome ≡ true) outcome items (all_say (λ i. is_unsent outcome ≡ true) (λ i. e) items)))
    ∙ told_all_items outcome items

unsent_none : (outcome : Outcome) (items : List Item) → is_unsent outcome ≡ false → unsent_among (told_all outcome items) ≡ []
unsent_none outcome items e = unsent_no (told_all outcome items) (all_told (λ (t : Told). is_unsent t.outcome ≡ false) outcome items (all_say (λ i. is_unsent outcome ≡ false) (λ i. e) items))

unsent_offsets : (g : ℕ → Outcome) → ((k : ℕ) → is_unsent (g k) ≡ false) → (n : ℕ) (items : List Item)
    → unsent_among (map (λ (x : ℕ × Item). told_as (g x.0) x.1) (enumerate_from n items)) ≡ []
unsent_offsets g f n items =
    unsent_no (map (λ (x : ℕ × Item). told_as (g x.0) x.1) (enumerate_from n items)) (all_enumerated (λ (t : Told). is_unsent t.outcome ≡ false) (λ (x : ℕ × Item). told_as (g x.0) x.1) n items (λ m i e. f (n + m)))

pub unsent-append : (a b : List Told) → unsent_among (a ++ b) ≡ unsent_among a ++ unsent_among b
unsent-append a b =
    ap (map (λ (t : Told). t.item)) (filter-append (λ (t : Told). is_unsent t.outcome) a b)
    ∙ map-append (λ (t : Told). t.item) (filter (λ (t : Told). is_unsent t.outcome) a) (filter (λ (t : Told). is_unsent t.outcome) b)

-- ---- the items of open batches

-- how many of these batches are in request k
abbrev pub attempts_of : ℕ → Open → ℕ
attempts_of k o = if awaits k o then 1 else 0

abbrev pub attempt_count : ℕ → List Open → ℕ
attempt_count k os = weigh (attempts_of k) os

open_map : (f : Open → Open) → ((o : Open) → (f o).batch ≡ o.batch) → (os : List Open) → items_open (map f os) ≡ items_open os
open_map f same [] = refl
open_map f same (o ∷ os) = ap (λ (b : HandedBatch). b.items ++ items_open (map f os)) (same o) ∙ ap (λ r. o.batch.items ++ r) (open_map f same os)

-- what holds of all items holds of those of each batch
open_part : (P : Item → Type 0) (os : List Open) (o : Open) → In o os → AllByRecursion P (items_open os) → AllByRecursion P o.batch.items
open_part P os o i h =
    all_front P o.batch.items (items_open i.later) (all_back P (items_open i.earlier) (o.batch.items ++ items_open i.later)
    (subst (AllByRecursion P) (ap items_open i.split ∙ flat_map-append (λ (x : Open). x.batch.items) i.earlier (o ∷ i.later)) h))

all_open_filter : (P : Item → Type 0) (test : Open → Bool) (os : List Open) → AllByRecursion P (items_open os) → AllByRecursion P (items_open (filter test os))
all_open_filter P test os h = all_flat_map P (λ (o : Open). o.batch.items) (filter test os) (λ o c. open_part P os o (left_in test os o (In-from_contains (filter test os) o c)).0 h)

none_awaits : (k : ℕ) (os : List Open) → attempt_count k os ≡ 0 → filter (λ o. not (awaits k o)) os ≡ os
none_awaits k os e =
    filter_all (λ (o : Open). not (awaits k o)) os (all_weaker (λ (o : Open). awaits k o ≡ false) (λ (o : Open). not (awaits k o) ≡ true) (λ o. not_from_false (awaits k o)) os (none_counted (awaits k) os e))

without_weight : (f : Item → ℕ) (k : ℕ) (os : List Open) (o : Open) → find (awaits k) os ≡ Some o → attempt_count k os ≤ 1
    → weigh f o.batch.items + weigh f (items_open (filter (λ x. not (awaits k x)) os)) ≡ weigh f (items_open os)
without_weight f k [] o e one = absurd cc
without_weight f k (x ∷ os) o e one = at_test (awaits k x) e one (λ (e' : find (awaits k) os ≡ Some o). without_weight f k os o e')
  where
    both : weigh f (x.batch.items ++ items_open os) ≡ weigh f x.batch.items + weigh f (items_open os)
    both = weigh-append f x.batch.items (items_open os)

    at_test : (b : Bool) → cond b (Some x) (find (awaits k) os) ≡ Some o → (if b then 1 else 0) + attempt_count k os ≤ 1
        → (find (awaits k) os ≡ Some o → attempt_count k os ≤ 1 → weigh f o.batch.items + weigh f (items_open (filter (λ y. not (awaits k y)) os)) ≡ weigh f (items_open os))
        → weigh f o.batch.items + weigh f (items_open (cond (not b) (x ∷ filter (λ y. not (awaits k y)) os) (filter (λ y. not (awaits k y)) os))) ≡ weigh f (x.batch.items ++ items_open os)
    at_test true same l rest =
        let is : x ≡ o = cc in
        let left : filter (λ y. not (awaits k y)) os ≡ os = none_awaits k os (omega (arith, l)) in
        let here : weigh f x.batch.items ≡ weigh f o.batch.items = ap (λ (y : Open). weigh f y.batch.items) is in
        let there : weigh f (items_open (filter (λ y. not (awaits k y)) os)) ≡ weigh f (items_open os) = ap (λ (ys : List Open). weigh f (items_open ys)) left in
        omega (arith, here, there, both)
    at_test false same l rest =
        let more : weigh f (x.batch.items ++ items_open (filter (λ y. not (awaits k y)) os)) ≡ weigh f x.batch.items + weigh f (items_open (filter (λ y. not (awaits k y)) os)) = weigh-append f x.batch.items (items_open (filter (λ y. not (awaits k y)) os)) in
        let there : weigh f o.batch.items + weigh f (items_open (filter (λ y. not (awaits k y)) os)) ≡ weigh f (items_open os) = rest same (omega (arith, l)) in
        omega (arith, more, there, both)

-- ---- one partition

-- The queue is what is told Unsent and, behind it, what is queued then; what is told, and what is
-- left, are of those that were not told.
pub record Tells (t : Partition) (told : List Told) (t' : Partition) : Type 1 where
  pub queue : items_queued t.queue ≡ unsent_among told ++ items_queued t'.queue
  pub told_from : (P : Item → Type 0) → AllByRecursion P (untold t) → AllByRecursion P (items_told told)
  pub left_from : (P : Item → Type 0) → AllByRecursion P (untold t) → AllByRecursion P (untold t')
  pub weighs : (f : Item → ℕ) → weigh f (items_told told) + weigh f (untold t') ≡ weigh f (untold t)

-- nothing is told, and the items that are not told are the same
pub tells_same : (t t' : Partition) → items_queued t.queue ≡ items_queued t'.queue → untold t' ≡ untold t → Tells t [] t'
tells_same t t' queue same = record {
  queue = queue;
  told_from = λ P h. tt;
  left_from = λ P h. subst (AllByRecursion P) (sym same) h;
  weighs = λ f. let e : weigh f (untold t') ≡ weigh f (untold t) = ap (weigh f) same in omega (arith, e);
}

pub tells_nothing : (t : Partition) → Tells t [] t
tells_nothing t = tells_same t t refl refl

pub tells_dropped : (now : ℕ) (t : Partition) → Tells t [] (drop_attempts now t)
unfolding untold
tells_dropped now t =
    tells_same t (drop_attempts now t) refl (ap (λ r. r ++ items_queued t.queue) (open_map (drop_attempt now) (λ o. refl) t.open_batches))

pub tells_led : (node now : ℕ) (t : Partition) → Tells t [] (drop_led node now t)
tells_led node now t = at_led (Tells t []) node now t (tells_dropped now t) (tells_nothing t)

pub tells_lead : (leader now : ℕ) (t : Partition) → Tells t [] (led_by leader now t)
unfolding untold
tells_lead leader now t = at_moved (Tells t []) leader now t (tells_nothing t)
    (tells_same t (moved_to leader now t) refl (ap (λ r. r ++ items_queued t.queue) (open_map (drop_attempt now) (λ o. refl) t.open_batches)))

queued_map : (q : List Pending) → items_queued (map marked_by_flush q) ≡ items_queued q
queued_map [] = refl
queued_map (b ∷ q) = ap (λ r. b.items ++ r) (queued_map q)

pub tells_marked : (t : Partition) → Tells t [] (mark t)
unfolding untold
tells_marked t =
    tells_same t (mark t) (sym (queued_map t.queue))
    (ap (λ r. r ++ items_queued (map marked_by_flush t.queue)) (open_map mark_open (λ o. refl) t.open_batches) ∙ ap (λ r. items_open t.open_batches ++ r) (queued_map t.queue))

-- ---- giving up

pub given_up_items : (why : Reason) (t : Partition) → items_told (give_up why t).told ≡ items_open t.open_batches ++ items_queued t.queue
unfolding give_up
given_up_items why t =
    map-append (λ (x : Told). x.item) (told_all Unknown (items_open t.open_batches)) (told_all (Unsent why) (items_queued t.queue))
    ∙ ap (λ r. r ++ items_told (told_all (Unsent why) (items_queued t.queue))) (told_all_items Unknown (items_open t.open_batches))
    ∙ ap (λ r. items_open t.open_batches ++ r) (told_all_items (Unsent why) (items_queued t.queue))

given_up_unsent : (why : Reason) (t : Partition) → unsent_among (give_up why t).told ≡ items_queued t.queue
unfolding give_up
given_up_unsent why t =
    unsent-append (told_all Unknown (items_open t.open_batches)) (told_all (Unsent why) (items_queued t.queue))
    ∙ ap (λ r. r ++ unsent_among (told_all (Unsent why) (items_queued t.queue))) (unsent_none Unknown (items_open t.open_batches) refl)
    ∙ unsent_all (Unsent why) (items_queued t.queue) refl

tells_emptied : (why : Reason) (t t' : Partition) → items_queued t'.queue ≡ [] → untold t' ≡ [] → Tells t (give_up why t).told t'
unfolding untold
tells_emptied why t t' queue none = record {
  queue = sym (ap (λ r. unsent_among (give_up why t).told ++ r) queue ∙ append-nil (unsent_among (give_up why t).told) ∙ given_up_unsent why t);
  told_from = λ P h. subst (AllByRecursion P) (sym (given_up_items why t)) h;
  left_from = λ P h. subst (AllByRecursion P) (sym none) tt;
  weighs = λ f.
      let told : weigh f (items_told (give_up why t).told) ≡ weigh f (items_open t.open_batches ++ items_queued t.queue) = ap (weigh f) (given_up_items why t) in
      let left : weigh f (items_open t'.open_batches ++ items_queued t'.queue) ≡ 0 = ap (weigh f) none in
      omega (arith, told, left);
}

tells_fenced : (t : Partition) → Tells t (fence t).told (fence t).after
unfolding fence give_up untold
tells_fenced t = tells_emptied reason.Fenced t (fence t).after refl refl

pub tells_given_up : (why : Reason) (t : Partition) → Tells t (give_up why t).told (give_up why t).after
unfolding give_up untold
tells_given_up why t = tells_emptied why t (give_up why t).after refl refl

-- ---- expiry

late_and_behind : (c : Config) (now : ℕ) (q : List Pending) → items_queued q ≡ items_queued (late_front c now q) ++ items_queued (behind_late c now q)
unfolding late_front behind_late
late_and_behind c now [] = refl
late_and_behind c now (b ∷ q) = at_test (is_late c now b) (late_and_behind c now q)
  where
    at_test : (late : Bool) → items_queued q ≡ items_queued (late_front c now q) ++ items_queued (behind_late c now q)
        → items_queued (b ∷ q) ≡ items_queued (if late then b ∷ late_front c now q else []) ++ items_queued (if late then behind_late c now q else b ∷ q)
    at_test true e = ap (λ r. b.items ++ r) e ∙ sym (append_assoc b.items (items_queued (late_front c now q)) (items_queued (behind_late c now q)))
    at_test false e = refl

tells_expired : (c : Config) (now : ℕ) (t : Partition) → Tells t (expire_front c now t).told (expire_front c now t).after
unfolding untold
tells_expired c now t =
    let late = items_queued (late_front c now t.queue) in
    let behind = items_queued (behind_late c now t.queue) in
    let split : items_queued t.queue ≡ late ++ behind = late_and_behind c now t.queue in
    record {
      queue = split ∙ ap (λ r. r ++ behind) (sym (unsent_all (Unsent reason.Expired) late refl));
      told_from = λ P h. subst (AllByRecursion P) (sym (told_all_items (Unsent reason.Expired) late)) (all_front P late behind (subst (AllByRecursion P) split (all_back P (items_open t.open_batches) (items_queued t.queue) h)));
      left_from = λ P h. all_append P (items_open t.open_batches) behind (all_front P (items_open t.open_batches) (items_queued t.queue) h) (all_back P late behind (subst (AllByRecursion P) split (all_back P (items_open t.open_batches) (items_queued t.queue) h)));
      weighs = λ f.
          let told : weigh f (items_told (told_all (Unsent reason.Expired) (items_queued (late_front c now t.queue)))) ≡ weigh f (items_queued (late_front c now t.queue)) = ap (weigh f) (told_all_items (Unsent reason.Expired) late) in
          let before : weigh f (items_open t.open_batches ++ items_queued t.queue) ≡ weigh f (items_open t.open_batches) + weigh f (items_queued t.queue) = weigh-append f (items_open t.open_batches) (items_queued t.queue) in
          let after : weigh f (items_open t.open_batches ++ items_queued (behind_late c now t.queue)) ≡ weigh f (items_open t.open_batches) + weigh f (items_queued (behind_late c now t.queue)) = weigh-append f (items_open t.open_batches) behind in
          let parts : weigh f (items_queued t.queue) ≡ weigh f (items_queued (late_front c now t.queue)) + weigh f (items_queued (behind_late c now t.queue)) = ap (weigh f) split ∙ weigh-append f late behind in
          omega (arith, told, before, after, parts);
    }

pub tells_passed : (c : Config) (now : ℕ) (t : Partition) → Tells t (heed_deadlines c now t).told (heed_deadlines c now t).after
unfolding heed_deadlines
tells_passed c now t = at_test (list_any (is_open_late c now) t.open_batches)
  where
    at_test : (late : Bool) → Tells t (if late then fence t else expire_front c now t).told (if late then fence t else expire_front c now t).after
    at_test true = tells_fenced t
    at_test false = tells_expired c now t

-- ---- an answer

tells_retry : (now k : ℕ) (t : Partition) → Tells t [] (retry_later now k t).after
unfolding untold
tells_retry now k t =
    tells_same t (retry_later now k t).after refl (ap (λ r. r ++ items_queued t.queue) (open_map (put_off now k) (same_waiting now k) t.open_batches))

tells_without : (k : ℕ) (t : Partition) (o : Open) (told : List Told) → attempt_count k t.open_batches ≤ 1 → awaiting k t ≡ Some o → unsent_among told ≡ [] → items_told told ≡ o.batch.items
    → Tells t told (without_attempt k t)
unfolding untold
tells_without k t o told one at none items = record {
  queue = sym (ap (λ r. r ++ items_queued t.queue) none);
  told_from = λ P h. subst (AllByRecursion P) (sym items) (open_part P t.open_batches o (found_in (awaits k) t.open_batches o at).0 (all_front P (items_open t.open_batches) (items_queued t.queue) h));
  left_from = λ P h. all_append P (items_open (without_attempt k t).open_batches) (items_queued t.queue)
      (all_open_filter P (λ x. not (awaits k x)) t.open_batches (all_front P (items_open t.open_batches) (items_queued t.queue) h))
      (all_back P (items_open t.open_batches) (items_queued t.queue) h);
  weighs = λ f.
      let gone : weigh f (items_told told) ≡ weigh f o.batch.items = ap (weigh f) items in
      let open_left : weigh f o.batch.items + weigh f (items_open (without_attempt k t).open_batches) ≡ weigh f (items_open t.open_batches) = without_weight f k t.open_batches o at one in
      let before : weigh f (items_open t.open_batches ++ items_queued t.queue) ≡ weigh f (items_open t.open_batches) + weigh f (items_queued t.queue) = weigh-append f (items_open t.open_batches) (items_queued t.queue) in
      let after : weigh f (items_open (without_attempt k t).open_batches ++ items_queued t.queue) ≡ weigh f (items_open (without_attempt k t).open_batches) + weigh f (items_queued t.queue) = weigh-append f (items_open (without_attempt k t).open_batches) (items_queued t.queue) in
      omega (arith, gone, open_left, before, after);
}

pub tells_both : (t u v : Partition) (a b : List Told) → Tells t a u → Tells u b v → Tells t (a ++ b) v
tells_both t u v a b c d = record {
  queue = c.queue ∙ ap (λ r. unsent_among a ++ r) d.queue ∙ sym (append_assoc (unsent_among a) (unsent_among b) (items_queued v.queue)) ∙ ap (λ r. r ++ items_queued v.queue) (sym (unsent-append a b));
  told_from = λ P h. subst (AllByRecursion P) (sym (map-append (λ (x : Told). x.item) a b)) (all_append P (items_told a) (items_told b) (c.told_from P h) (d.told_from P (c.left_from P h)));
  left_from = λ P h. d.left_from P (c.left_from P h);
  weighs = λ f.
      let told : weigh f (items_told (a ++ b)) ≡ weigh f (items_told a) + weigh f (items_told b) = ap (weigh f) (map-append (λ (x : Told). x.item) a b) ∙ weigh-append f (items_told a) (items_told b) in
      let first : weigh f (items_told a) + weigh f (untold u) ≡ weigh f (untold t) = c.weighs f in
      let second : weigh f (items_told b) + weigh f (untold v) ≡ weigh f (untold u) = d.weighs f in
      omega (arith, told, first, second);
}

acknowledged_as : (t : Partition) (told : List Told) (u v : Partition) → u.queue ≡ v.queue → u.open_batches ≡ v.open_batches → Tells t told u → Tells t told v
unfolding untold
acknowledged_as t told u v queue opens c = record {
  queue = c.queue ∙ ap (λ (q : List Pending). unsent_among told ++ items_queued q) queue;
  told_from = c.told_from;
  left_from = λ P h. subst (AllByRecursion P) (ap (λ (os : List Open). items_open os ++ items_queued u.queue) opens ∙ ap (λ (q : List Pending). items_open v.open_batches ++ items_queued q) queue) (c.left_from P h);
  weighs = λ f. ap (λ (r : List Item). weigh f (items_told told) + weigh f r) (sym (ap (λ (os : List Open). items_open os ++ items_queued u.queue) opens ∙ ap (λ (q : List Pending). items_open v.open_batches ++ items_queued q) queue)) ∙ c.weighs f;
}

pub tells_answered : (now k : ℕ) (t : Partition) (a : PartitionProduceResponse) → ((o : Open) → awaiting k t ≡ Some o → attempt_count k t.open_batches ≤ 1) → Tells t (settle_batch now k t a).told (settle_batch now k t a).after
unfolding settle_batch
tells_answered now k t a one = at_option (awaiting k t) refl
  where
    at_meaning : (o : Open) → awaiting k t ≡ Some o → (v : Meaning) → Tells t (settle_by now k t o a v).told (settle_by now k t o a v).after
    at_meaning o at Stored =
        let told = told_offsets a.base_offset o.batch.items in
        let offset : ℕ → Outcome = λ n. Delivered (a.base_offset +ℤ pos n) in
        acknowledged_as t told (without_attempt k t) (acknowledge k t o told).after refl refl
        (tells_without k t o told (one o at) at (unsent_offsets offset (λ n. refl) 0 o.batch.items) (told_offsets_items offset 0 o.batch.items))
    at_meaning o at Duplicate =
        let told = told_all DeliveredNoOffset o.batch.items in
        acknowledged_as t told (without_attempt k t) (acknowledge k t o told).after refl refl
        (tells_without k t o told (one o at) at (unsent_none DeliveredNoOffset o.batch.items refl) (told_all_items DeliveredNoOffset o.batch.items))
    at_meaning o at Retry = tells_retry now k t
    at_meaning o at Reject =
        let told = told_all (Rejected a.error_code) o.batch.items in
        let none = unsent_none (Rejected a.error_code) o.batch.items refl in
        tells_both t (without_attempt k t) (fence (without_attempt k t)).after told (fence (without_attempt k t)).told
        (tells_without k t o told (one o at) at none (told_all_items (Rejected a.error_code) o.batch.items))
        (tells_fenced (without_attempt k t))

    at_option : (o : Option Open) → awaiting k t ≡ o → Tells t (by_attempt now k t a o).told (by_attempt now k t a o).after
    at_option None at = tells_nothing t
    at_option (Some o) at = at_meaning o at (meaning_of a.error_code)
