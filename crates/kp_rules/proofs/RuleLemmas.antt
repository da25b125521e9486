-- What each rule of a partition tells and leaves: it tells some of the items, and keeps the others.
use Rattle.std.proofs.Common.{◌≡◌, ℕ, ◌+◌, Bool, true, false, not, cond, List, [], ◌∷◌, ◌++◌, map, pos, Some, refl, sym, ap, ◌∙◌, subst, arith, append_assoc}
use Rattle.std.specs.Prelude.{if◌then◌else◌, ◌||◌, ◌==◌, filter, find, sum_by, ◌+ℤ◌}
use Rattle.std.specs.List.{enumerate_from}
use Rattle.std.proofs.lemmas.Bool.{eqb-true}
use Rattle.std.proofs.lemmas.List.{append-nil, map-append}
use Rattle.std.proofs.lemmas.List.Concat.{flat_map-append}
use Rattle.std.proofs.lemmas.List.Sums.{sum_by-append}
use Rattle.kp_accum.specs.declared.config.Config.{Config}
use Rattle.kp_accum.specs.declared.item.Item.{Item}
use Rattle.kp_accum.specs.Queue.{Pending, joins, joined_by, begun_by, with_item, marked_by_flush}
use Rattle.kp_accum.specs.Ready.{is_late}
use Rattle.kp_frames.specs.declared.produce.PartitionProduceResponse.{PartitionProduceResponse}
use Rattle.kp_rules.specs.declared.attempt.Attempt.{Attempt}
use Rattle.kp_rules.specs.declared.attempt.Attempt.TheVariants.{InFlight, Waiting}
use Rattle.kp_rules.specs.declared.meaning.Meaning.{Meaning}
use Rattle.kp_rules.specs.declared.meaning.Meaning.TheVariants.{Stored, Duplicate, Retry, Reject}
use Rattle.kp_rules.specs.declared.outcome.Outcome.{Outcome}
use Rattle.kp_rules.specs.declared.outcome.Outcome.TheVariants.{Delivered, DeliveredNoOffset, Unknown, Rejected, Unsent}
use Rattle.kp_rules.specs.declared.outcome.Reason.{Reason}
use Rattle.kp_rules.specs.declared.outcome.Reason.TheVariants as reason
use Rattle.kp_rules.specs.Appending.{enqueue}
use Rattle.kp_rules.specs.Attempts.{awaits, awaiting, is_waiting}
use Rattle.kp_rules.specs.Dropping.{drop_attempt, drop_attempts, drop_led}
use Rattle.kp_rules.specs.Fence.{give_up, fence}
use Rattle.kp_rules.specs.Flush.{mark_open, mark}
use Rattle.kp_rules.specs.HandingOver.{again_in, opened_in, hand_over_in, send_again_in, send_in}
use Rattle.kp_rules.specs.InOrder.{AreDistinct, requests_awaited}
use Rattle.kp_rules.specs.Partitions.{is_in, items_open, items_queued, untold}
use Rattle.kp_rules.specs.Records.{HandedBatch, Open, Partition, Told, Effect}
use Rattle.kp_rules.specs.Settling.{meaning_of, without_attempt, put_off, retry_later, settle_by}
use Rattle.kp_rules.specs.Telling.{told_all}
use Rattle.kp_rules.specs.Leading.{led_by}
use Rattle.kp_rules.specs.Tick.{late_front, behind_late, expire_front, heed_deadlines}
use Rattle.kp_rules.proofs.CallLemmas.{at_entries, at_heed, at_led, at_moved, by_entries}
use Rattle.kp_rules.proofs.ListLemmas.{flat_map_mapped}
use Rattle.kp_rules.proofs.SendingLemmas.{at_send_in}

-- ---- what is told

abbrev pub items_told : List Told → List Item
items_told told = map (λ t. t.item) told

-- What there was is what is told and what is left: as f is arbitrary, each item as often.
abbrev pub Keeps : (Item → ℕ) → List Item → List Told → List Item → Type 0
Keeps f before told after = sum_by f before ≡ sum_by f (items_told told) + sum_by f after

-- a partition's rule does so
abbrev pub RuleKeeps : (Item → ℕ) → Partition → Effect → Type 0
RuleKeeps f t made = Keeps f (untold t) made.told (untold made.after)

told_all_items : (outcome : Outcome) (items : List Item) → items_told (told_all outcome items) ≡ items
told_all_items outcome [] = refl
told_all_items outcome (i ∷ items) = ap (λ r. i ∷ r) (told_all_items outcome items)

told_offsets_items : (g : ℕ → Outcome) (n : ℕ) (items : List Item)
    → items_told (map (λ (x : ℕ × Item). record { item = x.1; outcome = g x.0 }) (enumerate_from n items)) ≡ items
told_offsets_items g n [] = refl
told_offsets_items g n (i ∷ items) = ap (λ r. i ∷ r) (told_offsets_items g (n + 1) items)

pub told-append : (f : Item → ℕ) (a b : List Told) → sum_by f (items_told (a ++ b)) ≡ sum_by f (items_told a) + sum_by f (items_told b)
told-append f a b = ap (sum_by f) (map-append (λ (t : Told). t.item) a b) ∙ sum_by-append f (items_told a) (items_told b)

-- ---- rules that tell nothing

open_map : (g : Open → Open) → ((o : Open) → (g o).batch ≡ o.batch) → (os : List Open) → items_open (map g os) ≡ items_open os
open_map g same = flat_map_mapped (λ (o : Open). o.batch.items) g (λ o. o.batch.items) (λ o. ap (λ (b : HandedBatch). b.items) (same o))

marked_queue : (q : List Pending) → items_queued (map marked_by_flush q) ≡ items_queued q
marked_queue = flat_map_mapped (λ (b : Pending). b.items) marked_by_flush (λ b. b.items) (λ b. refl)

pub drop_keeps : (now : ℕ) (t : Partition) → untold (drop_attempts now t) ≡ untold t
unfolding untold
drop_keeps now t = ap (λ r. r ++ items_queued t.queue) (open_map (drop_attempt now) (λ o. refl) t.open_batches)

pub led_keeps : (node now : ℕ) (t : Partition) → untold (drop_led node now t) ≡ untold t
led_keeps node now t = at_led (λ (u : Partition). untold u ≡ untold t) node now t (drop_keeps now t) refl

pub lead_keeps : (leader now : ℕ) (t : Partition) → untold (led_by leader now t) ≡ untold t
unfolding untold
lead_keeps leader now t = at_moved (λ (u : Partition). untold u ≡ untold t) leader now t refl (drop_keeps now t)

pub mark_keeps : (t : Partition) → untold (mark t) ≡ untold t
unfolding untold
mark_keeps t = rw (open_map mark_open (λ o. refl) t.open_batches, marked_queue t.queue)

put_off_keeps : (now k : ℕ) (t : Partition) → untold (retry_later now k t).after ≡ untold t
unfolding untold
put_off_keeps now k t = ap (λ r. r ++ items_queued t.queue) (open_map (put_off now k) (λ o. at_test o (awaits k o)) t.open_batches)
  where
    at_test : (o : Open) (b : Bool) → (if b then (record o { attempt = Waiting now }) else o).batch ≡ o.batch
    at_test o true = refl
    at_test o false = refl

-- an item goes behind what is queued
queued_item : (c : Config) (i : Item) (q : List Pending) → items_queued (with_item c i q) ≡ items_queued q ++ i ∷ []
unfolding with_item
queued_item c i [] = refl
queued_item c i (b ∷ []) = at_test (joins c i b)
  where
    at_test : (t : Bool) → items_queued (if t then joined_by i b ∷ [] else b ∷ begun_by i ∷ []) ≡ items_queued (b ∷ []) ++ i ∷ []
    at_test true = simp append-nil
    at_test false = simp append-nil
queued_item c i (b ∷ b' ∷ bs) = ap (λ r. b.items ++ r) (queued_item c i (b' ∷ bs)) ∙ sym (append_assoc b.items (items_queued (b' ∷ bs)) (i ∷ []))

pub enqueue_keeps : (c : Config) (i : Item) (t : Partition) → untold (enqueue c i t) ≡ untold t ++ i ∷ []
unfolding untold
enqueue_keeps c i t =
    ap (λ r. items_open t.open_batches ++ r) (queued_item c i t.queue)
    ∙ sym (append_assoc (items_open t.open_batches) (items_queued t.queue) (i ∷ []))

-- ---- a partition's batch goes out

again_keeps : (k : ℕ) (os : List Open) → items_open (send_again_in k os) ≡ items_open os
unfolding send_again_in
again_keeps k [] = refl
again_keeps k (o ∷ os) = at_test (is_waiting o) (again_keeps k os)
  where
    at_test : (b : Bool) → items_open (send_again_in k os) ≡ items_open os
        → items_open (if b then again_in k o ∷ os else o ∷ send_again_in k os) ≡ items_open (o ∷ os)
    at_test true e = refl
    at_test false e = ap (λ r. o.batch.items ++ r) e

hand_over_keeps : (k : ℕ) (t : Partition) (q : List Pending) → t.queue ≡ q → untold (hand_over_in k t q) ≡ untold t
unfolding untold hand_over_in
hand_over_keeps k t [] e = refl
hand_over_keeps k t (b ∷ q) e =
    ap (λ r. r ++ items_queued q) (flat_map-append (λ (o : Open). o.batch.items) t.open_batches (opened_in k t b ∷ [])
    ∙ ap (λ r. items_open t.open_batches ++ r) (append-nil b.items))
    ∙ append_assoc (items_open t.open_batches) b.items (items_queued q)
    ∙ ap (λ (p : List Pending). items_open t.open_batches ++ items_queued p) (sym e)

pub send_keeps : (k : ℕ) (t : Partition) → untold (send_in k t) ≡ untold t
unfolding untold
send_keeps k t = at_send_in (λ u. untold u ≡ untold t) k t
    (ap (λ r. r ++ items_queued t.queue) (again_keeps k t.open_batches)) (hand_over_keeps k t t.queue refl)

-- ---- what is given up, and what expires

given_up_items : (why : Reason) (t : Partition) → items_told (give_up why t).told ≡ untold t
unfolding give_up untold
given_up_items why t =
    map-append (λ (x : Told). x.item) (told_all Unknown (items_open t.open_batches)) (told_all (Unsent why) (items_queued t.queue))
    ∙ rw (told_all_items Unknown (items_open t.open_batches), told_all_items (Unsent why) (items_queued t.queue))

pub give_up_keeps : (f : Item → ℕ) (why : Reason) (t : Partition) → RuleKeeps f t (give_up why t)
unfolding give_up untold
give_up_keeps f why t = omega (arith, ap (sum_by f) (given_up_items why t))

fence_keeps : (f : Item → ℕ) (t : Partition) → RuleKeeps f t (fence t)
unfolding fence untold
fence_keeps f t = give_up_keeps f reason.Fenced t

late_and_behind : (c : Config) (now : ℕ) (q : List Pending) → items_queued q ≡ items_queued (late_front c now q) ++ items_queued (behind_late c now q)
unfolding late_front behind_late
late_and_behind c now [] = refl
late_and_behind c now (b ∷ q) = at_test (is_late c now b) (late_and_behind c now q)
  where
    at_test : (late : Bool) → items_queued q ≡ items_queued (late_front c now q) ++ items_queued (behind_late c now q)
        → items_queued (b ∷ q) ≡ items_queued (if late then b ∷ late_front c now q else [])
        ++ items_queued (if late then behind_late c now q else b ∷ q)
    at_test true e = ap (λ r. b.items ++ r) e ∙ sym (append_assoc b.items (items_queued (late_front c now q)) (items_queued (behind_late c now q)))
    at_test false e = refl

expire_keeps : (f : Item → ℕ) (c : Config) (now : ℕ) (t : Partition) → RuleKeeps f t (expire_front c now t)
unfolding untold
expire_keeps f c now t =
    let opens = items_open t.open_batches in
    let late = items_queued (late_front c now t.queue) in
    let behind = items_queued (behind_late c now t.queue) in
    let told = ap (sum_by f) (told_all_items (Unsent reason.Expired) late) in
    let parts = ap (sum_by f) (late_and_behind c now t.queue) ∙ sum_by-append f late behind in
    omega (arith, told, parts, sum_by-append f opens (items_queued t.queue), sum_by-append f opens behind)

pub heed_keeps : (f : Item → ℕ) (c : Config) (now : ℕ) (t : Partition) → RuleKeeps f t (heed_deadlines c now t)
heed_keeps f c now t = at_heed (RuleKeeps f t) c now t (λ late. fence_keeps f t) (expire_keeps f c now t)

-- ---- the batch that awaits a reply: no other of its partition awaits the same

abbrev waits_for : ℕ → Attempt → Bool
waits_for k a = elim a [ InFlight c ↦ c == k | Waiting since ↦ false ]

abbrev pub awaited_at : Attempt → List ℕ
awaited_at a = elim a [ InFlight c ↦ c ∷ [] | Waiting since ↦ [] ]

abbrev others : ℕ → List Open → List Open
others k os = filter (λ o. not (awaits k o)) os

none_awaits : (k : ℕ) (os : List Open) → is_in k (requests_awaited os) ≡ false → others k os ≡ os
none_awaits k [] e = refl
none_awaits k (o ∷ os) e = at_attempt o.attempt e (none_awaits k os)
  where
    at_test : (b : Bool) → (b || is_in k (requests_awaited os)) ≡ false → (is_in k (requests_awaited os) ≡ false → others k os ≡ os)
        → cond (not b) (o ∷ others k os) (others k os) ≡ o ∷ os
    at_test true e' rest = absurd cc
    at_test false e' rest = ap (λ r. o ∷ r) (rest e')

    at_attempt : (a : Attempt) → is_in k (awaited_at a ++ requests_awaited os) ≡ false → (is_in k (requests_awaited os) ≡ false → others k os ≡ os)
        → cond (not (waits_for k a)) (o ∷ others k os) (others k os) ≡ o ∷ os
    at_attempt (InFlight c) e' rest = at_test (c == k) e' rest
    at_attempt (Waiting since) e' rest = ap (λ r. o ∷ r) (rest e')

abbrev TakenOut : (Item → ℕ) → ℕ → List Open → Open → Type 0
TakenOut f k os o = find (awaits k) os ≡ Some o → AreDistinct (requests_awaited os)
    → sum_by f (items_open os) ≡ sum_by f o.batch.items + sum_by f (items_open (others k os))

taken_out : (f : Item → ℕ) (k : ℕ) (os : List Open) (o : Open) → find (awaits k) os ≡ Some o → AreDistinct (requests_awaited os)
    → sum_by f (items_open os) ≡ sum_by f o.batch.items + sum_by f (items_open (others k os))
taken_out f k [] o e d = absurd cc
taken_out f k (x ∷ os) o e d = at_attempt x.attempt e d (λ (e' : find (awaits k) os ≡ Some o). taken_out f k os o e')
  where
    behind : TakenOut f k os o → find (awaits k) os ≡ Some o → AreDistinct (requests_awaited os)
        → sum_by f (items_open (x ∷ os)) ≡ sum_by f o.batch.items + sum_by f (items_open (x ∷ others k os))
    behind later e' d' = omega (arith, later e' d', sum_by-append f x.batch.items (items_open os), sum_by-append f x.batch.items (items_open (others k os)))

    at_test : (c : ℕ) (b : Bool) → (c == k) ≡ b → cond b (Some x) (find (awaits k) os) ≡ Some o → AreDistinct (c ∷ requests_awaited os)
        → TakenOut f k os o
        → sum_by f (items_open (x ∷ os)) ≡ sum_by f o.batch.items + sum_by f (items_open (cond (not b) (x ∷ others k os) (others k os)))
    at_test c true is e' d' later =
        let same : x ≡ o = cc in
        let left : others k os ≡ os = none_awaits k os (subst (λ (n : ℕ). is_in n (requests_awaited os) ≡ false) (eqb-true c k is) d'.0) in
        sum_by-append f x.batch.items (items_open os)
        ∙ ap (λ (y : Open). sum_by f y.batch.items + sum_by f (items_open os)) same
        ∙ ap (λ (ys : List Open). sum_by f o.batch.items + sum_by f (items_open ys)) (sym left)
    at_test c false is e' d' later = behind later e' d'.1

    at_attempt : (a : Attempt) → cond (waits_for k a) (Some x) (find (awaits k) os) ≡ Some o → AreDistinct (awaited_at a ++ requests_awaited os)
        → TakenOut f k os o
        → sum_by f (items_open (x ∷ os)) ≡ sum_by f o.batch.items + sum_by f (items_open (cond (not (waits_for k a)) (x ∷ others k os) (others k os)))
    at_attempt (InFlight c) e' d' later = at_test c (c == k) refl e' d' later
    at_attempt (Waiting since) e' d' later = behind later e' d'

-- ---- an entry of a reply

-- what is told is the batch
without_keeps : (f : Item → ℕ) (k : ℕ) (t : Partition) (o : Open) (told : List Told) → awaiting k t ≡ Some o
    → AreDistinct (requests_awaited t.open_batches) → items_told told ≡ o.batch.items → Keeps f (untold t) told (untold (without_attempt k t))
unfolding untold
without_keeps f k t o told at d items =
    omega (
      arith,
      ap (sum_by f) items,
      taken_out f k t.open_batches o at d,
      sum_by-append f (items_open t.open_batches) (items_queued t.queue),
      sum_by-append f (items_open (others k t.open_batches)) (items_queued t.queue),
    )

by_meaning : (f : Item → ℕ) (now k : ℕ) (t : Partition) (o : Open) (a : PartitionProduceResponse) (v : Meaning) → awaiting k t ≡ Some o
    → AreDistinct (requests_awaited t.open_batches) → RuleKeeps f t (settle_by now k t o a v)
unfolding untold
by_meaning f now k t o a Stored at d = without_keeps f k t o _ at d (told_offsets_items (λ n. Delivered (a.base_offset +ℤ pos n)) 0 o.batch.items)
by_meaning f now k t o a Duplicate at d = without_keeps f k t o _ at d (told_all_items DeliveredNoOffset o.batch.items)
by_meaning f now k t o a Retry at d = let same = ap (sum_by f) (put_off_keeps now k t) in omega (arith, same)
by_meaning f now k t o a Reject at d =
    let told = told_all (Rejected a.error_code) o.batch.items in
    let rest = fence (without_attempt k t) in
    omega (
      arith,
      without_keeps f k t o told at d (told_all_items (Rejected a.error_code) o.batch.items),
      fence_keeps f (without_attempt k t),
      told-append f told rest.told,
    )

pub entries_keep : (f : Item → ℕ) (now k : ℕ) (t : Partition) (xs : List PartitionProduceResponse) → AreDistinct (requests_awaited t.open_batches)
    → RuleKeeps f t (by_entries now k t xs)
entries_keep f now k t xs d =
    at_entries (RuleKeeps f t) now k t xs (omega arith) (λ a others e o at. by_meaning f now k t o a (meaning_of a.error_code) at d)
