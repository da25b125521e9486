-- What each rule for one partition keeps of the order in it.
use Rattle.std.proofs.Common.{◌≡◌, ℕ, ◌+◌, ◌-◌, ◌<◌, ◌≤◌, ◌^◌, Bool, true, false, not, cond, List, [], ◌∷◌, ◌++◌, length, map, Some, None, inl, inr, ◌⊎◌, refl, sym, ap, ◌∙◌, subst, arith}
use Rattle.std.specs.Prelude.{filter, flat_map, sum_by, nat_le, nat_lt, if◌then◌else◌, ◌==◌}
use Rattle.std.specs.List.{AllByRecursion}
use Rattle.std.proofs.lemmas.Bool.{ne_eqb, and_parts, leb-true, ltb-true}
use Rattle.std.proofs.lemmas.List.{length-append, map-append}
use Rattle.std.proofs.lemmas.List.Concat.{flat_map-append}
use Rattle.std.proofs.lemmas.List.Sums.{sum_by-cons, sum_by_push}
use Rattle.kp_wire.proofs.ListLemmas.{all_append}
use Rattle.kp_accum.specs.declared.config.Config.{Config}
use Rattle.kp_accum.specs.declared.item.Item.{Item}
use Rattle.kp_accum.specs.Queue.{Pending, size_of, charge_of, joins, joined_by, begun_by, with_item, marked_by_flush}
use Rattle.kp_accum.specs.declared.flags.Flags.{Flags}
use Rattle.kp_accum.specs.Ready.{is_late}
use Rattle.kp_frames.specs.declared.produce.PartitionProduceResponse.{PartitionProduceResponse}
use Rattle.kp_rules.specs.Auditing.{unaudited}
use Rattle.kp_rules.specs.declared.attempt.Attempt.{Attempt}
use Rattle.kp_rules.specs.declared.attempt.Attempt.TheVariants.{InFlight, Waiting}
use Rattle.kp_rules.specs.declared.meaning.Meaning.{Meaning}
use Rattle.kp_rules.specs.declared.meaning.Meaning.TheVariants.{Stored, Duplicate, Retry, Reject}
use Rattle.kp_rules.specs.declared.outcome.Reason.{Reason}
use Rattle.kp_rules.specs.Appending.{enqueue}
use Rattle.kp_rules.specs.Attempts.{awaits, is_waiting}
use Rattle.kp_rules.specs.Dropping.{drop_attempt, drop_attempts, drop_led}
use Rattle.kp_rules.specs.Fence.{give_up, fence}
use Rattle.kp_rules.specs.Flush.{mark_open, mark}
use Rattle.kp_rules.specs.HandingOver.{opened_in, hand_over_in, again_in, send_again_in, send_in}
use Rattle.kp_rules.specs.InOrder.{IsItemOf, AreItemsOf, IsOpenOf, AreDistinct, AreRising, requests_awaited, IsEmptied, IsPartition}
use Rattle.kp_rules.specs.Leading.{moved_to, led_by}
use Rattle.kp_rules.specs.MaySend.{is_in_span, sends}
use Rattle.kp_rules.specs.Partitions.{is_in, untold}
use Rattle.kp_rules.specs.Records.{HandedBatch, Open, Partition, Effect}
use Rattle.kp_rules.specs.Replies.{go_on_under}
use Rattle.kp_rules.specs.Settling.{meaning_of, without_attempt, put_off, settle_by}
use Rattle.kp_rules.specs.Tick.{behind_late, heed_deadlines}
use Rattle.kp_rules.proofs.CallLemmas.{at_entries, at_heed, at_led, at_moved, by_entries}
use Rattle.kp_rules.proofs.ListLemmas.{IsOther, none_in, others, all_back, all_both, all_front, all_map, all_weaker, last_below}
use Rattle.kp_rules.proofs.RuleLemmas.{awaited_at, enqueue_keeps, send_keeps}
use Rattle.kp_rules.proofs.SendingLemmas.{at_sends, handed_over, sent_again}

-- ---- what is left of a list: some of its elements, in their order, each changed at most so

pub data Left {A : Type 0} (K : A → A → Type 0) : List A → List A → Type 0 where
  none : Left K [] []
  gone : {x : A} {xs ys : List A} → Left K xs ys → Left K (x ∷ xs) ys
  kept : {x y : A} {xs ys : List A} → K x y → Left K xs ys → Left K (x ∷ xs) (y ∷ ys)

abbrev pub Same : {A : Type 0} → A → A → Type 0
Same x y = y ≡ x

left_map : {A : Type 0} (K : A → A → Type 0) (f : A → A) → ((x : A) → K x (f x)) → (xs : List A) → Left K xs (map f xs)
left_map K f k [] = none
left_map K f k (x ∷ xs) = kept (k x) (left_map K f k xs)

pub left_same : {A : Type 0} (K : A → A → Type 0) → ((x : A) → K x x) → (xs : List A) → Left K xs xs
left_same K k [] = none
left_same K k (x ∷ xs) = kept (k x) (left_same K k xs)

pub left_nothing : {A : Type 0} (K : A → A → Type 0) (xs : List A) → Left K xs []
left_nothing K [] = none
left_nothing K (x ∷ xs) = gone (left_nothing K xs)

pub left_filter : {A : Type 0} (K : A → A → Type 0) → ((x : A) → K x x) → (test : A → Bool) (xs : List A) → Left K xs (filter test xs)
left_filter K k test [] = none
left_filter K k test (x ∷ xs) = at_test (test x) (left_filter K k test xs)
  where
    at_test : (b : Bool) → Left K xs (filter test xs) → Left K (x ∷ xs) (cond b (x ∷ filter test xs) (filter test xs))
    at_test true rest = kept (k x) rest
    at_test false rest = gone rest

behind : {A : Type 0} (K : A → A → Type 0) (zs : List A) {xs ys : List A} → Left K xs ys → Left K (zs ++ xs) ys
behind K [] l = l
behind K (z ∷ zs) l = gone (behind K zs l)

left_append : {A : Type 0} {K : A → A → Type 0} {xs ys us vs : List A} → Left K xs ys → Left K us vs → Left K (xs ++ us) (ys ++ vs)
left_append none m = m
left_append (gone l) m = gone (left_append l m)
left_append (kept k l) m = kept k (left_append l m)

left_flat_map : {A B : Type 0} {K : A → A → Type 0} (g : A → List B) → ((x y : A) → K x y → Left Same (g x) (g y))
    → {xs ys : List A} → Left K xs ys → Left Same (flat_map g xs) (flat_map g ys)
left_flat_map g f none = none
left_flat_map g f (gone {x} l) = behind Same (g x) (left_flat_map g f l)
left_flat_map g f (kept {x} {y} k l) = left_append (f x y k) (left_flat_map g f l)

pub left_mapped : {A B : Type 0} {K : A → A → Type 0} (g : A → B) → ((x y : A) → K x y → g y ≡ g x)
    → {xs ys : List A} → Left K xs ys → Left Same (map g xs) (map g ys)
left_mapped g f none = none
left_mapped g f (gone l) = gone (left_mapped g f l)
left_mapped g f (kept {x} {y} k l) = kept (f x y k) (left_mapped g f l)

pub left_all : {A : Type 0} {K : A → A → Type 0} (P Q : A → Type 0) → ((x y : A) → K x y → P x → Q y)
    → {xs ys : List A} → Left K xs ys → AllByRecursion P xs → AllByRecursion Q ys
left_all P Q f none h = tt
left_all P Q f (gone l) h = left_all P Q f l h.1
left_all P Q f (kept {x} {y} k l) h = (f x y k h.0, left_all P Q f l h.1)

pub left_same_all : {A : Type 0} (P : A → Type 0) {xs ys : List A} → Left Same xs ys → AllByRecursion P xs → AllByRecursion P ys
left_same_all P l h = left_all P P (λ x y e p. subst P (sym e) p) l h

pub left_none : {A : Type 0} {K : A → A → Type 0} (xs ys : List A) → Left K xs ys → xs ≡ [] → ys ≡ []
left_none xs ys none e = refl
left_none xs ys (gone l) e = absurd cc
left_none xs ys (kept k l) e = absurd cc

pub left_kept : {A : Type 0} (test : A → Bool) (xs ys : List A) → Left Same xs ys → Left Same (filter test xs) (filter test ys)
left_kept test xs ys none = none
left_kept test xs ys (gone {x} {xs = us} l) = at_test (test x) (left_kept test us ys l)
  where
    at_test : (b : Bool) → Left Same (filter test us) (filter test ys) → Left Same (cond b (x ∷ filter test us) (filter test us)) (filter test ys)
    at_test true rest = gone rest
    at_test false rest = rest
left_kept test xs ys (kept {x} {y} {xs = us} {ys = vs} k l) = subst (λ (z : _). Left Same (filter test (x ∷ us)) (filter test (z ∷ vs))) (sym k) (at_test (test x) (left_kept test us vs l))
  where
    at_test : (b : Bool) → Left Same (filter test us) (filter test vs) → Left Same (cond b (x ∷ filter test us) (filter test us)) (cond b (x ∷ filter test vs) (filter test vs))
    at_test true rest = kept refl rest
    at_test false rest = rest

pub left_length : {A : Type 0} {K : A → A → Type 0} (xs ys : List A) → Left K xs ys → length ys ≤ length xs
left_length xs ys none = omega arith
left_length xs ys (gone {xs = us} l) = omega (arith, left_length us ys l)
left_length xs ys (kept {xs = us} {ys = vs} k l) = omega (arith, left_length us vs l)

left_sum : {A : Type 0} (f : A → ℕ) (xs ys : List A) → Left Same xs ys → sum_by f ys ≤ sum_by f xs
left_sum f xs ys none = omega arith
left_sum f xs ys (gone {x} {xs = us} l) = omega (arith, left_sum f us ys l, sum_by-cons f x us)
left_sum f xs ys (kept {x} {y} {xs = us} {ys = vs} k l) = omega (arith, left_sum f us vs l, sum_by-cons f x us, sum_by-cons f y vs, ap f k)

-- ---- lists of numbers

left_out : (n : ℕ) (ns ms : List ℕ) → Left Same ns ms → is_in n ns ≡ false → is_in n ms ≡ false
left_out n ns ms l h = none_in n ms (left_same_all (IsOther n) l (others n ns h))

pub left_distinct : (ns ms : List ℕ) → Left Same ns ms → AreDistinct ns → AreDistinct ms
left_distinct ns ms none h = tt
left_distinct ns ms (gone {xs = us} l) h = left_distinct us ms l h.1
left_distinct ns ms (kept {x} {y} {xs = us} {ys = vs} k l) h =
    (ap (λ (m : ℕ). is_in m vs) k ∙ left_out x us vs l h.0, left_distinct us vs l h.1)

left_rising : (ns ms : List ℕ) → Left Same ns ms → AreRising ns → AreRising ms
left_rising ns ms none h = tt
left_rising ns ms (gone {xs = us} l) h = left_rising us ms l h.1
left_rising ns ms (kept {x} {y} {xs = us} {ys = vs} k l) h =
    (rw k (left_same_all (λ m. x < m) l h.0), left_rising us vs l h.1)

-- a number that is above all stands in no place of theirs
out_above : (k : ℕ) (ns : List ℕ) → AllByRecursion (λ n. n < k) ns → is_in k ns ≡ false
out_above k ns h = none_in k ns (all_weaker (λ n. n < k) (IsOther k) (λ n l. ne_eqb n k (λ e. omega (arith, e, l))) ns h)

pub distinct_more : (k : ℕ) (ns : List ℕ) → AllByRecursion (λ n. n < k) ns → AreDistinct ns → AreDistinct (ns ++ k ∷ [])
distinct_more k [] b h = (refl, tt)
distinct_more k (n ∷ ns) b h =
    let other : (k == n) ≡ false = ne_eqb k n (λ e. omega (arith, e, b.0)) in
    (none_in n (ns ++ k ∷ []) (all_append (IsOther n) ns (k ∷ []) (others n ns h.0) (other, tt)), distinct_more k ns b.1 h.1)

rising_more : (k : ℕ) (ns : List ℕ) → AllByRecursion (λ n. n < k) ns → AreRising ns → AreRising (ns ++ k ∷ [])
rising_more k [] b h = (tt, tt)
rising_more k (n ∷ ns) b h = (all_append (λ m. n < m) ns (k ∷ []) h.0 (b.0, tt), rising_more k ns b.1 h.1)

-- ---- a rule that hands nothing over: what is queued or open was so, and all counts stay

abbrev pub SameBatch : Open → Open → Type 0
SameBatch o q = q.batch ≡ o.batch

abbrev pub SameItems : Pending → Pending → Type 0
SameItems b d = d.items ≡ b.items

pub record Shrinks (t u : Partition) : Type 0 where
  pub queue : Left SameItems t.queue u.queue
  pub opens : Left SameBatch t.open_batches u.open_batches
  pub attempts : Left Same (requests_awaited t.open_batches) (requests_awaited u.open_batches)
  pub leader : (u.leader ≡ t.leader) ⊎ (requests_awaited u.open_batches ≡ [])
  pub ids : u.ids ≡ t.ids
  pub next_number : u.next_number ≡ t.next_number
  pub next_sequence : u.next_sequence ≡ t.next_sequence
  pub attempts_sent : u.attempts_sent ≡ t.attempts_sent
  pub fenced : u.fenced ≡ true → (t.fenced ≡ true) ⊎ IsEmptied u

-- a batch may be open in the one as in the other
opens_kept : (c : Config) (senders p : ℕ) (t u : Partition) → u.next_number ≡ t.next_number → Left SameBatch t.open_batches u.open_batches
    → AllByRecursion (IsOpenOf c senders p t) t.open_batches → AllByRecursion (IsOpenOf c senders p u) u.open_batches
opens_kept c senders p t u n l h = left_all (IsOpenOf c senders p t) (IsOpenOf c senders p u) same l h
  where
    same : (o q : Open) → q.batch ≡ o.batch → IsOpenOf c senders p t o → IsOpenOf c senders p u q
    same o q e is = record {
      items = rw e is.items;
      number = rw (e, n) is.number;
      span = rw (e, n) is.span;
      id = rw e is.id;
      sequence = rw e is.sequence;
    }

all_open : (t : Partition) → Left SameBatch t.open_batches t.open_batches
all_open t = left_same SameBatch (λ o. refl) t.open_batches

number_same : (o q : Open) → q.batch ≡ o.batch → q.batch.number ≡ o.batch.number
number_same o q e = ap (λ (b : HandedBatch). b.number) e

pub emptied : {t u : Partition} → Shrinks t u → IsEmptied t → IsEmptied u
emptied {t} {u} k h = record {
  queue = left_none t.queue u.queue k.queue h.queue;
  open_batches = left_none t.open_batches u.open_batches k.opens h.open_batches;
}

pub shrunk : {c : Config} {senders n p : ℕ} {t u : Partition} → Shrinks t u → IsPartition c senders n p t → IsPartition c senders n p u
shrunk {c} {senders} {n} {p} {t} {u} k h = record {
  queue = left_all (λ b. AreItemsOf c senders p b.items) (λ b. AreItemsOf c senders p b.items) (λ b d e is. rw e is) k.queue h.queue;
  opens = opens_kept _ _ _ t u k.next_number k.opens h.opens;
  rising = left_rising _ _ (left_mapped (λ (o : Open). o.batch.number) number_same k.opens) h.rising;
  attempts = left_distinct _ _ k.attempts h.attempts;
  attempted = left_same_all (λ m. m < n) k.attempts h.attempted;
  ids = rw k.ids h.ids;
  known = rw k.ids h.known;
  sequence = rw k.next_sequence h.sequence;
  handed_over = rw (k.next_number, k.attempts_sent) h.handed_over;
  sent = rw k.attempts_sent h.sent;
  fenced = λ f. elim (k.fenced f) [ inl was ↦ emptied k (h.fenced was) | inr now ↦ now ];
}

-- ---- the memory

abbrev pub load : Partition → ℕ
load t = sum_by charge_of (untold t)

untold_left : (t u : Partition) → Left SameItems t.queue u.queue → Left SameBatch t.open_batches u.open_batches → Left Same (untold t) (untold u)
unfolding untold
untold_left t u q o = left_append
    (left_flat_map (λ (x : Open). x.batch.items) (λ x y e. of_path (ap (λ (b : HandedBatch). b.items) e)) o)
    (left_flat_map (λ (b : Pending). b.items) (λ x y e. of_path e) q)
  where
    of_path : {is js : List Item} → js ≡ is → Left Same is js
    of_path {is} {js} e = subst (Left Same is) (sym e) (left_same Same (λ i. refl) is)

pub lighter : {t u : Partition} → Shrinks t u → load u ≤ load t
lighter {t} {u} k = left_sum charge_of (untold t) (untold u) (untold_left t u k.queue k.opens)

-- ---- each rule that hands nothing over

abbrev pub awaited_of : Open → List ℕ
awaited_of o = awaited_at o.attempt

abbrev dropped_at : ℕ → Attempt → Attempt
dropped_at now a = elim a [ InFlight c ↦ Waiting now | Waiting since ↦ Waiting since ]

-- the same batch, whose last attempt is the same, or is in flight no more
record KeepsOpen (o q : Open) : Type 0 where
  batch : q.batch ≡ o.batch
  attempt : Left Same (awaited_of o) (awaited_of q)

keeps_open : (o : Open) → KeepsOpen o o
keeps_open o = record { batch = refl; attempt = left_same Same (λ n. refl) (awaited_of o) }

left_weaker : {A : Type 0} {K : A → A → Type 0} (L : A → A → Type 0) → ((x y : A) → K x y → L x y) → {xs ys : List A} → Left K xs ys → Left L xs ys
left_weaker L f none = none
left_weaker L f (gone l) = gone (left_weaker L f l)
left_weaker L f (kept {x} {y} k l) = kept (f x y k) (left_weaker L f l)

-- with the identity, counts and fence as they were
shrinks_to : (t : Partition) (q : List Pending) (os : List Open) (acknowledged : Bool) → Left SameItems t.queue q → Left KeepsOpen t.open_batches os
    → Shrinks t (record t { queue = q; open_batches = os; acknowledged = acknowledged })
shrinks_to t q os acknowledged l m = record {
  queue = l;
  opens = left_weaker SameBatch (λ x y k. k.batch) m;
  attempts = left_flat_map awaited_of (λ x y k. k.attempt) m;
  leader = inl refl;
  ids = refl;
  next_number = refl;
  next_sequence = refl;
  attempts_sent = refl;
  fenced = λ f. inl f;
}

same_queue : (t : Partition) → Left SameItems t.queue t.queue
same_queue t = left_same SameItems (λ b. refl) t.queue

same_opens : (t : Partition) → Left KeepsOpen t.open_batches t.open_batches
same_opens t = left_same KeepsOpen keeps_open t.open_batches

pub shrinks_same : (t : Partition) → Shrinks t t
shrinks_same t = shrinks_to t t.queue t.open_batches t.acknowledged (same_queue t) (same_opens t)

pub shrinks_dropped : (now : ℕ) (t : Partition) → Shrinks t (drop_attempts now t)
shrinks_dropped now t = shrinks_to t t.queue (map (drop_attempt now) t.open_batches) t.acknowledged (same_queue t)
    (left_map KeepsOpen (drop_attempt now) (λ o. record { batch = refl; attempt = at_attempt o.attempt }) t.open_batches)
  where
    at_attempt : (a : Attempt) → Left Same (awaited_at a) (awaited_at (dropped_at now a))
    at_attempt (InFlight k) = left_nothing Same (k ∷ [])
    at_attempt (Waiting since) = none

pub shrinks_led : (node now : ℕ) (t : Partition) → Shrinks t (drop_led node now t)
shrinks_led node now t = at_led (Shrinks t) node now t (shrinks_dropped now t) (shrinks_same t)

pub none_in_flight : (now : ℕ) (os : List Open) → requests_awaited (map (drop_attempt now) os) ≡ []
none_in_flight now [] = refl
none_in_flight now (o ∷ os) = at_attempt o.attempt (none_in_flight now os)
  where
    at_attempt : (a : Attempt) → requests_awaited (map (drop_attempt now) os) ≡ [] → awaited_at (dropped_at now a) ++ requests_awaited (map (drop_attempt now) os) ≡ []
    at_attempt (InFlight k) rest = rest
    at_attempt (Waiting since) rest = rest

shrinks_moved : (leader now : ℕ) (t : Partition) → Shrinks t (moved_to leader now t)
shrinks_moved leader now t =
    let dropped = shrinks_dropped now t in
    record {
      queue = dropped.queue;
      opens = dropped.opens;
      attempts = dropped.attempts;
      leader = inr (none_in_flight now t.open_batches);
      ids = refl;
      next_number = refl;
      next_sequence = refl;
      attempts_sent = refl;
      fenced = λ e. inl e;
    }

pub shrinks_lead : (leader now : ℕ) (t : Partition) → Shrinks t (led_by leader now t)
shrinks_lead leader now t = at_moved (Shrinks t) leader now t (shrinks_same t) (shrinks_moved leader now t)

pub shrinks_marked : (t : Partition) → Shrinks t (mark t)
shrinks_marked t = shrinks_to t (map marked_by_flush t.queue) (map mark_open t.open_batches) t.acknowledged
    (left_map SameItems marked_by_flush (λ b. refl) t.queue)
    (left_map KeepsOpen mark_open (λ o. record { batch = refl; attempt = (keeps_open o).attempt }) t.open_batches)

pub shrinks_unaudited : (t : Partition) → Shrinks t (unaudited t)
shrinks_unaudited t =
    let same = shrinks_same t in
    record {
      queue = same.queue;
      opens = same.opens;
      attempts = same.attempts;
      leader = inl refl;
      ids = refl;
      next_number = refl;
      next_sequence = refl;
      attempts_sent = refl;
      fenced = λ e. inl e;
    }

pub shrinks_given_up : (why : Reason) (t : Partition) → Shrinks t (give_up why t).after
unfolding give_up
shrinks_given_up why t = shrinks_to t [] [] t.acknowledged (left_nothing SameItems t.queue) (left_nothing KeepsOpen t.open_batches)

pub given_up_empty : (why : Reason) (t : Partition) → IsEmptied (give_up why t).after
unfolding give_up
given_up_empty why t = record { queue = refl; open_batches = refl }

shrinks_fenced : (t : Partition) → Shrinks t (fence t).after
unfolding fence give_up
shrinks_fenced t = record {
  queue = left_nothing SameItems t.queue;
  opens = left_nothing SameBatch t.open_batches;
  attempts = left_nothing Same (requests_awaited t.open_batches);
  leader = inl refl;
  ids = refl;
  next_number = refl;
  next_sequence = refl;
  attempts_sent = refl;
  fenced = λ f. inr (record { queue = refl; open_batches = refl });
}

left_behind_late : (c : Config) (now : ℕ) (q : List Pending) → Left SameItems q (behind_late c now q)
unfolding behind_late
left_behind_late c now [] = none
left_behind_late c now (b ∷ q) = at_test (is_late c now b) (left_behind_late c now q)
  where
    at_test : (late : Bool) → Left SameItems q (behind_late c now q) → Left SameItems (b ∷ q) (if late then behind_late c now q else b ∷ q)
    at_test true rest = gone rest
    at_test false rest = left_same SameItems (λ d. refl) (b ∷ q)

pub shrinks_passed : (c : Config) (now : ℕ) (t : Partition) → Shrinks t (heed_deadlines c now t).after
shrinks_passed c now t = at_heed (λ (x : Effect). Shrinks t x.after) c now t (λ late. shrinks_fenced t)
    (shrinks_to t (behind_late c now t.queue) t.open_batches t.acknowledged (left_behind_late c now t.queue) (same_opens t))

-- ---- an answer

without : (k : ℕ) (t : Partition) → Left KeepsOpen t.open_batches (without_attempt k t).open_batches
without k t = left_filter KeepsOpen keeps_open (λ o. not (awaits k o)) t.open_batches

keeps_put_off : (now k : ℕ) (o : Open) → KeepsOpen o (put_off now k o)
keeps_put_off now k o = at_test (awaits k o)
  where
    at_test : (b : Bool) → KeepsOpen o (if b then (record o { attempt = Waiting now }) else o)
    at_test true = record { batch = refl; attempt = left_nothing Same (awaited_of o) }
    at_test false = keeps_open o

shrinks_by : (now k : ℕ) (t : Partition) (o : Open) (entry : PartitionProduceResponse) (meaning : Meaning) → Shrinks t (settle_by now k t o entry meaning).after
unfolding fence give_up
shrinks_by now k t o entry Stored = shrinks_to t t.queue (without_attempt k t).open_batches _ (same_queue t) (without k t)
shrinks_by now k t o entry Duplicate = shrinks_to t t.queue (without_attempt k t).open_batches _ (same_queue t) (without k t)
shrinks_by now k t o entry Retry = shrinks_to t t.queue (map (put_off now k) t.open_batches) t.acknowledged (same_queue t)
    (left_map KeepsOpen (put_off now k) (keeps_put_off now k) t.open_batches)
shrinks_by now k t o entry Reject = shrinks_fenced t

pub shrinks_entries : (now k : ℕ) (t : Partition) (xs : List PartitionProduceResponse) → Shrinks t (by_entries now k t xs).after
shrinks_entries now k t xs = at_entries (λ (x : Effect). Shrinks t x.after) now k t xs (shrinks_same t) (λ a others e o is. shrinks_by now k t o a (meaning_of a.error_code))

-- ---- a later correlation id, a fresh producer id, and one item more

pub later : {c : Config} {senders k p : ℕ} {t : Partition} (n : ℕ) → k ≤ n → IsPartition c senders k p t → IsPartition c senders n p t
later {k} {t} n l h = record {
  queue = h.queue;
  opens = h.opens;
  rising = h.rising;
  attempts = h.attempts;
  attempted = all_weaker (λ m. m < k) (λ m. m < n) (λ m s. omega (arith, s, l)) (requests_awaited t.open_batches) h.attempted;
  ids = h.ids;
  known = h.known;
  sequence = h.sequence;
  handed_over = h.handed_over;
  sent = omega (arith, h.sent, l);
  fenced = h.fenced;
}

pub gone_on : {c : Config} {senders k p : ℕ} {t : Partition} (id : ℕ) → id < 2 ^ 63 → IsPartition c senders k p t → IsPartition c senders k p (go_on_under id t)
gone_on {t} id small h = record {
  queue = h.queue;
  opens = opens_kept _ _ _ t (go_on_under id t) refl (all_open t) h.opens;
  rising = h.rising;
  attempts = h.attempts;
  attempted = h.attempted;
  ids = all_append (λ i. i < 2 ^ 63) t.ids (id ∷ []) h.ids (small, tt);
  known = omega (arith, length-append t.ids (id ∷ []));
  sequence = omega arith;
  handed_over = h.handed_over;
  sent = h.sent;
  fenced = λ f. let e = h.fenced f in record { queue = e.queue; open_batches = e.open_batches };
}

-- what an item has to be that is queued
pub record IsNew (c : Config) (senders p : ℕ) (i : Item) : Type 0 where
  pub is : IsItemOf senders p i
  pub fits : charge_of i ≤ c.max_request_size
  pub room : c.batch_size ≤ c.max_request_size

queued : (c : Config) (senders p : ℕ) (i : Item) → IsNew c senders p i → (q : List Pending)
    → AllByRecursion (λ b. AreItemsOf c senders p b.items) q → AllByRecursion (λ b. AreItemsOf c senders p b.items) (with_item c i q)
unfolding with_item joins
queued c senders p i new [] h = (record { some = omega arith; fits = new.fits; each = (new.is, tt) }, tt)
queued c senders p i new (b ∷ []) h = at_test (joins c i b) refl
  where
    joined : joins c i b ≡ true → size_of (b.items ++ i ∷ []) ≤ c.max_request_size
    joined e =
        let parts = and_parts (nat_le (size_of (b.items ++ i ∷ [])) c.batch_size) (nat_lt (length b.items) c.sequence_limit) e in
        omega (arith, leb-true (size_of (b.items ++ i ∷ [])) c.batch_size parts.0, new.room)

    at_test : (t : Bool) → joins c i b ≡ t → AllByRecursion (λ d. AreItemsOf c senders p d.items) (if t then joined_by i b ∷ [] else b ∷ begun_by i ∷ [])
    at_test true e = (
      record {
        some = omega (arith, length-append b.items (i ∷ []));
        fits = joined e;
        each = all_append (IsItemOf senders p) b.items (i ∷ []) h.0.each (new.is, tt);
      },
      tt,
    )
    at_test false e = (h.0, (record { some = omega arith; fits = new.fits; each = (new.is, tt) }, tt))
queued c senders p i new (b ∷ d ∷ q) h = (h.0, queued c senders p i new (d ∷ q) h.1)

pub enqueued : {c : Config} {senders k p : ℕ} {i : Item} {t : Partition} → IsNew c senders p i → t.fenced ≡ false → IsPartition c senders k p t
    → IsPartition c senders k p (enqueue c i t)
enqueued {c} {senders} {p} {i} {t} new free h = record {
  queue = queued c senders p i new t.queue h.queue;
  opens = opens_kept _ _ _ t (enqueue c i t) refl (all_open t) h.opens;
  rising = h.rising;
  attempts = h.attempts;
  attempted = h.attempted;
  ids = h.ids;
  known = h.known;
  sequence = h.sequence;
  handed_over = h.handed_over;
  sent = h.sent;
  fenced = λ f. absurd cc;
}

pub heavier : (c : Config) (i : Item) (t : Partition) → load (enqueue c i t) ≡ load t + charge_of i
heavier c i t = ap (sum_by charge_of) (enqueue_keeps c i t) ∙ sum_by_push charge_of (untold t) i

-- ---- the lowest batch that waits goes out again

left_again : (k : ℕ) (os : List Open) → Left SameBatch os (send_again_in k os)
unfolding send_again_in
left_again k [] = none
left_again k (o ∷ os) = at_test (is_waiting o) (left_again k os)
  where
    at_test : (b : Bool) → Left SameBatch os (send_again_in k os) → Left SameBatch (o ∷ os) (if b then again_in k o ∷ os else o ∷ send_again_in k os)
    at_test true rest = kept refl (left_same SameBatch (λ q. refl) os)
    at_test false rest = kept refl rest

pub all_awaited : (P : ℕ → Type 0) (k : ℕ) → P k → (os : List Open) → AllByRecursion P (requests_awaited os) → AllByRecursion P (requests_awaited (send_again_in k os))
unfolding send_again_in
all_awaited P k it [] h = tt
all_awaited P k it (o ∷ os) h = at_test (is_waiting o) (all_awaited P k it os (all_back P (awaited_of o) (requests_awaited os) h))
  where
    at_test : (b : Bool) → AllByRecursion P (requests_awaited (send_again_in k os))
        → AllByRecursion P (requests_awaited (if b then again_in k o ∷ os else o ∷ send_again_in k os))
    at_test true rest = (it, all_back P (awaited_of o) (requests_awaited os) h)
    at_test false rest = all_append P (awaited_of o) (requests_awaited (send_again_in k os)) (all_front P (awaited_of o) (requests_awaited os) h) rest

distinct_again : (k : ℕ) (os : List Open) → AllByRecursion (λ n. n < k) (requests_awaited os)
    → AreDistinct (requests_awaited os) → AreDistinct (requests_awaited (send_again_in k os))
unfolding send_again_in
distinct_again k [] below h = tt
distinct_again k (o ∷ os) below h = at_test (is_waiting o) (distinct_again k os below_others distinct_others)
  where
    below_others : AllByRecursion (λ n. n < k) (requests_awaited os)
    below_others = all_back (λ n. n < k) (awaited_of o) (requests_awaited os) below

    distinct_others : AreDistinct (requests_awaited os)
    distinct_others = left_distinct (awaited_of o ++ requests_awaited os) (requests_awaited os)
        (behind Same (awaited_of o) (left_same Same (λ n. refl) (requests_awaited os))) h

    at_attempt : (a : Attempt) → AllByRecursion (λ n. n < k) (awaited_at a ++ requests_awaited os) → AreDistinct (awaited_at a ++ requests_awaited os)
        → AreDistinct (requests_awaited (send_again_in k os)) → AreDistinct (awaited_at a ++ requests_awaited (send_again_in k os))
    at_attempt (InFlight n) b d rest =
        (none_in n _ (all_awaited (IsOther n) k (ne_eqb k n (λ e. omega (arith, e, b.0))) os (others n (requests_awaited os) d.0)), rest)
    at_attempt (Waiting since) b d rest = rest

    at_test : (b : Bool) → AreDistinct (requests_awaited (send_again_in k os))
        → AreDistinct (requests_awaited (if b then again_in k o ∷ os else o ∷ send_again_in k os))
    at_test true rest = (out_above k (requests_awaited os) below_others, distinct_others)
    at_test false rest = at_attempt o.attempt below h rest

goes_again : {c : Config} {senders k p : ℕ} {t : Partition} → t.fenced ≡ false → IsPartition c senders k p t → IsPartition c senders (k + 1) p (sent_again k t)
goes_again {k} {t} free h = record {
  queue = h.queue;
  opens = opens_kept _ _ _ t (sent_again k t) refl (left_again k t.open_batches) h.opens;
  rising = left_rising _ _ (left_mapped (λ (o : Open). o.batch.number) number_same (left_again k t.open_batches)) h.rising;
  attempts = distinct_again k t.open_batches h.attempted h.attempts;
  attempted = all_awaited (λ n. n < k + 1) k (omega arith) t.open_batches (later (k + 1) (omega arith) h).attempted;
  ids = h.ids;
  known = h.known;
  sequence = h.sequence;
  handed_over = omega (arith, h.handed_over);
  sent = omega (arith, h.sent);
  fenced = λ f. absurd cc;
}

-- ---- the front batch goes out

abbrev InSpan : ℕ → ℕ → Open → Type 0
InSpan most n o = n + 1 ≤ o.batch.number + most

-- the lowest open batch stands first
all_in_span : (c : Config) (n : ℕ) (os : List Open) → is_in_span c n os ≡ true → AreRising (map (λ o. o.batch.number) os)
    → AllByRecursion (InSpan c.max_in_flight_requests_per_connection n) os
unfolding is_in_span
all_in_span c n [] e h = tt
all_in_span c n (o ∷ os) e h = (omega (arith, lowest), above os h.0)
  where
    lowest : n - o.batch.number < c.max_in_flight_requests_per_connection
    lowest = ltb-true (n - o.batch.number) c.max_in_flight_requests_per_connection e

    above : (qs : List Open) → AllByRecursion (λ m. o.batch.number < m) (map (λ q. q.batch.number) qs)
        → AllByRecursion (InSpan c.max_in_flight_requests_per_connection n) qs
    above [] a = tt
    above (q ∷ qs) a = (omega (arith, lowest, a.0), above qs a.1)

-- what lets a partition hand its front batch over
record IsLetOut (c : Config) (t : Partition) (front : Pending) : Type 0 where
  free : t.fenced ≡ false
  some : 1 ≤ c.max_in_flight_requests_per_connection
  span : is_in_span c t.next_number t.open_batches ≡ true
  limit : t.next_sequence + length front.items ≤ c.sequence_limit

goes_first : {c : Config} {senders k p : ℕ} {t : Partition} {front : Pending} {rest : List Pending} → IsLetOut c t front → t.queue ≡ front ∷ rest
    → IsPartition c senders k p t → IsPartition c senders (k + 1) p (hand_over_in k t (front ∷ rest))
unfolding hand_over_in
goes_first {c} {senders} {k} {p} {t} {front} {rest} out e h = record {
  queue = waiting.1;
  opens = all_append (IsOpenOf c senders p u) t.open_batches (o ∷ [])
      (all_both (IsOpenOf c senders p t) (InSpan c.max_in_flight_requests_per_connection t.next_number) (IsOpenOf c senders p u) still t.open_batches
      h.opens (all_in_span c t.next_number t.open_batches out.span h.rising)) (new, tt);
  rising = rw (map-append (λ (x : Open). x.batch.number) t.open_batches (o ∷ [])) (rising_more t.next_number _ numbers h.rising);
  attempts = rw awaited (distinct_more k (requests_awaited t.open_batches) h.attempted h.attempts);
  attempted = rw awaited (all_append (λ n. n < k + 1) (requests_awaited t.open_batches) (k ∷ [])
      (later (k + 1) (omega arith) h).attempted (omega arith, tt));
  ids = h.ids;
  known = h.known;
  sequence = out.limit;
  handed_over = omega (arith, h.handed_over);
  sent = omega (arith, h.sent);
  fenced = λ f. absurd (let is = out.free in cc);
}
  where
    o : Open
    o = opened_in k t front

    u : Partition
    u = hand_over_in k t (front ∷ rest)

    waiting : AllByRecursion (λ b. AreItemsOf c senders p b.items) (front ∷ rest)
    waiting = subst (AllByRecursion (λ (b : Pending). AreItemsOf c senders p b.items)) e h.queue

    new : IsOpenOf c senders p u o
    new = record {
      items = waiting.0;
      number = omega arith;
      span = omega (arith, out.some);
      id = last_below (2 ^ 63) None t.ids (omega arith) h.ids;
      sequence = out.limit;
    }

    numbers : AllByRecursion (λ m. m < t.next_number) (map (λ x. x.batch.number) t.open_batches)
    numbers = all_map (IsOpenOf c senders p t) (λ m. m < t.next_number) (λ x. x.batch.number) (λ x is. is.number) t.open_batches h.opens

    awaited : requests_awaited (t.open_batches ++ o ∷ []) ≡ requests_awaited t.open_batches ++ k ∷ []
    awaited = flat_map-append awaited_of t.open_batches (o ∷ [])

    still : (x : Open) → IsOpenOf c senders p t x → InSpan c.max_in_flight_requests_per_connection t.next_number x → IsOpenOf c senders p u x
    still x is span = record { items = is.items; number = omega (arith, is.number); span = span; id = is.id; sequence = is.sequence }

-- ---- what a partition may send goes out

pub goes_out : {c : Config} {senders k p : ℕ} {t : Partition} (flags : Flags) (now : ℕ) (b : HandedBatch) → sends c flags now t ≡ Some b
    → 1 ≤ c.max_in_flight_requests_per_connection → IsPartition c senders k p t → IsPartition c senders (k + 1) p (send_in k t)
goes_out {c} {senders} {k} {p} {t} flags now b e some h = at_sends (λ x u. IsPartition c senders (k + 1) p u) c flags now k t (record {
  again = λ free o is. goes_again free h;
  first = λ free front rest q may.
      let let_out = handed_over c flags now t front may in
      goes_first (record { free = free; some = some; span = let_out.0; limit = let_out.1 }) q h;
}) b e

pub as_heavy : (k : ℕ) (t : Partition) → load (send_in k t) ≡ load t
as_heavy k t = ap (sum_by charge_of) (send_keeps k t)
