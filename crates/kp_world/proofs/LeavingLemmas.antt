-- What a call on the core leaves of each partition, where it acknowledges only batches that are stored: the other batches
-- stay open unless the partition is fenced, in their order, and none is in flight that was not. Only handing over, and a
-- fresh id, do more.
use Rattle.kp_rules.specs.Leading.{moved_to, led_by, lead_step}
use Rattle.kp_rules.specs.Closing.{end_all}
use Rattle.kp_rules.specs.Attempts.{is_live, goes_to}
use Rattle.kp_rules.specs.Records.{Request, quietly}
use Rattle.kp_rules.proofs.OutcomeLemmas.{by_attempt}
use Rattle.kp_rules.proofs.PartitionLemmas.{one_changed}
use Rattle.kp_rules.specs.Records.{Called}
use Rattle.kp_rules.specs.Tick.{tick_partitions}
use Rattle.std.proofs.Common.{◌≡◌, ◌⊎◌, ℕ, ◌<◌, Bool, true, false, not, cond, List, [], ◌∷◌, length, map, Some, None, refl, sym, ap, ◌∙◌, subst, inl, inr, ⊎_elim}
use Rattle.std.specs.Prelude.{Option, if◌then◌else◌, ◌==◌, ◌||◌, slice_set}
use Rattle.std.specs.List.{AllByRecursion, filter, list_any}
use Rattle.std.proofs.lemmas.Bool.{eqb-true, and_parts}
use Rattle.std.proofs.lemmas.List.{get_or-map, length-map, length-set}
use Rattle.kp_accum.specs.declared.config.Config.{Config}
use Rattle.kp_accum.specs.declared.item.Item.{Item}
use Rattle.kp_frames.specs.declared.produce.PartitionProduceResponse.{PartitionProduceResponse}
use Rattle.kp_log.proofs.PlaceLemmas.{In, In-nil, In-cons, In-head, In-tail, In-filter}
use Rattle.kp_rules.proofs.CallLemmas.{at_append, at_tick, at_led, at_moved}
use Rattle.kp_rules.specs.declared.outcome.Reason.{Reason}
use Rattle.kp_rules.specs.declared.outcome.Reason.TheVariants as reason
use Rattle.kp_rules.specs.Appending.{append_step}
use Rattle.kp_rules.specs.Closing.{close_step, end_step}
use Rattle.kp_rules.specs.Dropping.{drop_requests, drop_led}
use Rattle.kp_rules.specs.Fence.{fence, give_up}
use Rattle.kp_rules.specs.Flush.{flush_step}
use Rattle.kp_rules.specs.Tick.{tick_step, heed_deadlines}
use Rattle.kp_rules.specs.declared.attempt.Attempt.{Attempt}
use Rattle.kp_rules.specs.declared.attempt.Attempt.TheVariants.{InFlight, Waiting}
use Rattle.kp_rules.specs.declared.meaning.Meaning.{Meaning}
use Rattle.kp_rules.specs.declared.meaning.Meaning.TheVariants.{Stored, Duplicate, Retry, Reject}
use Rattle.kp_rules.specs.Appending.{Appends, turn_away, enqueue}
use Rattle.kp_rules.specs.Attempts.{awaits, awaiting}
use Rattle.kp_rules.specs.Auditing.{unaudited, without_audits}
use Rattle.kp_rules.specs.Dropping.{drop_attempt, drop_attempts, disconnect_step}
use Rattle.kp_rules.specs.Flush.{mark_open, mark}
use Rattle.kp_rules.specs.Partitions.{partition_at, changed_at, new_partition, is_in, present_id}
use Rattle.kp_rules.specs.Records.{HandedBatch, Open, Partition, Core}
use Rattle.kp_rules.specs.Settling.{without_attempt, put_off, is_first_under_id, meaning_of, settle_by, settle_batch}
use Rattle.kp_rules.specs.Telling.{with_partitions, at_each}
use Rattle.kp_rules.specs.Tick.{Ticks, expire_front, is_open_late}
use Rattle.kp_rules.proofs.PartitionLemmas.{length-changed_at, at-changed_at}
use Rattle.kp_world.proofs.KeepingLemmas.{Keeps, keeps_same, keeps_more, keeps_dropped, keeps_marked, keeps_queued, keeps_fenced, keeps_given_up, keeps_expired, keeps_without, keeps_settled, keeps_moved}
use Rattle.kp_rules.proofs.ListLemmas.{all_filter, all_map, at_put}
use Rattle.kp_world.proofs.ListLemmas.{found_in, left_in}

-- ---- open batches

-- their numbers rise
abbrev pub Rising : List Open → Type 0
Rising [] = Unit {0}
Rising (o ∷ os) = AllByRecursion (λ (x : Open). o.batch.number < x.batch.number) os × Rising os

-- an open batch that was one of these, and is in flight only where it was
pub record CameFrom (os : List Open) (o' : Open) : Type 0 where
  pub it : Open
  pub there : In it os
  pub batch : o'.batch ≡ it.batch
  pub flight : (k : ℕ) → o'.attempt ≡ InFlight k → it.attempt ≡ InFlight k

-- the batch is open
pub record IsOpen (os : List Open) (b : HandedBatch) : Type 0 where
  pub it : Open
  pub there : In it os
  pub batch : it.batch ≡ b

-- ---- one partition

-- Only batches of P were acknowledged. Where it is fenced, or all was given up, nothing need be open.
pub record Leaves (P : HandedBatch → Type 0) (gave_up : Bool) (t t' : Partition) : Type 0 where
  pub opens : (o : Open) → In o t'.open_batches → CameFrom t.open_batches o
  pub rises : Rising t.open_batches → Rising t'.open_batches
  pub stays : gave_up ≡ false → t'.fenced ≡ false → (o : Open) → In o t.open_batches → P o.batch ⊎ IsOpen t'.open_batches o.batch
  pub fence : t'.fenced ≡ false → t.fenced ≡ false
  pub acknowledged : t'.acknowledged ≡ true → (t.acknowledged ≡ true) ⊎ ((o : Open) × In o t.open_batches × P o.batch × (o.batch.id ≡ present_id t))
  pub keeps : Keeps t t'

came_same : (os : List Open) (o : Open) → In o os → CameFrom os o
came_same os o i = record { it = o; there = i; batch = refl; flight = λ k e. e }

is_open : (os : List Open) (o : Open) → In o os → IsOpen os o.batch
is_open os o i = record { it = o; there = i; batch = refl }

pub leaves_same : (P : HandedBatch → Type 0) (e : Bool) (t : Partition) → Leaves P e t t
leaves_same P e t = record {
  opens = λ o i. came_same t.open_batches o i;
  rises = λ r. r;
  stays = λ g f o i. inr (is_open t.open_batches o i);
  fence = λ f. f;
  acknowledged = λ a. inl a;
  keeps = keeps_same t;
}

leaves_more : (P : HandedBatch → Type 0) (e : Bool) (t u v : Partition) → Leaves P e t u → Leaves P e u v → Leaves P e t v
leaves_more P e t u v k l = record {
  opens = λ o i. let m = l.opens o i in let n = k.opens m.it m.there in
      record { it = n.it; there = n.there; batch = m.batch ∙ n.batch; flight = λ q a. n.flight q (m.flight q a) };
  rises = λ r. l.rises (k.rises r);
  stays = λ g f o i. ⊎_elim (λ (p : P o.batch). inl p) (λ (x : IsOpen u.open_batches o.batch). still g f o x) (k.stays g (l.fence f) o i);
  fence = λ f. k.fence (l.fence f);
  acknowledged = λ a. ⊎_elim (λ (b : u.acknowledged ≡ true). k.acknowledged b) (λ (x : (o : Open) × In o u.open_batches × P o.batch × (o.batch.id ≡ present_id u)). inr (before x.0 x.1 x.2 x.3)) (l.acknowledged a);
  keeps = keeps_more t u v k.keeps l.keeps;
}
  where
    still : e ≡ false → v.fenced ≡ false → (o : Open) → IsOpen u.open_batches o.batch → P o.batch ⊎ IsOpen v.open_batches o.batch
    still g f o x = subst (λ (b : HandedBatch). P b ⊎ IsOpen v.open_batches b) x.batch (l.stays g f x.it x.there)

    before : (o : Open) → In o u.open_batches → P o.batch → o.batch.id ≡ present_id u → (x : Open) × In x t.open_batches × P x.batch × (x.batch.id ≡ present_id t)
    before o i p s =
        let m = k.opens o i in
        (m.it, m.there, subst P m.batch p, sym (ap (λ (b : HandedBatch). b.id) m.batch) ∙ s ∙ same_present k.keeps.ids)
      where
        same_present : u.ids ≡ t.ids → present_id u ≡ present_id t
        same_present q = rw q refl

-- ---- each open batch changed alike, or some left out

record Alike (f : Open → Open) : Type 0 where
  pub batch : (o : Open) → (f o).batch ≡ o.batch
  pub flight : (o : Open) (k : ℕ) → (f o).attempt ≡ InFlight k → o.attempt ≡ InFlight k

mapped_from : (f : Open → Open) → Alike f → (os : List Open) (o : Open) → In o (map f os) → CameFrom os o
mapped_from f a [] o i = absurd (In-nil o i)
mapped_from f a (x ∷ os) o i = ⊎_elim (λ (same : o ≡ f x). subst (CameFrom (x ∷ os)) (sym same) (record { it = x; there = In-head x os; batch = a.batch x; flight = a.flight x })) (λ (j : In o (map f os)). further (mapped_from f a os o j)) (In-cons o (f x) (map f os) i)
  where
    further : CameFrom os o → CameFrom (x ∷ os) o
    further c = record { it = c.it; there = In-tail c.it x os c.there; batch = c.batch; flight = c.flight }

mapped_open : (f : Open → Open) → Alike f → (os : List Open) (o : Open) → In o os → IsOpen (map f os) o.batch
mapped_open f a [] o i = absurd (In-nil o i)
mapped_open f a (x ∷ os) o i = ⊎_elim (λ (same : o ≡ x). subst (λ (y : Open). IsOpen (f x ∷ map f os) y.batch) (sym same) (record { it = f x; there = In-head (f x) (map f os); batch = a.batch x })) (λ (j : In o os). further (mapped_open f a os o j)) (In-cons o x os i)
  where
    further : IsOpen (map f os) o.batch → IsOpen (f x ∷ map f os) o.batch
    further c = record { it = c.it; there = In-tail c.it (f x) (map f os) c.there; batch = c.batch }

rising_mapped : (f : Open → Open) → Alike f → (os : List Open) → Rising os → Rising (map f os)
rising_mapped f a [] h = tt
rising_mapped f a (x ∷ os) h = (
  all_map (λ (y : Open). x.batch.number < y.batch.number) (λ (y : Open). (f x).batch.number < y.batch.number) f (λ y less. subst (λ (b : HandedBatch). b.number < (f y).batch.number) (sym (a.batch x)) (subst (λ (b : HandedBatch). x.batch.number < b.number) (sym (a.batch y)) less)) os h.0,
  rising_mapped f a os h.1,
)

leaves_mapped : (P : HandedBatch → Type 0) (e : Bool) (f : Open → Open) → Alike f → (t t' : Partition) → t'.open_batches ≡ map f t.open_batches → t'.fenced ≡ t.fenced → t'.acknowledged ≡ t.acknowledged → Keeps t t' → Leaves P e t t'
leaves_mapped P e f a t t' opens fence acked keeps = record {
  opens = λ o i. mapped_from f a t.open_batches o (subst (λ (os : List Open). In o os) opens i);
  rises = λ r. subst Rising (sym opens) (rising_mapped f a t.open_batches r);
  stays = λ g h o i. inr (subst (λ (os : List Open). IsOpen os o.batch) (sym opens) (mapped_open f a t.open_batches o i));
  fence = λ h. sym fence ∙ h;
  acknowledged = λ h. inl (sym acked ∙ h);
  keeps = keeps;
}

rising_left : (p : Open → Bool) (os : List Open) → Rising os → Rising (filter p os)
rising_left p [] h = tt
rising_left p (x ∷ os) h = at_test (p x) (rising_left p os h.1)
  where
    at_test : (b : Bool) → Rising (filter p os) → Rising (cond b (x ∷ filter p os) (filter p os))
    at_test true rest = (all_filter (λ (y : Open). x.batch.number < y.batch.number) p os h.0, rest)
    at_test false rest = rest

-- ---- the attempt that a reply names

abbrev is_in_request : ℕ → Attempt → Bool
is_in_request k a = elim a [ InFlight c ↦ c == k | Waiting since ↦ false ]

pub awaits_is : (k : ℕ) (o : Open) → awaits k o ≡ true → o.attempt ≡ InFlight k
awaits_is k o e = at_attempt o.attempt e
  where
    at_attempt : (a : Attempt) → is_in_request k a ≡ true → a ≡ InFlight k
    at_attempt (InFlight c) e' = ap InFlight (eqb-true c k e')
    at_attempt (Waiting since) e' = absurd cc

-- ---- the rules for a partition

abbrev to_wait : ℕ → Attempt → Attempt
to_wait now a = elim a [ InFlight c ↦ Waiting now | Waiting since ↦ Waiting since ]

alike_dropped : (now : ℕ) → Alike (drop_attempt now)
alike_dropped now = record { batch = λ o. refl; flight = λ o k e. at_attempt o.attempt k e }
  where
    at_attempt : (a : Attempt) (k : ℕ) → to_wait now a ≡ InFlight k → a ≡ InFlight k
    at_attempt (InFlight c) k e = absurd cc
    at_attempt (Waiting since) k e = absurd cc

leaves_dropped : (P : HandedBatch → Type 0) (e : Bool) (now : ℕ) (t : Partition) → Leaves P e t (drop_attempts now t)
leaves_dropped P e now t = leaves_mapped P e (drop_attempt now) (alike_dropped now) t (drop_attempts now t) refl refl refl (keeps_dropped now t)

leaves_led : (P : HandedBatch → Type 0) (e : Bool) (node now : ℕ) (t : Partition) → Leaves P e t (drop_led node now t)
leaves_led P e node now t = at_led (Leaves P e t) node now t (leaves_dropped P e now t) (leaves_same P e t)

leaves_lead : (P : HandedBatch → Type 0) (e : Bool) (leader now : ℕ) (t : Partition) → Leaves P e t (led_by leader now t)
leaves_lead P e leader now t = at_moved (Leaves P e t) leader now t (leaves_same P e t)
    (leaves_mapped P e (drop_attempt now) (alike_dropped now) t (moved_to leader now t) refl refl refl (keeps_moved leader now t))

leaves_marked : (P : HandedBatch → Type 0) (e : Bool) (t : Partition) → Leaves P e t (mark t)
leaves_marked P e t = leaves_mapped P e mark_open (record { batch = λ o. refl; flight = λ o k a. a }) t (mark t) refl refl refl (keeps_marked t)

leaves_queued : (P : HandedBatch → Type 0) (e : Bool) (c : Config) (i : Item) (t : Partition) → Leaves P e t (enqueue c i t)
leaves_queued P e c i t = record {
  opens = (leaves_same P e t).opens;
  rises = λ r. r;
  stays = (leaves_same P e t).stays;
  fence = λ f. f;
  acknowledged = λ a. inl a;
  keeps = keeps_queued c i t;
}

leaves_unaudited : (P : HandedBatch → Type 0) (e : Bool) (t : Partition) → Leaves P e t (unaudited t)
leaves_unaudited P e t = record {
  opens = (leaves_same P e t).opens;
  rises = λ r. r;
  stays = (leaves_same P e t).stays;
  fence = λ f. f;
  acknowledged = λ a. inl a;
  keeps = record { number = refl; sequence = refl; ids = refl; opens = λ handed h. h; queue = λ h. h };
}

leaves_fenced : (P : HandedBatch → Type 0) (e : Bool) (t : Partition) → Leaves P e t (fence t).after
unfolding fence give_up
leaves_fenced P e t = record {
  opens = λ o i. absurd (In-nil o i);
  rises = λ r. tt;
  stays = λ g f o i. absurd cc;
  fence = λ f. absurd cc;
  acknowledged = λ a. inl a;
  keeps = keeps_fenced t;
}

leaves_given_up : (why : Reason) (P : HandedBatch → Type 0) (t : Partition) → Leaves P true t (give_up why t).after
unfolding give_up
leaves_given_up why P t = record {
  opens = λ o i. absurd (In-nil o i);
  rises = λ r. tt;
  stays = λ g f o i. absurd cc;
  fence = λ f. f;
  acknowledged = λ a. inl a;
  keeps = keeps_given_up why t;
}

leaves_passed : (P : HandedBatch → Type 0) (e : Bool) (c : Config) (now : ℕ) (t : Partition) → Leaves P e t (heed_deadlines c now t).after
unfolding heed_deadlines
leaves_passed P e c now t = at_test (list_any (is_open_late c now) t.open_batches)
  where
    expired : Leaves P e t (expire_front c now t).after
    expired = record {
      opens = (leaves_same P e t).opens;
      rises = λ r. r;
      stays = (leaves_same P e t).stays;
      fence = λ f. f;
      acknowledged = λ a. inl a;
      keeps = keeps_expired c now t;
    }

    at_test : (late : Bool) → Leaves P e t (if late then fence t else expire_front c now t).after
    at_test true = leaves_fenced P e t
    at_test false = expired

-- ---- an answer

-- what is settled as stored in request k is of P
abbrev pub SettlesOnly : (HandedBatch → Type 0) → ℕ → Partition → Type 0
SettlesOnly P k t = (o : Open) → In o t.open_batches → o.attempt ≡ InFlight k → P o.batch

without_left : (k : ℕ) (t : Partition) (o : Open) → In o t.open_batches → In o (without_attempt k t).open_batches ⊎ (o.attempt ≡ InFlight k)
without_left k t o i = at_test (awaits k o) refl
  where
    at_test : (b : Bool) → awaits k o ≡ b → In o (without_attempt k t).open_batches ⊎ (o.attempt ≡ InFlight k)
    at_test true is = inr (awaits_is k o is)
    at_test false is = inl (In-filter (λ (x : Open). not (awaits k x)) o t.open_batches (ap not is) i)

leaves_acknowledged : (P : HandedBatch → Type 0) (e : Bool) (k : ℕ) (t t' : Partition) (o : Open) → SettlesOnly P k t → In o t.open_batches → o.attempt ≡ InFlight k
    → t'.open_batches ≡ (without_attempt k t).open_batches → t'.fenced ≡ t.fenced → t'.acknowledged ≡ (t.acknowledged || is_first_under_id t o.batch) → Keeps t t' → Leaves P e t t'
leaves_acknowledged P e k t t' o only i flies opens fence acked keeps = record {
  opens = λ x j. came_same t.open_batches x (left_in (λ (y : Open). not (awaits k y)) t.open_batches x (subst (λ (os : List Open). In x os) opens j)).0;
  rises = λ r. subst Rising (sym opens) (rising_left (λ (y : Open). not (awaits k y)) t.open_batches r);
  stays = λ g f x j. ⊎_elim (λ (h : In x (without_attempt k t).open_batches). inr (is_open t'.open_batches x (subst (λ (os : List Open). In x os) (sym opens) h))) (λ (h : x.attempt ≡ InFlight k). inl (only x j h)) (without_left k t x j);
  fence = λ f. sym fence ∙ f;
  acknowledged = λ a. by_first t.acknowledged refl (sym acked ∙ a);
  keeps = keeps;
}
  where
    by_first : (b : Bool) → t.acknowledged ≡ b → b || is_first_under_id t o.batch ≡ true → (t.acknowledged ≡ true) ⊎ ((x : Open) × In x t.open_batches × P x.batch × (x.batch.id ≡ present_id t))
    by_first true is h = inl is
    by_first false is h =
        let parts = and_parts (o.batch.sequence == 0) (o.batch.id == present_id t) h in
        inr (o, i, only o i flies, eqb-true o.batch.id (present_id t) parts.1)

alike_waiting : (now k : ℕ) → Alike (put_off now k)
alike_waiting now k = record { batch = λ o. same o (awaits k o); flight = λ o q e. flies o (awaits k o) q e }
  where
    same : (o : Open) (b : Bool) → (if b then (record o { attempt = Waiting now }) else o).batch ≡ o.batch
    same o true = refl
    same o false = refl

    flies : (o : Open) (b : Bool) (q : ℕ) → (if b then (record o { attempt = Waiting now }) else o).attempt ≡ InFlight q → o.attempt ≡ InFlight q
    flies o true q e = absurd cc
    flies o false q e = e

leaves_rejected : (P : HandedBatch → Type 0) (e : Bool) (k : ℕ) (t : Partition) → Leaves P e t (fence (without_attempt k t)).after
unfolding fence give_up
leaves_rejected P e k t = record {
  opens = λ o i. absurd (In-nil o i);
  rises = λ r. tt;
  stays = λ g f o i. absurd cc;
  fence = λ f. absurd cc;
  acknowledged = λ a. inl a;
  keeps = keeps_more t (without_attempt k t) (fence (without_attempt k t)).after (keeps_without k t) (keeps_fenced (without_attempt k t));
}

-- An answer to request k. Where it says that a batch is stored, or older than those that the broker knows, that is of P.
pub leaves_answered : (P : HandedBatch → Type 0) (e : Bool) (now k : ℕ) (t : Partition) (a : PartitionProduceResponse) → (meaning_of a.error_code ≡ Stored → SettlesOnly P k t)
    → (meaning_of a.error_code ≡ Duplicate → SettlesOnly P k t) → Leaves P e t (settle_batch now k t a).after
unfolding settle_batch
leaves_answered P e now k t a only kept = at_option (awaiting k t) refl
  where
    at_meaning : (o : Open) → In o t.open_batches → o.attempt ≡ InFlight k → (v : Meaning) → meaning_of a.error_code ≡ v → Leaves P e t (settle_by now k t o a v).after
    at_meaning o i f Stored is = leaves_acknowledged P e k t (settle_by now k t o a Stored).after o (only is) i f refl refl refl (keeps_settled now k t o a Stored)
    at_meaning o i f Duplicate is = leaves_acknowledged P e k t (settle_by now k t o a Duplicate).after o (kept is) i f refl refl refl (keeps_settled now k t o a Duplicate)
    at_meaning o i f Retry is = leaves_mapped P e (put_off now k) (alike_waiting now k) t (settle_by now k t o a Retry).after refl refl refl (keeps_settled now k t o a Retry)
    at_meaning o i f Reject is = leaves_rejected P e k t

    at_option : (o : Option Open) → awaiting k t ≡ o → Leaves P e t (by_attempt now k t a o).after
    at_option None is = leaves_same P e t
    at_option (Some o) is = let f = found_in (awaits k) t.open_batches o is in at_meaning o f.0 (awaits_is k o f.1) (meaning_of a.error_code) refl

-- ---- the core

-- The same of each partition's, by its place.
pub record CoreLeaves (P : ℕ → HandedBatch → Type 0) (s s' : Core) : Type 0 where
  pub count : length s'.partitions ≡ length s.partitions
  pub config : s'.config ≡ s.config
  pub ended : s'.ended ≡ false → s.ended ≡ false
  pub correlation : s'.correlation ≡ s.correlation
  pub requests : (q : Request) → In q s'.requests → In q s.requests
  pub each : (p : ℕ) → p < length s.partitions → Leaves (P p) s'.ended (partition_at p s.partitions) (partition_at p s'.partitions)

-- a call that changes no partition
pub left_alike : (P : ℕ → HandedBatch → Type 0) (s s' : Core) → s'.partitions ≡ s.partitions → s'.config ≡ s.config → s'.ended ≡ s.ended → s'.correlation ≡ s.correlation → ((q : Request) → In q s'.requests → In q s.requests) → CoreLeaves P s s'
left_alike P s s' partitions config ended correlation requests = record {
  count = ap length partitions;
  config = config;
  ended = λ e. sym ended ∙ e;
  correlation = correlation;
  requests = requests;
  each = λ p h. subst (λ (ts : List Partition). Leaves (P p) s'.ended (partition_at p s.partitions) (partition_at p ts)) (sym partitions) (leaves_same (P p) s'.ended (partition_at p s.partitions));
}

left_same : (P : ℕ → HandedBatch → Type 0) (s : Core) → CoreLeaves P s s
left_same P s = left_alike P s s refl refl refl refl (λ q e. e)

-- a rule at each partition
at_all : (P : ℕ → HandedBatch → Type 0) (e : Bool) (f : Partition → Partition) → ((Q : HandedBatch → Type 0) (t : Partition) → Leaves Q e t (f t)) → (ts : List Partition) (p : ℕ) → p < length ts
    → Leaves (P p) e (partition_at p ts) (partition_at p (map f ts))
at_all P e f k ts p h = subst (Leaves (P p) e (partition_at p ts)) (sym (get_or-map f ts p (new_partition 0) (new_partition 0) h)) (k (P p) (partition_at p ts))

-- a rule at some
pub at_some : (P : ℕ → HandedBatch → Type 0) (e : Bool) (ps : List ℕ) (f : ℕ → Partition → Partition) (ts : List Partition) (p : ℕ) → p < length ts → Leaves (P p) e (partition_at p ts) (f p (partition_at p ts))
    → Leaves (P p) e (partition_at p ts) (partition_at p (changed_at ps f ts))
at_some P e ps f ts p h k = subst (Leaves (P p) e (partition_at p ts)) (sym (at-changed_at ps f ts p h)) (at_test (is_in p ps))
  where
    at_test : (b : Bool) → Leaves (P p) e (partition_at p ts) (if b then f p (partition_at p ts) else partition_at p ts)
    at_test true = k
    at_test false = leaves_same (P p) e (partition_at p ts)

left_dropped : (P : ℕ → HandedBatch → Type 0) (node now : ℕ) (s : Core) → CoreLeaves P s (drop_requests node now s)
unfolding drop_requests
left_dropped P node now s = record {
  count = length-map s.partitions (drop_led node now);
  config = refl;
  ended = λ e. e;
  correlation = refl;
  requests = λ q i. (left_in (λ r. not (goes_to node r)) s.requests q i).0;
  each = λ p h. at_all P s.ended (drop_led node now) (λ Q t. leaves_led Q s.ended node now t) s.partitions p h;
}

left_passed : (P : ℕ → HandedBatch → Type 0) (now : ℕ) (late : Bool) (s : Core) → CoreLeaves P s (tick_partitions heed_deadlines now late s).after
unfolding at_each with_partitions
left_passed P now late s = record {
  count = length-map s.partitions (λ t. (heed_deadlines s.config now t).after);
  config = refl;
  ended = λ e. e;
  correlation = refl;
  requests = λ q i. (left_in (is_live (map (λ t. (heed_deadlines s.config now t).after) s.partitions)) s.requests q i).0;
  each = λ p h. at_all P s.ended (λ t. (heed_deadlines s.config now t).after) (λ Q t. leaves_passed Q s.ended s.config now t) s.partitions p h;
}

pub left_ticked : (P : ℕ → HandedBatch → Type 0) (node now : ℕ) (s : Core) → CoreLeaves P s (tick_step node now s).after
unfolding drop_requests at_each with_partitions
left_ticked P node now s =
    at_tick (λ (x : Ticks). CoreLeaves P s x.after) node now s (record { ended = left_same P s; timed_out = timed_out; on_time = left_passed P now false s })
  where
    timed_out : CoreLeaves P s (tick_partitions heed_deadlines now true (drop_requests node now s)).after
    timed_out =
        let first = left_dropped P node now s in
        let second = left_passed P now true (drop_requests node now s) in
        record {
          count = second.count ∙ first.count;
          config = refl;
          ended = λ e. e;
          correlation = refl;
          requests = λ q i. first.requests q (second.requests q i);
          each = λ p h. leaves_more (P p) s.ended (partition_at p s.partitions) (partition_at p (drop_requests node now s).partitions) (partition_at p (tick_partitions heed_deadlines now true (drop_requests node now s)).after.partitions)
              (first.each p h) (second.each p (subst (λ (n : ℕ). p < n) (sym first.count) h));
        }

pub left_ended : (P : ℕ → HandedBatch → Type 0) (s : Core) → CoreLeaves P s (end_step s).after
unfolding end_step at_each with_partitions
left_ended P s = at_end s.ended
  where
    at_end : (b : Bool) → let made : Called ℕ = if b then quietly s 0 else end_all s in CoreLeaves P s made.after
    at_end true = left_same P s
    at_end false = record {
      count = length-map s.partitions (λ t. (give_up reason.Ended t).after);
      config = refl;
      ended = λ e. absurd cc;
      correlation = refl;
      requests = λ q i. absurd (In-nil q i);
      each = λ p h. at_all P true (λ t. (give_up reason.Ended t).after) (leaves_given_up reason.Ended) s.partitions p h;
    }

pub left_flushed : (P : ℕ → HandedBatch → Type 0) (s : Core) → CoreLeaves P s (flush_step s)
unfolding flush_step
left_flushed P s = record {
  count = length-map s.partitions mark;
  config = refl;
  ended = λ e. e;
  correlation = refl;
  requests = λ q i. i;
  each = λ p h. at_all P s.ended mark (λ Q t. leaves_marked Q s.ended t) s.partitions p h;
}

pub left_unaudited : (P : ℕ → HandedBatch → Type 0) (s : Core) → CoreLeaves P s (without_audits s)
unfolding without_audits
left_unaudited P s = record {
  count = length-map s.partitions unaudited;
  config = refl;
  ended = λ e. e;
  correlation = refl;
  requests = λ q i. i;
  each = λ p h. at_all P s.ended unaudited (λ Q t. leaves_unaudited Q s.ended t) s.partitions p h;
}

pub left_disconnected : (P : ℕ → HandedBatch → Type 0) (node now : ℕ) (s : Core) → CoreLeaves P s (disconnect_step node now s)
unfolding disconnect_step
left_disconnected P node now s = at_end s.ended
  where
    at_end : (b : Bool) → CoreLeaves P s (if b then s else drop_requests node now s)
    at_end true = left_same P s
    at_end false = left_dropped P node now s

pub left_led : (P : ℕ → HandedBatch → Type 0) (p leader now : ℕ) (s : Core) → CoreLeaves P s (lead_step p leader now s)
unfolding lead_step
left_led P p leader now s = record {
  count = length-set s.partitions p moved;
  config = refl;
  ended = λ e. e;
  correlation = refl;
  requests = λ q i. (left_in (is_live (slice_set s.partitions p moved)) s.requests q i).0;
  each = λ q h. at_put (Leaves (P q) s.ended (partition_at q s.partitions)) s.partitions p q moved (new_partition 0)
      (λ same. subst (λ (n : ℕ). Leaves (P q) s.ended (partition_at n s.partitions) moved) (sym same) (leaves_lead (P q) s.ended leader now (partition_at p s.partitions)))
      (leaves_same (P q) s.ended (partition_at q s.partitions));
}
  where
    moved : Partition
    moved = led_by leader now (partition_at p s.partitions)

pub left_closed : (P : ℕ → HandedBatch → Type 0) (s : Core) → CoreLeaves P s (close_step s)
unfolding close_step
left_closed P s = at_end s.ended
  where
    at_end : (b : Bool) → CoreLeaves P s (if b then s else record s { closing = true })
    at_end true = left_same P s
    at_end false = left_alike P s (record s { closing = true }) refl refl refl refl (λ q e. e)

pub left_appended : (P : ℕ → HandedBatch → Type 0) (i : Item) (s : Core) → CoreLeaves P s (append_step i s).after
left_appended P i s = at_append (λ (x : Appends). CoreLeaves P s x.after) i s (record {
  outside = left_same P s;
  past_end = λ m e. left_alike P s (turn_away reason.Ended i s).after refl refl refl refl (λ q e. e);
  by_fence = λ m e f. left_alike P s (turn_away reason.Fenced i s).after refl refl refl refl (λ q e. e);
  full = left_alike P s (record s { exhausted = true }) refl refl refl refl (λ q e. e);
  room = λ m e f fits. subst (λ (ts : List Partition). CoreLeaves P s (record s { partitions = ts })) (sym (one_changed i.partition (enqueue s.config i) s.partitions)) (record {
    count = length-changed_at (i.partition ∷ []) (λ q t. enqueue s.config i t) s.partitions;
    config = refl;
    ended = λ e. e;
    correlation = refl;
    requests = λ q i. i;
    each = λ p h. at_some P s.ended (i.partition ∷ []) (λ q t. enqueue s.config i t) s.partitions p h (leaves_queued (P p) s.ended s.config i (partition_at p s.partitions));
  });
})
