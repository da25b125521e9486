-- What a rule leaves as it is in a partition: what was handed over, and that what is open was.
use Rattle.std.proofs.Common.{◌≡◌, ℕ, ◌<◌, Bool, true, false, not, List, [], ◌∷◌, length, map, refl, sym, ◌∙◌, subst, arith, length-append}
use Rattle.std.specs.Prelude.{if◌then◌else◌}
use Rattle.std.specs.List.{AllByRecursion}
use Rattle.kp_accum.specs.declared.config.Config.{Config}
use Rattle.kp_accum.specs.declared.item.Item.{Item}
use Rattle.kp_accum.specs.Queue.{Pending, joins, with_item, joined_by, begun_by, marked_by_flush}
use Rattle.kp_accum.specs.Ready.{is_late}
use Rattle.kp_frames.specs.declared.produce.PartitionProduceResponse.{PartitionProduceResponse}
use Rattle.kp_log.proofs.PlaceLemmas.{In}
use Rattle.kp_rules.specs.Leading.{moved_to}
use Rattle.kp_rules.specs.Fence.{fence, give_up}
use Rattle.kp_rules.specs.declared.attempt.Attempt.TheVariants.{Waiting}
use Rattle.kp_rules.specs.declared.meaning.Meaning.{Meaning}
use Rattle.kp_rules.specs.declared.outcome.Reason.{Reason}
use Rattle.kp_rules.specs.declared.meaning.Meaning.TheVariants.{Stored, Duplicate, Retry, Reject}
use Rattle.kp_rules.specs.Appending.{enqueue}
use Rattle.kp_rules.specs.Attempts.{awaits}
use Rattle.kp_rules.specs.Dropping.{drop_attempt, drop_attempts}
use Rattle.kp_rules.specs.Flush.{mark_open, mark}
use Rattle.kp_rules.specs.Records.{HandedBatch, Open, Partition, Told}
use Rattle.kp_rules.specs.Settling.{without_attempt, put_off, acknowledge, settle_by}
use Rattle.kp_rules.specs.Tick.{behind_late, expire_front}
use Rattle.kp_rules.proofs.ListLemmas.{all_filter, all_map}

-- ---- one partition

abbrev pub HasItems : Pending → Type 0
HasItems b = 0 < length b.items

-- each open batch is one of these
abbrev pub OpenIn : List HandedBatch → List Open → Type 0
OpenIn handed os = AllByRecursion (λ o. In o.batch handed) os

pub record Keeps (t t' : Partition) : Type 0 where
  pub number : t'.next_number ≡ t.next_number
  pub sequence : t'.next_sequence ≡ t.next_sequence
  pub ids : t'.ids ≡ t.ids
  pub opens : (handed : List HandedBatch) → OpenIn handed t.open_batches → OpenIn handed t'.open_batches
  pub queue : AllByRecursion HasItems t.queue → AllByRecursion HasItems t'.queue

pub keeps_same : (t : Partition) → Keeps t t
keeps_same t =
    record { number = refl; sequence = refl; ids = refl; opens = λ handed h. h; queue = λ h. h }

pub keeps_more : (t u v : Partition) → Keeps t u → Keeps u v → Keeps t v
keeps_more t u v k l = record {
  number = l.number ∙ k.number;
  sequence = l.sequence ∙ k.sequence;
  ids = l.ids ∙ k.ids;
  opens = λ handed h. l.opens handed (k.opens handed h);
  queue = λ h. l.queue (k.queue h);
}

opens_map : (f : Open → Open) → ((o : Open) → (f o).batch ≡ o.batch) → (handed : List HandedBatch) (os : List Open) → OpenIn handed os → OpenIn handed (map f os)
opens_map f same handed os h = all_map (λ (o : Open). In o.batch handed) (λ (o : Open). In o.batch handed) f (λ o i. subst (λ (b : HandedBatch). In b handed) (sym (same o)) i) os h

pub keeps_dropped : (now : ℕ) (t : Partition) → Keeps t (drop_attempts now t)
keeps_dropped now t = record {
  number = refl;
  sequence = refl;
  ids = refl;
  opens = λ handed h. opens_map (drop_attempt now) (λ o. refl) handed t.open_batches h;
  queue = λ h. h;
}

pub keeps_moved : (leader now : ℕ) (t : Partition) → Keeps t (moved_to leader now t)
keeps_moved leader now t =
    let dropped = keeps_dropped now t in
    record { number = refl; sequence = refl; ids = refl; opens = dropped.opens; queue = λ h. h }

pub keeps_fenced : (t : Partition) → Keeps t (fence t).after
unfolding fence give_up
keeps_fenced t =
    record { number = refl; sequence = refl; ids = refl; opens = λ handed h. tt; queue = λ h. tt }

pub keeps_given_up : (why : Reason) (t : Partition) → Keeps t (give_up why t).after
unfolding give_up
keeps_given_up why t =
    record { number = refl; sequence = refl; ids = refl; opens = λ handed h. tt; queue = λ h. tt }

queue_behind_late : (c : Config) (now : ℕ) (q : List Pending) → AllByRecursion HasItems q
    → AllByRecursion HasItems (behind_late c now q)
unfolding behind_late
queue_behind_late c now [] h = tt
queue_behind_late c now (b ∷ q) h = at_test (is_late c now b) (queue_behind_late c now q h.1)
  where
    at_test : (late : Bool) → AllByRecursion HasItems (behind_late c now q)
        → AllByRecursion HasItems (if late then behind_late c now q else b ∷ q)
    at_test true rest = rest
    at_test false rest = h

pub keeps_expired : (c : Config) (now : ℕ) (t : Partition) → Keeps t (expire_front c now t).after
keeps_expired c now t = record {
  number = refl;
  sequence = refl;
  ids = refl;
  opens = λ handed h. h;
  queue = λ h. queue_behind_late c now t.queue h;
}

pub same_waiting : (now k : ℕ) (o : Open) → (put_off now k o).batch ≡ o.batch
same_waiting now k o = at_test (awaits k o)
  where
    at_test : (b : Bool) → (if b then (record o { attempt = Waiting now }) else o).batch ≡ o.batch
    at_test true = refl
    at_test false = refl

pub keeps_without : (k : ℕ) (t : Partition) → Keeps t (without_attempt k t)
keeps_without k t = record {
  number = refl;
  sequence = refl;
  ids = refl;
  opens = λ handed h. all_filter (λ (o : Open). In o.batch handed) (λ (o : Open). not (awaits k o)) t.open_batches h;
  queue = λ h. h;
}

keeps_acknowledged : (k : ℕ) (t : Partition) (o : Open) (told : List Told) → Keeps t (acknowledge k t o told).after
keeps_acknowledged k t o told = record {
  number = refl;
  sequence = refl;
  ids = refl;
  opens = (keeps_without k t).opens;
  queue = λ h. h;
}

pub keeps_settled : (now k : ℕ) (t : Partition) (o : Open) (a : PartitionProduceResponse) (v : Meaning)
    → Keeps t (settle_by now k t o a v).after
keeps_settled now k t o a Stored = keeps_acknowledged k t o []
keeps_settled now k t o a Duplicate = keeps_acknowledged k t o []
keeps_settled now k t o a Retry = record {
  number = refl;
  sequence = refl;
  ids = refl;
  opens = λ handed h. opens_map (put_off now k) (same_waiting now k) handed t.open_batches h;
  queue = λ h. h;
}
keeps_settled now k t o a Reject = keeps_more t (without_attempt k t)
    (fence (without_attempt k t)).after (keeps_without k t) (keeps_fenced (without_attempt k t))

pub keeps_marked : (t : Partition) → Keeps t (mark t)
keeps_marked t = record {
  number = refl;
  sequence = refl;
  ids = refl;
  opens = λ handed h. opens_map mark_open (λ o. refl) handed t.open_batches h;
  queue = λ h. all_map HasItems HasItems marked_by_flush (λ b some. some) t.queue h;
}

queue_with_item : (c : Config) (i : Item) (q : List Pending) → AllByRecursion HasItems q
    → AllByRecursion HasItems (with_item c i q)
unfolding with_item
queue_with_item c i [] h = (omega arith, tt)
queue_with_item c i (b ∷ []) h = at_test (joins c i b)
  where
    at_test : (join : Bool) → AllByRecursion HasItems (if join then joined_by i b ∷ [] else b ∷ begun_by i ∷ [])
    at_test true = (omega (arith, length-append b.items (i ∷ [])), tt)
    at_test false = (h.0, (omega arith, tt))
queue_with_item c i (b ∷ b' ∷ q) h = (h.0, queue_with_item c i (b' ∷ q) h.1)

pub keeps_queued : (c : Config) (i : Item) (t : Partition) → Keeps t (enqueue c i t)
keeps_queued c i t = record {
  number = refl;
  sequence = refl;
  ids = refl;
  opens = λ handed h. h;
  queue = λ h. queue_with_item c i t.queue h;
}
