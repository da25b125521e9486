-- Whatever is told of an item is a case of the outcome rule.
use Rattle.std.proofs.Common.{◌≡◌, ℕ, suc, zero, ◌+◌, ◌<◌, Bool, true, false, not, List, [], ◌∷◌, ◌++◌, length, get_or, map, ℤ, pos, Some, refl, sym, ap, ◌∙◌, subst, arith, Contains}
use Rattle.std.specs.Prelude.{if◌then◌else◌, ◌&&◌, ◌==◌, flat_map, slice_get, ◌+ℤ◌}
use Rattle.std.specs.List.{AllByRecursion, enumerate_from, list_any, list_all}
use Rattle.std.specs.Ordering.{int_eq}
use Rattle.std.specs.Str.{bytes_eq}
use Rattle.std.proofs.lemmas.Bool.{not-true, and_parts}
use Rattle.std.proofs.lemmas.Bool.Decides.{Decides-int_eq}
use Rattle.std.proofs.lemmas.List.{append-nil}
use Rattle.kp_wire.proofs.ListLemmas.{all_append}
use Rattle.kp_accum.specs.declared.config.Config.{Config}
use Rattle.kp_accum.specs.declared.item.Item.{Item}
use Rattle.kp_accum.specs.Queue.{Pending}
use Rattle.kp_accum.specs.Ready.{is_late}
use Rattle.kp_frames.specs.declared.produce.PartitionProduceResponse.{PartitionProduceResponse}
use Rattle.kp_frames.specs.declared.produce.ProduceResponse.{ProduceResponse}
use Rattle.kp_frames.specs.declared.produce.TopicProduceResponse.{TopicProduceResponse}
use Rattle.kp_frames.specs.declared.response.Response.{Response}
use Rattle.kp_frames.specs.declared.response.ResponseBody.TheVariants as body
use Rattle.kp_rules.specs.declared.outcome.Outcome.{Outcome}
use Rattle.kp_rules.specs.declared.outcome.Outcome.TheVariants.{Delivered, DeliveredNoOffset, Unknown, Rejected, Unsent}
use Rattle.kp_rules.specs.declared.outcome.Reason.{Reason}
use Rattle.kp_rules.specs.declared.outcome.Reason.TheVariants as reason
use Rattle.kp_rules.specs.declared.meaning.Meaning.{Meaning}
use Rattle.kp_rules.specs.declared.meaning.Meaning.TheVariants.{Stored, Duplicate, Retry, Reject}
use Rattle.kp_rules.specs.Appending.{Appends, append_step}
use Rattle.kp_rules.specs.Attempts.{awaits, awaiting}
use Rattle.kp_rules.specs.Causes.{IsAtLateFront, IsOpenIn, IsQueuedIn, IsAnswered, Settles}
use Rattle.kp_rules.specs.Closing.{end_step}
use Rattle.kp_rules.specs.Dropping.{drop_attempt, drop_attempts, drop_led, drop_requests}
use Rattle.kp_rules.specs.Fence.{give_up, fence}
use Rattle.kp_rules.specs.Mismatch.{is_one_topic, is_for, entries_of, entries_for, has_offsets, answers_batches}
use Rattle.kp_rules.specs.OutcomeRule.{Telling, Append, Tick, Reply, End, IsOpenBeside, told_in, MayTell}
use Rattle.kp_rules.specs.Partitions.{partition_at, items_open, items_queued}
use Rattle.kp_rules.specs.Records.{Open, Partition, Request, Core, Told, Effect, Called}
use Rattle.kp_rules.specs.Replies.{Replies, awaited, settle_batches, response_step}
use Rattle.kp_rules.specs.Settling.{meaning_of, without_attempt, settle_by}
use Rattle.kp_rules.specs.Telling.{told_all, with_partitions, at_each, at_these}
use Rattle.kp_rules.specs.Tick.{Ticks, is_open_late, late_front, expire_front, heed_deadlines, tick_step}
use Rattle.kp_rules.proofs.CallLemmas.{at_append, at_end_step, at_entries, at_heed, at_led, at_response, at_tick}
-- passed on to the crate above
pub use Rattle.kp_rules.proofs.CallLemmas.{by_attempt, by_entries}
use Rattle.kp_rules.proofs.ListLemmas.{contains_head, all_contained, all_flat_map, filtered, flat_map_mapped, found, list_any_mapped}

-- ---- lists

-- at the places of a list
all_placed : {A : Type 0} (P : A → Type 0) (xs : List A)
    → ((n : ℕ) (x : A) → slice_get xs n ≡ Some x → P x) → AllByRecursion P xs
all_placed P [] f = tt
all_placed P (x ∷ xs) f = (f 0 x refl, all_placed P xs (λ n y e. f (suc n) y e))

pub all_enumerated : {A B : Type 0} (P : B → Type 0) (g : (ℕ × A) → B) (k : ℕ) (xs : List A)
    → ((n : ℕ) (x : A) → slice_get xs n ≡ Some x → P (g (k + n, x)))
    → AllByRecursion P (map g (enumerate_from k xs))
all_enumerated P g k [] f = tt
all_enumerated {A = A} P g k (x ∷ xs) f =
    let here : k + 0 ≡ k = omega arith in
    (subst (λ (m : ℕ). P (g (m, x))) here (f 0 x refl), all_enumerated P g (k + 1) xs later)
  where
    later : (n : ℕ) (y : A) → slice_get xs n ≡ Some y → P (g (k + 1 + n, y))
    later n y e = let same : k + suc n ≡ k + 1 + n = omega arith
        in subst (λ (m : ℕ). P (g (m, y))) same (f (suc n) y e)

-- ---- what is told of a partition

pub all_told : (P : Told → Type 0) (outcome : Outcome) (items : List Item)
    → AllByRecursion (λ (i : Item). P (record { item = i; outcome = outcome })) items
    → AllByRecursion P (told_all outcome items)
all_told P outcome [] h = tt
all_told P outcome (i ∷ items) h = (h.0, all_told P outcome items h.1)

open_items : (Q : Item → Type 0) (t : Partition) → ((i : Item) → IsOpenIn t i → Q i)
    → AllByRecursion Q (items_open t.open_batches)
open_items Q t f = all_flat_map Q (λ o. o.batch.items) t.open_batches
    (λ o c. all_contained Q o.batch.items (λ i h. f i (record { batch = o; is_open = c; has = h })))

queued_items : (Q : Item → Type 0) (t : Partition) → ((i : Item) → IsQueuedIn t i → Q i)
    → AllByRecursion Q (items_queued t.queue)
queued_items Q t f = all_flat_map Q (λ b. b.items) t.queue
    (λ b c. all_contained Q b.items (λ i h. f i (record { batch = b; is_queued = c; has = h })))

all_given_up : (P : Told → Type 0) (why : Reason) (t : Partition)
    → ((i : Item) → IsOpenIn t i → P (record { item = i; outcome = Unknown }))
    → ((i : Item) → IsQueuedIn t i → P (record { item = i; outcome = Unsent why }))
    → AllByRecursion P (give_up why t).told
unfolding give_up
all_given_up P why t f g = all_append P (told_all Unknown (items_open t.open_batches))
    (told_all (Unsent why) (items_queued t.queue))
    (all_told P Unknown (items_open t.open_batches)
    (open_items (λ (i : Item). P (record { item = i; outcome = Unknown })) t f))
    (all_told P (Unsent why) (items_queued t.queue)
    (queued_items (λ (i : Item). P (record { item = i; outcome = Unsent why })) t g))

-- at the places of the partitions
pub all_places : (P : Told → Type 0) (g : Partition → List Told) (ts : List Partition)
    → ((p : ℕ) → AllByRecursion P (g (partition_at p ts))) → AllByRecursion P (flat_map g ts)
all_places P g [] f = tt
all_places P g (t ∷ ts) f =
    all_append P (g t) (flat_map g ts) (f 0) (all_places P g ts (λ p. f (suc p)))

-- ---- the end

abbrev MayBeTold : Core → Telling → Told → Type 0
MayBeTold s call t = MayTell s call t.item t.outcome

tells_end : (s : Core) → AllByRecursion (MayBeTold s End) (end_step s).told
unfolding MayTell at_each with_partitions
tells_end s = at_end_step (λ (x : Called ℕ). AllByRecursion (MayBeTold s End) x.told) s tt
    (all_places (MayBeTold s End) (λ t. (give_up reason.Ended t).told) s.partitions
    (λ p. all_given_up (MayBeTold s End) reason.Ended (partition_at p s.partitions) (λ i h. (p, h)) (λ i h. (p, h))))

-- ---- an append

tells_append : (i : Item) (s : Core) → AllByRecursion (MayBeTold s (Append i)) (append_step i s).told
unfolding MayTell
tells_append i s = at_append (λ (x : Appends). AllByRecursion (MayBeTold s (Append i)) x.told) i s (record {
  outside = tt;
  past_end = λ m e. ((refl, e), tt);
  by_fence = λ m e f. ((refl, e, f), tt);
  full = tt;
  room = λ m e f r. tt;
})

-- ---- a tick

dropped_tells : (c : Config) (now at : ℕ) (t : Partition)
    → (heed_deadlines c now (drop_attempts at t)).told ≡ (heed_deadlines c now t).told
unfolding heed_deadlines fence give_up
dropped_tells c now at t =
    ap (λ (late : Bool). (if late then fence (drop_attempts at t) else expire_front c now (drop_attempts at t)).told)
    (list_any_mapped (is_open_late c now) (drop_attempt at) (is_open_late c now) (λ o. refl) t.open_batches)
    ∙ at_test (list_any (is_open_late c now) t.open_batches)
  where
    at_test : (late : Bool) → (if late then fence (drop_attempts at t) else expire_front c now (drop_attempts at t)).told
        ≡ (if late then fence t else expire_front c now t).told
    at_test true = ap (λ (is : List Item). told_all Unknown is ++ told_all (Unsent reason.Fenced) (items_queued t.queue))
        (flat_map_mapped (λ (o : Open). o.batch.items) (drop_attempt at) (λ o. o.batch.items) (λ o. refl) t.open_batches)
    at_test false = refl

late_contained : (c : Config) (now : ℕ) (q : List Pending) (b : Pending)
    → Contains (late_front c now q) b → IsAtLateFront c now q b
unfolding late_front
late_contained c now [] b h = absurd (omega (arith, h.1))
late_contained c now (x ∷ q) b h = at_test (is_late c now x) refl h
    (λ (h' : Contains (late_front c now q) b). late_contained c now q b h')
  where
    at_place : is_late c now x ≡ true → (k : ℕ) → k < length (x ∷ late_front c now q)
        → get_or (x ∷ late_front c now q) k b ≡ b
        → (Contains (late_front c now q) b → IsAtLateFront c now q b) → IsAtLateFront c now (x ∷ q) b
    at_place is zero l e later = record {
      earlier = [];
      later = q;
      split = ap (λ (y : Pending). y ∷ q) e;
      ahead = tt;
      late = subst (λ (y : Pending). is_late c now y ≡ true) e is;
    }
    at_place is (suc k) l e later =
        let r : IsAtLateFront c now q b = later (k, omega arith, e) in
        record {
          earlier = x ∷ r.earlier;
          later = r.later;
          split = ap (λ (ys : List Pending). x ∷ ys) r.split;
          ahead = (is, r.ahead);
          late = r.late;
        }

    at_test : (t : Bool) → is_late c now x ≡ t → Contains (if t then x ∷ late_front c now q else []) b
        → (Contains (late_front c now q) b → IsAtLateFront c now q b) → IsAtLateFront c now (x ∷ q) b
    at_test true is h' later = at_place is h'.0 h'.1 h'.2 later
    at_test false is h' later = absurd (omega (arith, h'.1))

passed_all : (s : Core) (node now p : ℕ)
    → AllByRecursion (MayBeTold s (Tick node now))
    (heed_deadlines s.config now (partition_at p s.partitions)).told
unfolding MayTell fence
passed_all s node now p = at_heed (λ (x : Effect). AllByRecursion (MayBeTold s (Tick node now)) x.told) s.config now t
    (λ is. all_given_up (MayBeTold s (Tick node now)) reason.Fenced t (λ i h. (p, is, h)) (λ i h. (p, is, h)))
    (all_told (MayBeTold s (Tick node now)) (Unsent reason.Expired) (items_queued (late_front s.config now t.queue))
    (all_flat_map (λ (i : Item). MayBeTold s (Tick node now) (record { item = i; outcome = Unsent reason.Expired })) (λ b. b.items)
    (late_front s.config now t.queue)
    (λ b c. all_contained (λ (i : Item). MayBeTold s (Tick node now) (record { item = i; outcome = Unsent reason.Expired })) b.items
    (λ i h. (p, record { batch = b; front = late_contained s.config now t.queue b c; has = h })))))
  where
    t : Partition
    t = partition_at p s.partitions

tells_tick : (node now : ℕ) (s : Core) → AllByRecursion (MayBeTold s (Tick node now)) (tick_step node now s).told
unfolding at_each with_partitions drop_requests
tells_tick node now s = at_tick (λ (x : Ticks). AllByRecursion (MayBeTold s (Tick node now)) x.told) node now s (record {
  ended = tt;
  timed_out = subst (AllByRecursion (MayBeTold s (Tick node now))) (sym (flat_map_mapped heeded (drop_led node now) heeded led_tells s.partitions)) all;
  on_time = all;
})
  where
    heeded : Partition → List Told
    heeded t = (heed_deadlines s.config now t).told

    led_tells : (t : Partition) → heeded (drop_led node now t) ≡ heeded t
    led_tells t = at_led (λ (u : Partition). heeded u ≡ heeded t) node now t (dropped_tells s.config now now t) refl

    all : AllByRecursion (MayBeTold s (Tick node now)) (flat_map heeded s.partitions)
    all = all_places (MayBeTold s (Tick node now)) heeded s.partitions (passed_all s node now)

-- ---- a reply

-- a request that is awaited is in flight
pub in_flight : (k : ℤ) (s : Core) (r : Request) → awaited k s ≡ Some r
    → Contains s.requests r × (pos r.correlation ≡ k)
unfolding awaited
in_flight k s r e =
    let here = found (λ (x : Request). int_eq (pos x.correlation) k) s.requests r e in
    (here.0, (Decides-int_eq (pos r.correlation) k).0 here.1)

open_beside : (k : ℕ) (t : Partition) (i : Item) → IsOpenIn (without_attempt k t) i → IsOpenBeside k t i
open_beside k t i h =
    let kept = filtered (λ o. not (awaits k o)) t.open_batches h.batch h.is_open in
    record { here = record { batch = h.batch; is_open = kept.0; has = h.has }; other = not-true (awaits k h.batch) kept.1 }

abbrev settles : (s : Core) (response : Response) (p : ℕ) (o : Open) (a : PartitionProduceResponse) → IsAnswered s response p o a
    → (v : Meaning) → meaning_of a.error_code ≡ v → (n : ℕ) (i : Item) → slice_get o.batch.items n ≡ Some i → Settles s response i v
settles s response p o a is v means n i e = record { partition = p; batch = o; answer = a; answered = is; means = means; place = n; item = e }

at_settled : (now k p : ℕ) (s : Core) (response : Response) (o : Open)
    (a : PartitionProduceResponse) (is : IsAnswered s response p o a) → k ≡ is.correlation
    → (v : Meaning) → meaning_of a.error_code ≡ v
    → AllByRecursion (MayBeTold s (Reply now response))
    (settle_by now k (partition_at p s.partitions) o a v).told
unfolding MayTell fence
at_settled now k p s response o a is same Stored v = all_enumerated (MayBeTold s (Reply now response))
    (λ x. record { item = x.1; outcome = Delivered (a.base_offset +ℤ pos x.0) }) 0 o.batch.items one
  where
    one : (n : ℕ) (i : Item) → slice_get o.batch.items n ≡ Some i
        → MayBeTold s (Reply now response)
        (record { item = i; outcome = Delivered (a.base_offset +ℤ pos (0 + n)) })
    one n i e = let same : 0 + n ≡ n = omega arith
        in (settles s response p o a is Stored v n i e, ap (λ (m : ℕ). a.base_offset +ℤ pos m) same)
at_settled now k p s response o a is same Duplicate v =
    all_told (MayBeTold s (Reply now response)) DeliveredNoOffset o.batch.items
    (all_placed (λ (i : Item). MayBeTold s (Reply now response)
    (record { item = i; outcome = DeliveredNoOffset })) o.batch.items
    (settles s response p o a is Duplicate v))
at_settled now k p s response o a is same Retry v = tt
at_settled now k p s response o a is same Reject v =
    all_append (MayBeTold s (Reply now response)) (told_all (Rejected a.error_code) o.batch.items)
    (give_up reason.Fenced (without_attempt k (partition_at p s.partitions))).told
    (all_told (MayBeTold s (Reply now response)) (Rejected a.error_code) o.batch.items
    (all_placed (λ (i : Item). MayBeTold s (Reply now response)
    (record { item = i; outcome = Rejected a.error_code })) o.batch.items
    (λ n i e. (settles s response p o a is Reject v n i e, refl))))
    (all_given_up (MayBeTold s (Reply now response)) reason.Fenced (without_attempt k (partition_at p s.partitions))
    (λ i h. (
      p,
      record { batch = o; answer = a; answered = is; means = v },
      open_beside is.correlation (partition_at p s.partitions) i (subst (λ (n : ℕ). IsOpenIn (without_attempt n (partition_at p s.partitions)) i) same h),
    ))
    (λ i h. (
      p,
      record { batch = o; answer = a; answered = is; means = v },
      record
          { batch = h.batch; is_queued = h.is_queued; has = h.has },
    )))

-- ---- a response's entries

-- there is one topic, and it has this name
pub record IsOneTopic (name : List ℕ) (topics : List TopicProduceResponse) : Type 0 where
  pub topic : TopicProduceResponse
  pub one : topics ≡ topic ∷ []
  pub named : bytes_eq topic.topic name ≡ true

one_topic : (name : List ℕ) (topics : List TopicProduceResponse) → is_one_topic name topics ≡ true → IsOneTopic name topics
one_topic name [] e = absurd cc
one_topic name (topic ∷ []) e = record { topic = topic; one = refl; named = e }
one_topic name (topic ∷ other ∷ topics) e = absurd cc

first_of_four : (a b c d : Bool) → (a && b && c && d) ≡ true → a ≡ true
first_of_four a b c d e = (and_parts a b (and_parts (a && b) c (and_parts (a && b && c) d e).0).0).0

pub has_one_topic : (k : ℕ) (ps : List ℕ) (s : Core) (produce : ProduceResponse) → answers_batches k ps s produce ≡ true → IsOneTopic s.names.topic produce.topics
unfolding answers_batches
has_one_topic k ps s produce e = one_topic s.names.topic produce.topics (first_of_four (is_one_topic s.names.topic produce.topics)
    (length (entries_of produce) == length ps)
    (list_all (λ (p : ℕ). length (entries_for p produce) == 1) ps)
    (list_all (λ (p : ℕ). list_all (has_offsets (awaiting k (partition_at p s.partitions))) (entries_for p produce)) ps) e)

pub entries_of_one : (produce : ProduceResponse) (topic : TopicProduceResponse) → produce.topics ≡ topic ∷ [] → entries_of produce ≡ topic.partitions
entries_of_one produce topic e =
    ap (λ (ts : List TopicProduceResponse). flat_map (λ (t : TopicProduceResponse). t.partitions) ts) e ∙ append-nil topic.partitions

-- an entry of a response to a request answers the partition's batch that is in flight in it
pub answered_so : (s : Core) (response : Response) (r : Request) (ps : List ℕ) (produce : ProduceResponse)
    → awaited response.correlation s ≡ Some r → response.body ≡ body.Produce produce → answers_batches r.correlation ps s produce ≡ true
    → (p : ℕ) (a : PartitionProduceResponse) (rest : List PartitionProduceResponse) → entries_for p produce ≡ a ∷ rest
    → (o : Open) → awaiting r.correlation (partition_at p s.partitions) ≡ Some o → IsAnswered s response p o a
answered_so s response r ps produce it is fits p a rest e o h =
    let topic = has_one_topic r.correlation ps s produce fits in
    let here = found (awaits r.correlation) (partition_at p s.partitions).open_batches o h in
    let first = filtered (is_for p) (entries_of produce) a (subst (λ (xs : List PartitionProduceResponse). Contains xs a) (sym e) (contains_head a rest)) in
    let entries = entries_of_one produce topic.topic topic.one in
    record {
      is_open = here.0;
      correlation = r.correlation;
      named = (in_flight response.correlation s r it).1;
      in_flight = here.1;
      produce = produce;
      body_is = is;
      topic = topic.topic;
      topics = topic.one;
      own = topic.named;
      has = subst (λ (xs : List PartitionProduceResponse). Contains xs a) entries first.0;
      partition = (Decides-int_eq a.partition (pos p)).0 first.1;
    }

at_batches : (now : ℕ) (s : Core) (response : Response) (r : Request) (ps : List ℕ) (produce : ProduceResponse)
    → awaited response.correlation s ≡ Some r → response.body ≡ body.Produce produce → answers_batches r.correlation ps s produce ≡ true
    → AllByRecursion (MayBeTold s (Reply now response)) (settle_batches now r.correlation ps produce s).told
unfolding at_these with_partitions answered_so
at_batches now s response r ps produce it is fits =
    all_flat_map (MayBeTold s (Reply now response))
    (λ p. (by_entries now r.correlation (partition_at p s.partitions) (entries_for p produce)).told)
    ps (λ p c. at_entries (λ (x : Effect). AllByRecursion (MayBeTold s (Reply now response)) x.told) now r.correlation
    (partition_at p s.partitions) (entries_for p produce) tt (λ a rest e o h.
    at_settled now r.correlation p s response o a (answered_so s response r ps produce it is fits p a rest e o h) refl (meaning_of a.error_code) refl))

tells_reply : (now : ℕ) (response : Response) (s : Core)
    → AllByRecursion (MayBeTold s (Reply now response)) (response_step now response s).told
tells_reply now response s = at_response (λ (x : Replies). AllByRecursion (MayBeTold s (Reply now response)) x.told) now response s (record {
  same = λ answer. tt;
  batches = λ r ps produce it demand is fits. at_batches now s response r ps produce it is fits;
  id = λ r p x it demand is fits. tt;
})

-- ---- any call

pub each_outcome : (s : Core) (call : Telling) → AllByRecursion (λ t. MayTell s call t.item t.outcome) (told_in s call)
each_outcome s (Append i) = tells_append i s
each_outcome s (Tick node now) = tells_tick node now s
each_outcome s (Reply now response) = tells_reply now response s
each_outcome s End = tells_end s
