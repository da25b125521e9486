-- What holds of every world of a run holds still when a reply came that was ever given.
use Rattle.kp_rules.specs.MaySend.{is_within_limit}
use Rattle.kp_accum.specs.Queue.{Pending}
use Rattle.kp_rules.specs.Partitions.{changed_at}
use Rattle.kp_rules.specs.Attempts.{is_live}
use Rattle.kp_rules.specs.Mismatch.{entries_for}
use Rattle.kp_rules.specs.Partitions.{new_partition}
use Rattle.kp_rules.specs.Partitions.{with_partition}
use Rattle.kp_rules.specs.Replies.{settle_batches}
use Rattle.kp_rules.specs.Replies.{settle_id}
use Rattle.kp_rules.specs.Attempts.{asks_for_id}
use Rattle.kp_rules.specs.Mismatch.{entries_of}
use Rattle.kp_rules.specs.Replies.{give_id}
use Rattle.std.proofs.Common.{filter}
use Rattle.std.proofs.Common.{◌≡◌, ℕ, ◌+◌, ◌<◌, ◌≤◌, Bool, true, false, not, List, [], ◌∷◌, length, ℤ, pos, negsuc, Some, refl, sym, ap, ◌∙◌, subst, arith}
use Rattle.std.specs.Prelude.{if◌then◌else◌, ◌&&◌, ◌||◌, nat_abs, int_le}
use Rattle.std.specs.List.{AllByRecursion, list_any}
use Rattle.std.specs.Ordering.{int_eq}
use Rattle.std.proofs.lemmas.Bool.{and_parts, not-true}
use Rattle.std.proofs.lemmas.Bool.Decides.{Decides-int_eq}
use Rattle.kp_accum.specs.declared.config.Config.{Config}
use Rattle.kp_frames.specs.declared.produce.PartitionProduceResponse.{PartitionProduceResponse}
use Rattle.kp_frames.specs.declared.producer_id.InitProducerIdResponse.{InitProducerIdResponse}
use Rattle.kp_frames.specs.declared.produce.ProduceResponse.{ProduceResponse}
use Rattle.kp_frames.specs.declared.response.ResponseBody.{ResponseBody}
use Rattle.kp_frames.specs.declared.response.ResponseBody.TheVariants.{Produce, InitProducerId}
use Rattle.kp_log.specs.BrokerStep.{Stands, NO_ERROR, DUPLICATE_SEQUENCE_NUMBER}
use Rattle.kp_log.specs.HandedOver.{IsStored}
use Rattle.kp_log.specs.History.{History}
use Rattle.kp_log.proofs.PlaceLemmas.{In, In-head}
use Rattle.kp_rules.proofs.CallLemmas.{at_response_going, OfResponse}
use Rattle.kp_rules.specs.Replies.{response_step, go_on_under}
use Rattle.kp_rules.proofs.OutcomeLemmas.{by_entries, in_flight}
use Rattle.kp_rules.proofs.ListLemmas.{at_set}
use Rattle.std.proofs.lemmas.List.{length-set}
use Rattle.kp_log.proofs.PlaceLemmas.{In-from_contains}
use Rattle.kp_rules.specs.declared.attempt.Attempt.TheVariants.{InFlight}
use Rattle.kp_rules.specs.declared.meaning.Meaning.TheVariants.{Stored, Duplicate, Retry, Reject}
use Rattle.kp_rules.specs.MaySend.{wants_id}
use Rattle.kp_rules.specs.Mismatch.{is_for, is_given, answers_id}
use Rattle.kp_rules.specs.Partitions.{partition_at, is_empty}
use Rattle.kp_rules.specs.Records.{HandedBatch, Open, Partition, Demand, Request, Core}
use Rattle.kp_rules.specs.Records as demand
use Rattle.kp_rules.specs.Replies.{awaited, Replies}
use Rattle.kp_rules.specs.Requesting.{Packet}
use Rattle.kp_rules.specs.Settling.{meaning_of, retried_codes}
use Rattle.kp_rules.specs.Telling.{at_these, with_partitions}
use Rattle.kp_world.specs.Client.{handed_at}
use Rattle.kp_world.specs.Delivering.{log_at, given}
use Rattle.kp_world.specs.Message.{sent_of, Says, SaysContent, Answers}
use Rattle.kp_world.specs.World.{PartAnswer, ReplyContent, Batches as Parts, Id as GivenId, Reply}
use Rattle.kp_world.proofs.BrokerLemmas.{PartAgrees}
use Rattle.kp_world.proofs.FlightLemmas.{PartHolds, ContentHolds, Steady, flies_same, steady_fresh}
use Rattle.kp_rules.proofs.PartitionLemmas.{length-changed_at}
use Rattle.kp_world.proofs.LawfulLemmas.{Lawful, StoredAt, lawful_core}
use Rattle.kp_world.proofs.LeavingLemmas.{Leaves, leaves_same, leaves_answered, SettlesOnly, at_some, left_alike}
use Rattle.kp_world.proofs.PrefixLemmas.{follows}
use Rattle.kp_world.proofs.SoundLemmas.{Sound, sound_fresh}
use Rattle.kp_world.proofs.ListLemmas.{all_at}
use Rattle.kp_world.proofs.ListLemmas.{left_in}

-- ---- which request a reply names

pub names_its : (k : ℤ) (s : Core) (q : Request) → awaited k s ≡ Some q → In q s.requests × (pos q.correlation ≡ k)
names_its k s q e = let f = in_flight k s q e in (In-from_contains s.requests q f.0, f.1)

pub same_correlation : (a b : ℕ) → pos a ≡ pos b → a ≡ b
same_correlation a b e = cc

-- ---- what a code means

pub stored_code : (code : ℤ) → meaning_of code ≡ Stored → code ≡ NO_ERROR
unfolding meaning_of
stored_code code e = at_none (int_eq code (pos 0)) refl e
  where
    later : (b c : Bool) → (if b then Duplicate else if c then Retry else Reject) ≡ Stored → ⊥
    later true c e' = absurd cc
    later false true e' = absurd cc
    later false false e' = absurd cc

    at_none : (b : Bool) → int_eq code (pos 0) ≡ b → (if b then Stored else if int_eq code (pos 46) then Duplicate else if list_any (int_eq code) retried_codes then Retry else Reject) ≡ Stored → code ≡ pos 0
    at_none true is e' = (Decides-int_eq code (pos 0)).0 is
    at_none false is e' = absurd (later (int_eq code (pos 46)) (list_any (int_eq code) retried_codes) e')

pub duplicate_code : (code : ℤ) → meaning_of code ≡ Duplicate → code ≡ DUPLICATE_SEQUENCE_NUMBER
unfolding meaning_of
duplicate_code code e = at_none (int_eq code (pos 0)) e
  where
    later : (c : Bool) → (if c then Retry else Reject) ≡ Duplicate → ⊥
    later true e' = absurd cc
    later false e' = absurd cc

    at_old : (b : Bool) → int_eq code (pos 46) ≡ b → (if b then Duplicate else if list_any (int_eq code) retried_codes then Retry else Reject) ≡ Duplicate → code ≡ pos 46
    at_old true is e' = (Decides-int_eq code (pos 46)).0 is
    at_old false is e' = absurd (later (list_any (int_eq code) retried_codes) e')

    at_none : (b : Bool) → (if b then Stored else if int_eq code (pos 46) then Duplicate else if list_any (int_eq code) retried_codes then Retry else Reject) ≡ Duplicate → code ≡ pos 46
    at_none true e' = absurd cc
    at_none false e' = at_old (int_eq code (pos 46)) refl e'

-- ---- a partition's answer in a reply to request k

-- an open batch in flight in request k is the one that was answered
pub answered_batch : {most : ℕ} (p next k : ℕ) (e : Bool) (t : Partition) (handed : List HandedBatch) (h : History) (packets : List Packet) (replies : List Reply) (r : Reply) (parts : List PartAnswer) (a : PartAnswer)
    → Steady most p e next t handed h packets replies → In r replies → r.content ≡ Parts parts → k ≡ r.correlation → In a parts → a.partition ≡ p → (o : Open) → In o t.open_batches → o.attempt ≡ InFlight k
    → (x : PartHolds p (length handed) r.correlation packets h.records a.answer) × (x.batch ≡ o.batch)
answered_batch p next k e t handed h packets replies r parts a s i is named j at o there flies =
    let x : PartHolds p (length handed) r.correlation packets h.records a.answer = subst (ContentHolds p (length handed) r.correlation packets h.records) is (s.heard r i) a j at in
    (x, flies_same p next r.correlation packets o.batch x.batch ((s.aloft o there).flies r.correlation (flies ∙ ap InFlight named)) x.carried)

-- a batch that is too old is not in flight
pub old_not_in_flight : (p next k : ℕ) (e : Bool) (t : Partition) (handed : List HandedBatch) (h : History) (packets : List Packet) (replies : List Reply) (r : Reply) (parts : List PartAnswer) (a : PartAnswer)
    → Steady 5 p e next t handed h packets replies → In r replies → r.content ≡ Parts parts → k ≡ r.correlation → In a parts → a.partition ≡ p → a.answer.code ≡ DUPLICATE_SEQUENCE_NUMBER → (o : Open) → In o t.open_batches → o.attempt ≡ InFlight k → ⊥
old_not_in_flight p next k e t handed h packets replies r parts a s i is named j at code o there flies =
    let x = answered_batch p next k e t handed h packets replies r parts a s i is named j at o there flies in
    let near : length handed ≤ o.batch.number + 5 = (s.aloft o there).near in
    let old : x.0.batch.number + 6 ≤ length handed = x.0.old code in
    let same : x.0.batch.number ≡ o.batch.number = ap (λ (b : HandedBatch). b.number) x.1 in
    omega (arith, near, old, same)

-- an entry that says what a part was answered settles only what it may
leaves_said : {most : ℕ} (p now next k : ℕ) (ids : List ℕ) (e : Bool) (t : Partition) (handed : List HandedBatch) (h : History) (packets : List Packet) (replies : List Reply) (r : Reply) (parts : List PartAnswer) (x : PartitionProduceResponse)
    → Sound ids t handed h → Steady most p e next t handed h packets replies → In r replies → r.content ≡ Parts parts → k ≡ r.correlation → Says parts x → x.partition ≡ pos p
    → Leaves (λ b. IsStored h.records (sent_of b)) e t (by_entries now k t (x ∷ [])).after
leaves_said p now next k ids e t handed h packets replies r parts x sound s i is named says mine = leaves_answered (λ b. IsStored h.records (sent_of b)) e now k t x only kept
  where
    a : PartAnswer
    a = says.part

    j : In a parts
    j = In-from_contains parts a says.answered

    at : a.partition ≡ p
    at = same_correlation a.partition p (sym says.partition ∙ mine)

    only : meaning_of x.error_code ≡ Stored → SettlesOnly (λ b. IsStored h.records (sent_of b)) k t
    only v o there flies =
        let y = answered_batch p next k e t handed h packets replies r parts a s i is named j at o there flies in
        let known : In o.batch handed = all_at (λ (z : Open). In z.batch handed) t.open_batches o sound.opens there in
        record {
          some_records = (follows ids t handed h sound known.earlier known.later o.batch known.split).some_records;
          base = a.answer.base;
          stands = subst (λ (b : HandedBatch). Stands h.records (sent_of b) a.answer.base) y.1 (y.0.stored (stored_code a.answer.code (ap meaning_of (sym says.code) ∙ v)));
        }

    kept : meaning_of x.error_code ≡ Duplicate → SettlesOnly (λ b. IsStored h.records (sent_of b)) k t
    kept v o there flies =
        let y = answered_batch p next k e t handed h packets replies r parts a s i is named j at o there flies in
        subst (λ (b : HandedBatch). IsStored h.records (sent_of b)) y.1 (y.0.kept (duplicate_code a.answer.code (ap meaning_of (sym says.code) ∙ v)))

leaves_part : {most : ℕ} (p now next k : ℕ) (ids : List ℕ) (e : Bool) (t : Partition) (handed : List HandedBatch) (h : History) (packets : List Packet) (replies : List Reply) (r : Reply) (parts : List PartAnswer) (entries : List PartitionProduceResponse)
    → Sound ids t handed h → Steady most p e next t handed h packets replies → In r replies → r.content ≡ Parts parts → k ≡ r.correlation → AllByRecursion (Says parts) entries
    → Leaves (λ b. IsStored h.records (sent_of b)) e t (by_entries now k t (filter (is_for p) entries)).after
leaves_part p now next k ids e t handed h packets replies r parts entries sound s i is named says = at_first (filter (is_for p) entries) refl
  where
    at_first : (as' : List PartitionProduceResponse) → filter (is_for p) entries ≡ as' → Leaves (λ b. IsStored h.records (sent_of b)) e t (by_entries now k t as').after
    at_first [] e' = leaves_same (λ b. IsStored h.records (sent_of b)) e t
    at_first (x ∷ xs) e' =
        let there : In x (filter (is_for p) entries) = subst (λ (ys : List PartitionProduceResponse). In x ys) (sym e') (In-head x xs) in
        let both = left_in (is_for p) entries x there in
        leaves_said p now next k ids e t handed h packets replies r parts x sound s i is named (all_at (Says parts) entries x says both.0) ((Decides-int_eq x.partition (pos p)).0 both.1)

-- ---- a reply to a Produce request

-- its entries say what its parts were answered
pub parts_heard : (c : ReplyContent) (b : ResponseBody) (x : ProduceResponse) → SaysContent c b → b ≡ Produce x → (parts : List PartAnswer) × (c ≡ Parts parts) × AllByRecursion (Says parts) (entries_of x)
parts_heard c b x says is = at_content c (subst (SaysContent c) is says)
  where
    at_content : (c : ReplyContent) → SaysContent c (Produce x) → (parts : List PartAnswer) × (c ≡ Parts parts) × AllByRecursion (Says parts) (entries_of x)
    at_content (GivenId code id) says' = absurd says'
    at_content (Parts parts) says' = (parts, refl, says')

lawful_parts : {most : ℕ} (n now : ℕ) (s : Core) (logs : List History) (handed : List (List HandedBatch)) (packets : List Packet) (replies : List Reply) (ids : List ℕ) (k : ℕ) (ps : List ℕ) (x : ProduceResponse) (r : Reply) (parts : List PartAnswer)
    → Lawful most n s logs handed packets replies ids → In r replies → r.content ≡ Parts parts → AllByRecursion (Says parts) (entries_of x) → k ≡ r.correlation
    → Lawful most n (settle_batches now k ps x s).after logs handed packets replies ids
unfolding at_these with_partitions
lawful_parts n now s logs handed packets replies ids k ps x r parts g i is says named = lawful_core n s (settle_batches now k ps x s).after logs handed packets replies ids g (record {
  count = length-changed_at ps rule s.partitions;
  config = refl;
  ended = λ e. e;
  correlation = refl;
  requests = λ q i. (left_in (is_live (changed_at ps rule s.partitions)) s.requests q i).0;
  each = λ p h. at_some (StoredAt logs) s.ended ps rule s.partitions p h
      (let both = g.agree p (subst (λ (m : ℕ). p < m) g.count h) in
      leaves_part p now s.correlation k ids s.ended (partition_at p s.partitions) (handed_at p handed) (log_at p logs) packets replies r parts (entries_of x) both.sound both.steady i is named says);
})
  where
    rule : ℕ → Partition → Partition
    rule p t = (by_entries now k t (entries_for p x)).after

-- ---- a reply to an InitProducerId request

is_none : (os : List Open) → is_empty os ≡ true → os ≡ []
is_none [] e = refl
is_none (o ∷ os) e = absurd cc

-- the front of the queue would pass the limit
abbrev front_is_past_limit : Config → Partition → List Pending → Bool
front_is_past_limit c t q = elim q [ [] ↦ false | front ∷ behind ↦ not (is_within_limit c t front) ]

-- The partition goes on under the id, where it wants one still.
agrees_fresh : {most : ℕ} (p next id : ℕ) (c : Config) (t : Partition) (handed : List HandedBatch) (h : History) (packets : List Packet) (replies : List Reply) (ids : List ℕ)
    → PartAgrees most p ids false next t handed h packets replies → In id ids → (In id t.ids → ⊥) → PartAgrees most p ids false next (if wants_id c t then go_on_under id t else t) handed h packets replies
unfolding wants_id
agrees_fresh {most = most} p next id c t handed h packets replies ids a drawn spare = at_test (wants_id c t) refl
  where
    at_test : (b : Bool) → wants_id c t ≡ b → PartAgrees most p ids false next (if b then go_on_under id t else t) handed h packets replies
    at_test false w = a
    at_test true w =
        let two = and_parts (not t.fenced && is_empty t.open_batches) (front_is_past_limit c t t.queue) w in
        let one = and_parts (not t.fenced) (is_empty t.open_batches) two.0 in
        let sound : Sound ids (go_on_under id t) handed h = sound_fresh ids id t handed h a.sound drawn spare in
        record { sound = sound; steady = steady_fresh ids t handed h p next id packets replies a.sound sound a.steady (is_none t.open_batches one.1) (not-true t.fenced one.0) }

-- the core without its request for an id
abbrev idle : Core → Core
idle s = record s { requests = filter (λ r. not (asks_for_id r)) s.requests }

none_asks : (s : Core) (q : Request) → In q (idle s).requests → asks_for_id q ≡ true → ⊥
none_asks s q i a = let no : asks_for_id q ≡ false = not-true (asks_for_id q) (left_in (λ r. not (asks_for_id r)) s.requests q i).1 in let both : true ≡ false = sym a ∙ no in cc

idle_lawful : {most : ℕ} (n : ℕ) (s : Core) (logs : List History) (handed : List (List HandedBatch)) (packets : List Packet) (replies : List Reply) (ids : List ℕ)
    → Lawful most n s logs handed packets replies ids → Lawful most n (idle s) logs handed packets replies ids
idle_lawful n s logs handed packets replies ids g =
    lawful_core n s (idle s) logs handed packets replies ids g (left_alike (StoredAt logs) s (idle s) refl refl refl refl (λ q i. (left_in (λ r. not (asks_for_id r)) s.requests q i).0))

lawful_given : {most : ℕ} (n id p : ℕ) (s : Core) (logs : List History) (handed : List (List HandedBatch)) (packets : List Packet) (replies : List Reply) (ids : List ℕ)
    → Lawful most n (idle s) logs handed packets replies ids → s.ended ≡ false → In id ids → ((p : ℕ) → p < n → In id (partition_at p s.partitions).ids → ⊥)
    → Lawful most n (give_id id p (idle s)) logs handed packets replies ids
lawful_given {most = most} n id p s logs handed packets replies ids g going drawn spare = at_want (wants_id s.config t) refl
  where
    t : Partition
    t = partition_at p s.partitions

    given_to : Core
    given_to = with_partition p (go_on_under id t) (idle s)

    mine : (q : ℕ) → q < n → PartAgrees most q ids false s.correlation (partition_at q s.partitions) (handed_at q handed) (log_at q logs) packets replies
    mine q h = subst (λ (e : Bool). PartAgrees most q ids e s.correlation (partition_at q s.partitions) (handed_at q handed) (log_at q logs) packets replies) going (g.agree q h)

    each : wants_id s.config t ≡ true → (q : ℕ) → q < n → PartAgrees most q ids s.ended s.correlation (partition_at q given_to.partitions) (handed_at q handed) (log_at q logs) packets replies
    each wants q h =
        subst (λ (e : Bool). PartAgrees most q ids e s.correlation (partition_at q given_to.partitions) (handed_at q handed) (log_at q logs) packets replies) (sym going)
        (at_set (λ (u : Partition). PartAgrees most q ids false s.correlation u (handed_at q handed) (log_at q logs) packets replies) s.partitions p q (go_on_under id t) (new_partition 0)
        (λ e. (
          subst (λ (m : ℕ). p < m) (sym g.count) (subst (λ (m : ℕ). m < n) e h),
          subst (λ (m : ℕ). PartAgrees most m ids false s.correlation (go_on_under id t) (handed_at m handed) (log_at m logs) packets replies) (sym e)
              (subst (λ (b : Bool). PartAgrees most p ids false s.correlation (if b then go_on_under id t else t) (handed_at p handed) (log_at p logs) packets replies) wants
              (agrees_fresh p s.correlation id s.config t (handed_at p handed) (log_at p logs) packets replies ids (mine p (subst (λ (m : ℕ). m < n) e h)) drawn (spare p (subst (λ (m : ℕ). m < n) e h)))),
        ))
        (mine q h))

    at_want : (b : Bool) → wants_id s.config t ≡ b → Lawful most n (if b then given_to else idle s) logs handed packets replies ids
    at_want false is = g
    at_want true is = record {
      count = length-set s.partitions p (go_on_under id t) ∙ g.count;
      handed_count = g.handed_count;
      logs_count = g.logs_count;
      window = g.window;
      some = g.some;
      agree = each is;
      went = λ o j. let w = g.went o j in record { before = w.before; parts = w.parts };
      gave = λ x j. let w = g.gave x j in record { before = w.before; answers = w.answers; drawn = w.drawn; spare = λ m q e i a c. absurd (none_asks s q i a) };
      asked = g.asked;
    }

-- the answer to a request for an id says what was answered
pub id_heard : (c : ReplyContent) (b : ResponseBody) (x : InitProducerIdResponse) → SaysContent c b → b ≡ InitProducerId x → (code id : ℤ) × (c ≡ GivenId code id) × (x.error_code ≡ code) × (code ≡ pos 0 → x.producer_id ≡ id)
id_heard c b x says is = at_content c (subst (SaysContent c) is says)
  where
    at_content : (c : ReplyContent) → SaysContent c (InitProducerId x) → (code id : ℤ) × (c ≡ GivenId code id) × (x.error_code ≡ code) × (code ≡ pos 0 → x.producer_id ≡ id)
    at_content (Parts parts) says' = absurd says'
    at_content (GivenId code id) says' = (code, id, refl, says'.0, says'.1)

lawful_id_reply : {most : ℕ} (n now p : ℕ) (s : Core) (logs : List History) (handed : List (List HandedBatch)) (packets : List Packet) (replies : List Reply) (ids : List ℕ) (q : Request) (r : Reply) (x : InitProducerIdResponse) (code id : ℤ)
    → Lawful most n s logs handed packets replies ids → s.ended ≡ false → In r replies → r.content ≡ GivenId code id → x.error_code ≡ code → (code ≡ pos 0 → x.producer_id ≡ id)
    → In q s.requests → asks_for_id q ≡ true → q.correlation ≡ r.correlation → answers_id x ≡ true
    → Lawful most n (settle_id now p x s) logs handed packets replies ids
unfolding answers_id
lawful_id_reply {most = most} n now p s logs handed packets replies ids q r x code id g going i is says given_is there asks named valid = at_given (is_given x) refl valid
  where
    by_id : (z : ℤ) → code ≡ pos 0 → id ≡ z → int_le (pos 0) z && int_eq x.producer_epoch (pos 0) ≡ true → Lawful most n (give_id (nat_abs z) p (idle s)) logs handed packets replies ids
    by_id (pos m) zero at v =
        let content : r.content ≡ given m = is ∙ ap (λ (c : ℤ). GivenId c id) zero ∙ ap (GivenId (pos 0)) at in
        lawful_given n m p s logs handed packets replies ids (idle_lawful n s logs handed packets replies ids g) going ((g.gave r i).drawn m content)
        (λ x h. (g.gave r i).spare m q content there asks named x h)
    by_id (negsuc m) zero at v = absurd cc

    at_given : (b : Bool) → is_given x ≡ b → not b || (int_le (pos 0) x.producer_id && int_eq x.producer_epoch (pos 0)) ≡ true
        → Lawful most n (if b then give_id (nat_abs x.producer_id) p (idle s) else record (idle s) { id_waits = Some now }) logs handed packets replies ids
    at_given true e v =
        let zero : code ≡ pos 0 = sym says ∙ (Decides-int_eq x.error_code (pos 0)).0 e in
        by_id x.producer_id zero (sym (given_is zero)) v
    at_given false e v =
        lawful_core n s (record (idle s) { id_waits = Some now }) logs handed packets replies ids g
        (left_alike (StoredAt logs) s (record (idle s) { id_waits = Some now }) refl refl refl refl (λ q i. (left_in (λ r. not (asks_for_id r)) s.requests q i).0))

-- ---- any reply

abbrev pub asks : Demand ℕ → Bool
asks d = elim d [ demand.Produce ps ↦ false | demand.InitProducerId p ↦ true ]

pub asks_by : (d : Demand ℕ) (p : ℕ) → d ≡ demand.InitProducerId p → asks d ≡ true
asks_by d p e = ap asks e

pub lawful_reply : {most : ℕ} (n now : ℕ) (s : Core) (logs : List History) (handed : List (List HandedBatch)) (packets : List Packet) (replies : List Reply) (ids : List ℕ) (r : Reply)
    → Lawful most n s logs handed packets replies ids → In r replies → Lawful most n (response_step now r.response s).after logs handed packets replies ids
lawful_reply {most = most} n now s logs handed packets replies ids r g i =
    at_response_going (λ (x : Replies). Lawful most n x.after logs handed packets replies ids) now r.response s g heard
  where
    answers : Answers r.correlation r.content r.response
    answers = (g.gave r i).answers

    names_it : (q : Request) → awaited r.response.correlation s ≡ Some q → q.correlation ≡ r.correlation
    names_it q who = same_correlation q.correlation r.correlation ((names_its r.response.correlation s q who).1 ∙ answers.named)

    heard : s.ended ≡ false → OfResponse (λ (x : Replies). Lawful most n x.after logs handed packets replies ids) now r.response s
    heard going = record {
      same = λ answer. g;
      batches = λ q ps x who demand is fits.
          let it = parts_heard r.content r.response.body x answers.says is in
          lawful_parts n now s logs handed packets replies ids q.correlation ps x r it.0 g i it.1 it.2 (names_it q who);
      id = λ q p x who demand is valid.
          let it = id_heard r.content r.response.body x answers.says is in
          let wants : asks_for_id q ≡ true = asks_by q.demand p demand in
          lawful_id_reply n now p s logs handed packets replies ids q r x it.0 it.1 g going i it.2 it.3 it.4 (names_its r.response.correlation s q who).0 wants (names_it q who) valid;
    }
