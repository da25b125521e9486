-- What a call does otherwise, tells and answers doesn't depend on audits.
use Rattle.std.proofs.Common.{◌≡◌, ℕ, zero, suc, ◌+◌, Bool, true, false, not, List, [], ◌∷◌, ◌++◌, length, map, Some, None, refl, sym, ap, ◌∙◌}
use Rattle.std.proofs.Math.Path.{fun_ext}
use Rattle.std.specs.Prelude.{Option, Result, Ok, Err, ℤ, filter, filter_map, find, flat_map, drop, take, is_some, nat_abs, nat_le, nat_lt, option_map, slice_set, sum_by, if◌then◌else◌, ◌&&◌, ◌==◌}
use Rattle.std.specs.List.{cons_option, enumerate_from, list_all, list_any}
use Rattle.std.proofs.lemmas.List.{drop-map, take-map, length-map, map-append}
use Rattle.kp_wire.specs.Reading.{Read}
use Rattle.kp_wire.specs.Fields.{int32}
use Rattle.kp_accum.specs.declared.config.Config.{Config}
use Rattle.kp_accum.specs.declared.item.Item.{Item}
use Rattle.kp_accum.specs.Queue.{Pending, charge_of}
use Rattle.kp_frames.specs.declared.fault.FrameFault.{FrameFault}
use Rattle.kp_frames.specs.declared.fault.FrameFault.TheVariants.{Mismatch}
use Rattle.kp_frames.specs.declared.producer_id.InitProducerIdResponse.{InitProducerIdResponse}
use Rattle.kp_frames.specs.declared.produce.PartitionProduceResponse.{PartitionProduceResponse}
use Rattle.kp_frames.specs.declared.produce.ProduceResponse.{ProduceResponse}
use Rattle.kp_frames.specs.declared.response.Response.{Response}
use Rattle.kp_frames.specs.declared.response.ResponseBody.{ResponseBody}
use Rattle.kp_frames.specs.declared.response.ResponseBody.TheVariants as body
use Rattle.kp_frames.specs.Response.{response_at}
use Rattle.kp_rules.specs.declared.fault.CoreFault.TheVariants as fault
use Rattle.kp_rules.specs.declared.meaning.Meaning.{Meaning}
use Rattle.kp_rules.specs.declared.meaning.Meaning.TheVariants as meaning
use Rattle.kp_rules.specs.declared.outcome.Reason.{Reason}
use Rattle.kp_rules.specs.declared.outcome.Reason.TheVariants as reason
use Rattle.kp_rules.specs.Appending.{enqueue, turn_away, with_queued, may_append, would_exhaust, append_step}
use Rattle.kp_rules.specs.Attempts.{awaiting, has_window, is_id_asked, is_live, lowest_waiting}
use Rattle.kp_rules.specs.Auditing.{unaudited, without_audits, effect_unaudited, called_unaudited}
use Rattle.kp_rules.specs.Closing.{close_step, end_all, end_step}
use Rattle.kp_rules.specs.Dropping.{drop_attempts, drop_led, drop_requests, disconnect_step}
use Rattle.kp_rules.specs.Fence.{give_up, fence}
use Rattle.kp_rules.specs.Flush.{has_marks, is_flushed, mark, flush_step}
use Rattle.kp_rules.specs.HandingOver.{hand_over_in, sent_again, send_in}
use Rattle.kp_rules.specs.Leading.{moved_to, led_by, with_live, lead_step}
use Rattle.kp_rules.specs.MaySend.{is_confirmed, is_within_limit, sends, wants_id}
use Rattle.kp_rules.specs.Mismatch.{answers_batches, entries_for, entries_of, has_offsets, is_given, is_one_topic, answers_id}
use Rattle.kp_accum.specs.Ready.{is_over}
use Rattle.kp_rules.specs.Next.{Sending, demand_with, fitting, in_turn, next_asking, next_batches, next_demand, sends_to, sending_by, used_up_to}
use Rattle.kp_rules.specs.Partitions.{is_in, leads, partition_at, with_partition, changed_at, untold, all_untold, used}
use Rattle.kp_rules.specs.Records.{Open, Partition, Demand, Produce, InitProducerId, Request, Core, Told, Effect, Called, quietly}
use Rattle.kp_rules.specs.Replies.{awaited, settle_batches, go_on_under, give_id, settle_id, refuse_as, known, settle, response_step, api_of, reply_step}
use Rattle.kp_rules.specs.Reports.{fetch_step}
use Rattle.kp_rules.specs.Requesting.{Requested, partitions_in, is_spent, go_out, request_step}
use Rattle.kp_rules.specs.Settling.{meaning_of, settle_by, settle_batch}
use Rattle.kp_rules.specs.Telling.{with_partitions, at_each, at_these}
use Rattle.kp_rules.specs.Tick.{Ticks, is_open_late, expire_front, heed_deadlines, has_timed_out, tick_partitions, tick_step}
use Rattle.kp_rules.proofs.CallLemmas.{reading, naming, hearing, by_attempt, by_entries, idle}
use Rattle.kp_rules.proofs.FetchedLemmas.{append_by, request_by, response_by, tick_by_cases}
use Rattle.kp_rules.proofs.ListLemmas.{flat_map_mapped, list_any_mapped}

-- ---- a partition's rules

same_give_up : (why : Reason) (t : Partition) → give_up why (unaudited t) ≡ effect_unaudited (give_up why t)
unfolding give_up
same_give_up why t = refl

same_heed : (c : Config) (now : ℕ) (t : Partition) → heed_deadlines c now (unaudited t) ≡ effect_unaudited (heed_deadlines c now t)
unfolding heed_deadlines fence give_up
same_heed c now t = by_late (list_any (λ o. is_open_late c now o) t.open_batches)
  where
    by_late : (b : Bool)
        → (if b then fence (unaudited t) else expire_front c now (unaudited t))
        ≡ effect_unaudited (if b then fence t else expire_front c now t)
    by_late true = refl
    by_late false = refl

same_settle : (now k : ℕ) (t : Partition) (o : Open) (a : PartitionProduceResponse) (m : Meaning)
    → settle_by now k (unaudited t) o a m ≡ effect_unaudited (settle_by now k t o a m)
unfolding fence give_up
same_settle now k t o a meaning.Stored = refl
same_settle now k t o a meaning.Duplicate = refl
same_settle now k t o a meaning.Retry = refl
same_settle now k t o a meaning.Reject = refl

same_attempt : (now k : ℕ) (t : Partition) (a : PartitionProduceResponse) (o : Option Open)
    → by_attempt now k (unaudited t) a o ≡ effect_unaudited (by_attempt now k t a o)
same_attempt now k t a None = refl
same_attempt now k t a (Some o) = same_settle now k t o a (meaning_of a.error_code)

same_entries : (now k : ℕ) (xs : List PartitionProduceResponse) (t : Partition)
    → by_entries now k (unaudited t) xs ≡ effect_unaudited (by_entries now k t xs)
unfolding settle_batch
same_entries now k [] t = refl
same_entries now k (a ∷ others) t = same_attempt now k t a (awaiting k t)

same_send : (k : ℕ) (t : Partition) → send_in k (unaudited t) ≡ unaudited (send_in k t)
unfolding send_in hand_over_in
same_send k t = by_waiting (lowest_waiting t)
  where
    by_queue : (queue : List Pending) → hand_over_in k (unaudited t) queue ≡ unaudited (hand_over_in k t queue)
    by_queue [] = refl
    by_queue (front ∷ behind) = refl

    by_waiting : (o : Option Open)
        → elim o [ Some lowest ↦ sent_again k (unaudited t) | None ↦ hand_over_in k (unaudited t) t.queue ]
        ≡ unaudited (elim o [ Some lowest ↦ sent_again k t | None ↦ hand_over_in k t t.queue ])
    by_waiting (Some o) = refl
    by_waiting None = by_queue t.queue

-- ---- partitions

abbrev all_unaudited : List Partition → List Partition
all_unaudited ts = map unaudited ts

-- what doesn't look at an audit sees the same of a partition
seen_at : {A : Type 0} (g : Partition → A) → ((t : Partition) → g (unaudited t) ≡ g t) → (p : ℕ) (ts : List Partition)
    → g (partition_at p (all_unaudited ts)) ≡ g (partition_at p ts)
seen_at g same p [] = refl
seen_at g same zero (t ∷ ts) = same t
seen_at g same (suc p) (t ∷ ts) = seen_at g same p ts

-- a partition is put in its place
put_at : (f : Partition → Partition) → ((t : Partition) → f (unaudited t) ≡ unaudited (f t)) → (p : ℕ) (ts : List Partition)
    → slice_set (all_unaudited ts) p (f (partition_at p (all_unaudited ts))) ≡ all_unaudited (slice_set ts p (f (partition_at p ts)))
put_at f same p [] = refl
put_at f same zero (t ∷ ts) = ap (λ (u : Partition). u ∷ all_unaudited ts) (same t)
put_at f same (suc p) (t ∷ ts) = ap (λ (us : List Partition). unaudited t ∷ us) (put_at f same p ts)

each_changed : (f : Partition → Partition) → ((t : Partition) → f (unaudited t) ≡ unaudited (f t)) → (ts : List Partition)
    → map f (all_unaudited ts) ≡ all_unaudited (map f ts)
each_changed f same [] = refl
each_changed f same (t ∷ ts) = ap (λ (u : Partition). u ∷ map f (all_unaudited ts)) (same t) ∙ ap (λ (us : List Partition). unaudited (f t) ∷ us) (each_changed f same ts)

abbrev change_at : List ℕ → (ℕ → Partition → Partition) → ℕ × Partition → Partition
change_at ps f x = if is_in x.0 ps then f x.0 x.1 else x.1

some_changed : (ps : List ℕ) (f : ℕ → Partition → Partition) → ((p : ℕ) (t : Partition) → f p (unaudited t) ≡ unaudited (f p t)) → (ts : List Partition)
    → changed_at ps f (all_unaudited ts) ≡ all_unaudited (changed_at ps f ts)
unfolding changed_at
some_changed ps f same ts = from 0 ts
  where
    by_test : (p : ℕ) (t : Partition) (b : Bool) → (if b then f p (unaudited t) else unaudited t) ≡ unaudited (if b then f p t else t)
    by_test p t true = same p t
    by_test p t false = refl

    from : (k : ℕ) (us : List Partition)
        → map (change_at ps f) (enumerate_from k (all_unaudited us)) ≡ all_unaudited (map (change_at ps f) (enumerate_from k us))
    from k [] = refl
    from k (u ∷ us) =
        ap (λ (v : Partition). v ∷ map (change_at ps f) (enumerate_from (k + 1) (all_unaudited us))) (by_test k u (is_in k ps))
        ∙ ap (λ (vs : List Partition). unaudited (change_at ps f (k, u)) ∷ vs) (from (k + 1) us)

-- ---- requests that are in flight, and what is told

abbrev live_by : ℕ → List Partition → Demand ℕ → Bool
live_by k ts d = elim d [ Produce ps ↦ list_any (λ p. is_some (awaiting k (partition_at p ts))) ps | InitProducerId p ↦ true ]

same_live : (ts : List Partition) (r : Request) → is_live (all_unaudited ts) r ≡ is_live ts r
same_live ts r = by_demand r.demand
  where
    by_demand : (d : Demand ℕ) → live_by r.correlation (all_unaudited ts) d ≡ live_by r.correlation ts d
    by_demand (Produce ps) =
        ap (λ (test : ℕ → Bool). list_any test ps) (fun_ext (λ p. seen_at (λ t. is_some (awaiting r.correlation t)) (λ t. refl) p ts))
    by_demand (InitProducerId p) = refl

same_partitions : (ts : List Partition) (told : List Told) (s : Core)
    → with_partitions (all_unaudited ts) told (without_audits s) ≡ called_unaudited (with_partitions ts told s)
unfolding with_partitions without_audits
same_partitions ts told s =
    ap (λ (live : Request → Bool). let x : Called ℕ = called_unaudited (record (with_partitions ts told s) { after = record (with_partitions ts told s).after { requests = filter live s.requests } }) in x)
    (fun_ext (same_live ts))

abbrev IsBlind : (Partition → Effect) → Type 0
IsBlind rule = (t : Partition) → rule (unaudited t) ≡ effect_unaudited (rule t)

same_each : (rule : Partition → Effect) → IsBlind rule → (s : Core) → at_each rule (without_audits s) ≡ called_unaudited (at_each rule s)
unfolding at_each without_audits
same_each rule same s =
    ap (λ (ts : List Partition). with_partitions ts (flat_map (λ t. (rule t).told) (all_unaudited s.partitions)) (without_audits s))
    (each_changed (λ t. (rule t).after) (λ t. ap (λ (e : Effect). e.after) (same t)) s.partitions)
    ∙ ap (λ (told : List Told). with_partitions (all_unaudited (map (λ t. (rule t).after) s.partitions)) told (without_audits s))
    (flat_map_mapped (λ t. (rule t).told) unaudited (λ t. (rule t).told) (λ t. ap (λ (e : Effect). e.told) (same t)) s.partitions)
    ∙ same_partitions (map (λ t. (rule t).after) s.partitions) (flat_map (λ t. (rule t).told) s.partitions) s

same_these : (ps : List ℕ) (rule : ℕ → Partition → Effect) → ((p : ℕ) → IsBlind (rule p)) → (s : Core)
    → at_these ps rule (without_audits s) ≡ called_unaudited (at_these ps rule s)
unfolding at_these without_audits
same_these ps rule same s =
    ap (λ (ts : List Partition). with_partitions ts (flat_map (λ p. (rule p (partition_at p (all_unaudited s.partitions))).told) ps) (without_audits s))
    (some_changed ps (λ p t. (rule p t).after) (λ p t. ap (λ (e : Effect). e.after) (same p t)) s.partitions)
    ∙ ap (λ (tell : ℕ → List Told). with_partitions (all_unaudited (changed_at ps (λ p t. (rule p t).after) s.partitions)) (flat_map tell ps) (without_audits s))
    (fun_ext (λ p. seen_at (λ t. (rule p t).told) (λ t. ap (λ (e : Effect). e.told) (same p t)) p s.partitions))
    ∙ same_partitions (changed_at ps (λ p t. (rule p t).after) s.partitions) (flat_map (λ p. (rule p (partition_at p s.partitions)).told) ps) s

-- ---- an append

turned_blind : (why : Reason) (i : Item) (s : Core) → turn_away why i (without_audits s) ≡ called_unaudited (turn_away why i s)
unfolding without_audits
turned_blind why i s = refl

queued_blind : (i : Item) (s : Core) → with_queued i (without_audits s) ≡ without_audits (with_queued i s)
unfolding without_audits
queued_blind i s = ap (λ (ts : List Partition). let u : Core = record s { partitions = ts } in u) (put_at (enqueue s.config i) (λ t. refl) i.partition s.partitions)

same_untold : (s : Core) → all_untold (without_audits s) ≡ all_untold s
unfolding without_audits untold
same_untold s = flat_map_mapped untold unaudited untold (λ t. refl) s.partitions

append_by_cases : (i : Item) (s : Core) (may ended fenced full : Bool)
    → append_by i (without_audits s) may ended fenced full ≡ called_unaudited (append_by i s may ended fenced full)
unfolding without_audits
append_by_cases i s false ended fenced full = refl
append_by_cases i s true true fenced full = turned_blind reason.Ended i s
append_by_cases i s true false true full = turned_blind reason.Fenced i s
append_by_cases i s true false false true = refl
append_by_cases i s true false false false = ap (λ (u : Core). quietly u (Ok tt)) (queued_blind i s)

same_may : (i : Item) (s : Core) → may_append i (without_audits s) ≡ may_append i s
unfolding may_append without_audits
same_may i s =
    ap (λ (n : ℕ). nat_lt i.sender (length s.reports) && nat_lt i.partition n && nat_le (charge_of i) s.config.max_request_size
    && nat_le (charge_of i) s.config.buffer_memory) (length-map s.partitions unaudited)

same_exhaust : (i : Item) (s : Core) → would_exhaust i (without_audits s) ≡ would_exhaust i s
unfolding would_exhaust used without_audits
same_exhaust i s = ap (λ (items : List Item). nat_lt s.config.buffer_memory (sum_by charge_of items + charge_of i)) (same_untold s)

pub append_blind : (i : Item) (s : Core) → append_step i (without_audits s) ≡ called_unaudited (append_step i s)
unfolding append_step without_audits
append_blind i s =
    ap (λ (may : Bool). append_by i (without_audits s) may s.ended (partition_at i.partition (all_unaudited s.partitions)).fenced (would_exhaust i (without_audits s))) (same_may i s)
    ∙ ap (λ (fenced : Bool). append_by i (without_audits s) (may_append i s) s.ended fenced (would_exhaust i (without_audits s)))
    (seen_at (λ t. t.fenced) (λ t. refl) i.partition s.partitions)
    ∙ ap (λ (full : Bool). append_by i (without_audits s) (may_append i s) s.ended (partition_at i.partition s.partitions).fenced full) (same_exhaust i s)
    ∙ append_by_cases i s (may_append i s) s.ended (partition_at i.partition s.partitions).fenced (would_exhaust i s)

-- ---- what the next request asks for

same_flushed : (s : Core) → is_flushed (without_audits s) ≡ is_flushed s
unfolding is_flushed without_audits has_marks
same_flushed s = ap not (list_any_mapped has_marks unaudited has_marks (λ t. refl) s.partitions)

abbrev unaudited_at : ℕ × Partition → ℕ × Partition
unaudited_at x = (x.0, unaudited x.1)

enumerated : (k : ℕ) (ts : List Partition) → enumerate_from k (all_unaudited ts) ≡ map unaudited_at (enumerate_from k ts)
enumerated k [] = refl
enumerated k (t ∷ ts) = ap (λ (xs : List (ℕ × Partition)). (k, unaudited t) ∷ xs) (enumerated (k + 1) ts)

filter_mapped : (f : ℕ × Partition → Option Sending) → ((x : ℕ × Partition) → f (unaudited_at x) ≡ f x) → (xs : List (ℕ × Partition))
    → filter_map f (map unaudited_at xs) ≡ filter_map f xs
filter_mapped f same [] = refl
filter_mapped f same (x ∷ xs) =
    ap (λ (o : Option Sending). cons_option o (filter_map f (map unaudited_at xs))) (same x)
    ∙ ap (λ (rest : List Sending). cons_option (f x) rest) (filter_mapped f same xs)

same_wish : (c : Config) (t : Partition) → wants_id c (unaudited t) ≡ wants_id c t
unfolding wants_id is_within_limit
same_wish c t = refl

abbrev asks : ℕ → Config → ℕ × Partition → Bool
asks node c x = leads node x.1 && wants_id c x.1

found_mapped : (node : ℕ) (c : Config) (xs : List (ℕ × Partition))
    → option_map (λ x. x.0) (find (asks node c) (map unaudited_at xs)) ≡ option_map (λ x. x.0) (find (asks node c) xs)
unfolding wants_id is_within_limit
found_mapped node c [] = refl
found_mapped node c (x ∷ xs) = by_wish (asks node c x) (found_mapped node c xs)
  where
    by_wish : (b : Bool)
        → option_map (λ x. x.0) (find (asks node c) (map unaudited_at xs)) ≡ option_map (λ x. x.0) (find (asks node c) xs)
        → option_map (λ x. x.0) (if b then Some (unaudited_at x) else find (asks node c) (map unaudited_at xs))
        ≡ option_map (λ x. x.0) (if b then Some x else find (asks node c) xs)
    by_wish true rest = refl
    by_wish false rest = rest

same_asking : (node now : ℕ) (s : Core) → next_asking node now (without_audits s) ≡ next_asking node now s
unfolding without_audits
same_asking node now s =
    ap (λ (found : Option ℕ). if not (is_id_asked s) && elim s.id_waits [ None ↦ true | Some since ↦ is_over since s.config.retry_backoff_ms now ] then found else None)
    (ap (λ (xs : List (ℕ × Partition)). option_map (λ x. x.0) (find (asks node s.config) xs)) (enumerated 0 s.partitions)
    ∙ found_mapped node s.config (enumerate_from 0 s.partitions))

same_turn : (node : ℕ) (s : Core) → in_turn node (without_audits s) ≡ map unaudited_at (in_turn node s)
unfolding without_audits
same_turn node s =
    let n = used_up_to node s.turns in
    let all = enumerate_from 0 s.partitions in
    ap (λ (xs : List (ℕ × Partition)). drop n xs ++ take n xs) (enumerated 0 s.partitions)
    ∙ ap (λ (xs : List (ℕ × Partition)). xs ++ take n (map unaudited_at all)) (drop-map unaudited_at n all)
    ∙ ap (λ (xs : List (ℕ × Partition)). map unaudited_at (drop n all) ++ xs) (take-map unaudited_at n all)
    ∙ sym (map-append unaudited_at (drop n all) (take n all))

same_batches : (node now : ℕ) (s : Core) → next_batches node now (without_audits s) ≡ next_batches node now s
unfolding next_batches without_audits sends is_confirmed is_within_limit
same_batches node now s =
    ap (λ (xs : List (ℕ × Partition)). fitting s.config.max_request_size (filter_map (sending_by sends node (without_audits s) now) xs)) (same_turn node s)
    ∙ ap (λ (xs : List Sending). fitting s.config.max_request_size xs) (filter_mapped (sending_by sends node (without_audits s) now) (λ x. refl) (in_turn node s))
    ∙ ap (λ (flushed : Bool). fitting s.config.max_request_size (filter_map (sending_under flushed) (in_turn node s))) (same_flushed s)
  where
    sending_under : Bool → ℕ × Partition → Option Sending
    sending_under flushed x =
        option_map (λ b. let y : Sending = record { partition = x.0; batch = b } in y)
        (sends_to node sends s.config (record { exhausted = s.exhausted; closing = s.closing; flushing = not flushed }) now x.1)

same_demand : (node now : ℕ) (s : Core) → next_demand node now (without_audits s) ≡ next_demand node now s
unfolding next_demand has_window without_audits
same_demand node now s =
    ap (λ (batches : List Sending). demand_with batches node now (without_audits s)) (same_batches node now s)
    ∙ ap (λ (asking : Option ℕ). by_window (has_window node s) asking) (same_asking node now s)
  where
    by_window : Bool → Option ℕ → Option (Demand Sending)
    by_window window asking =
        if not window then None
        else elim asking [ Some p ↦ Some (InitProducerId p) | None ↦ elim (next_batches node now s) [ [] ↦ None | x ∷ xs ↦ Some (Produce (x ∷ xs)) ] ]

-- ---- a request

same_out : (node now : ℕ) (s : Core) (d : Demand Sending) → go_out node now (without_audits s) d ≡ called_unaudited (go_out node now s d)
unfolding without_audits
same_out node now s (Produce xs) =
    ap (λ (ts : List Partition). let x : Requested = record (go_out node now s (Produce xs)) { after = record (go_out node now s (Produce xs)).after { partitions = ts } } in x)
    (some_changed (partitions_in xs) (λ p t. send_in s.correlation t) (λ p t. same_send s.correlation t) s.partitions)
same_out node now s (InitProducerId p) = refl

request_by_cases : (node now : ℕ) (s : Core) (ended : Bool) (wanted : Option (Demand Sending)) (spent : Bool)
    → request_by node now (without_audits s) ended wanted spent ≡ called_unaudited (request_by node now s ended wanted spent)
request_by_cases node now s true wanted spent = refl
request_by_cases node now s false None spent = refl
request_by_cases node now s false (Some d) true = refl
request_by_cases node now s false (Some d) false = same_out node now s d

pub request_blind : (node now : ℕ) (s : Core) → request_step node now (without_audits s) ≡ called_unaudited (request_step node now s)
unfolding request_step without_audits
request_blind node now s =
    ap (λ (wanted : Option (Demand Sending)). request_by node now (without_audits s) s.ended wanted (is_spent s)) (same_demand node now s)
    ∙ request_by_cases node now s s.ended (next_demand node now s) (is_spent s)

-- ---- a response

same_batches_settled : (now k : ℕ) (ps : List ℕ) (x : ProduceResponse) (s : Core)
    → settle_batches now k ps x (without_audits s) ≡ called_unaudited (settle_batches now k ps x s)
same_batches_settled now k ps x s =
    same_these ps (λ p t. by_entries now k t (entries_for p x)) (λ p t. same_entries now k (entries_for p x) t) s

same_answers : (k : ℕ) (ps : List ℕ) (s : Core) (x : ProduceResponse) → answers_batches k ps (without_audits s) x ≡ answers_batches k ps s x
unfolding answers_batches without_audits
same_answers k ps s x =
    ap (λ (test : ℕ → Bool). by_offsets (list_all test ps))
    (fun_ext (λ p. seen_at (λ t. list_all (has_offsets (awaiting k t)) (entries_for p x)) (λ t. refl) p s.partitions))
  where
    by_offsets : Bool → Bool
    by_offsets offsets =
        is_one_topic s.names.topic x.topics
        && length (entries_of x) == length ps
        && list_all (λ p. length (entries_for p x) == 1) ps
        && offsets

same_id : (now p : ℕ) (x : InitProducerIdResponse) (s : Core) → settle_id now p x (without_audits s) ≡ without_audits (settle_id now p x s)
unfolding without_audits
same_id now p x s = by_given (is_given x)
  where
    id : ℕ
    id = nat_abs x.producer_id

    by_wish : (wants : Bool)
        → (if wants then with_partition p (go_on_under id (partition_at p (all_unaudited s.partitions))) (without_audits (idle s)) else without_audits (idle s))
        ≡ without_audits (if wants then with_partition p (go_on_under id (partition_at p s.partitions)) (idle s) else idle s)
    by_wish true = ap (λ (ts : List Partition). let u : Core = record (idle s) { partitions = ts } in u) (put_at (go_on_under id) (λ t. refl) p s.partitions)
    by_wish false = refl

    by_given : (given : Bool)
        → (if given then give_id id p (without_audits (idle s)) else record (without_audits (idle s)) { id_waits = Some now })
        ≡ without_audits (if given then give_id id p (idle s) else record (idle s) { id_waits = Some now })
    by_given true =
        ap (λ (wants : Bool). if wants then with_partition p (go_on_under id (partition_at p (all_unaudited s.partitions))) (without_audits (idle s)) else without_audits (idle s))
        (seen_at (wants_id s.config) (same_wish s.config) p s.partitions)
        ∙ by_wish (wants_id s.config (partition_at p s.partitions))
    by_given false = refl

same_settled : (now k : ℕ) (s : Core) (d : Demand ℕ) (x : ResponseBody)
    → settle now (without_audits s) k d x ≡ called_unaudited (settle now s k d x)
same_settled now k s (Produce ps) (body.Produce x) =
    ap (λ (fits : Bool). if fits then known (settle_batches now k ps x (without_audits s)) else refuse_as (fault.ReplyFault Mismatch) (without_audits s))
    (same_answers k ps s x)
    ∙ by_fit (answers_batches k ps s x)
  where
    by_fit : (fits : Bool)
        → (if fits then known (settle_batches now k ps x (without_audits s)) else refuse_as (fault.ReplyFault Mismatch) (without_audits s))
        ≡ called_unaudited (if fits then known (settle_batches now k ps x s) else refuse_as (fault.ReplyFault Mismatch) s)
    by_fit true = ap known (same_batches_settled now k ps x s)
    by_fit false = refl
same_settled now k s (InitProducerId p) (body.InitProducerId x) = by_fit (answers_id x)
  where
    by_fit : (fits : Bool)
        → (if fits then known (quietly (settle_id now p x (without_audits s)) 0) else refuse_as (fault.ReplyFault Mismatch) (without_audits s))
        ≡ called_unaudited (if fits then known (quietly (settle_id now p x s) 0) else refuse_as (fault.ReplyFault Mismatch) s)
    by_fit true = ap (λ (t : Core). known (quietly t 0)) (same_id now p x s)
    by_fit false = refl
same_settled now k s (Produce ps) (body.Metadata x) = refl
same_settled now k s (Produce ps) (body.InitProducerId x) = refl
same_settled now k s (InitProducerId p) (body.Produce x) = refl
same_settled now k s (InitProducerId p) (body.Metadata x) = refl

response_by_cases : (now : ℕ) (s : Core) (x : ResponseBody) (ended : Bool) (named : Option Request)
    → response_by now (without_audits s) x ended named ≡ called_unaudited (response_by now s x ended named)
response_by_cases now s x true named = refl
response_by_cases now s x false None = refl
response_by_cases now s x false (Some q) = same_settled now q.correlation s q.demand x

response_blind : (now : ℕ) (response : Response) (s : Core)
    → response_step now response (without_audits s) ≡ called_unaudited (response_step now response s)
unfolding response_step awaited without_audits
response_blind now response s = response_by_cases now s response.body s.ended (awaited response.correlation s)

-- ---- a reply

same_reading : (now : ℕ) (s : Core) (read : Result Response FrameFault) → reading now (without_audits s) read ≡ called_unaudited (reading now s read)
same_reading now s (Err e) = refl
same_reading now s (Ok response) = response_blind now response s

same_naming : (now : ℕ) (content : List ℕ) (s : Core) (named : Option Request)
    → naming now content (without_audits s) named ≡ called_unaudited (naming now content s named)
same_naming now content s None = refl
same_naming now content s (Some q) = same_reading now s (response_at (api_of q.demand) content)

same_hearing : (now : ℕ) (content : List ℕ) (s : Core) (read : Read ℤ)
    → hearing now content (without_audits s) read ≡ called_unaudited (hearing now content s read)
unfolding awaited without_audits
same_hearing now content s (Err e) = refl
same_hearing now content s (Ok x) = same_naming now content s (awaited x.0 s)

pub reply_blind : (now : ℕ) (content : List ℕ) (s : Core) → reply_step now content (without_audits s) ≡ called_unaudited (reply_step now content s)
unfolding reply_step without_audits
reply_blind now content s = by_end s.ended
  where
    by_end : (b : Bool) → (if b then refuse_as fault.Ended (without_audits s) else hearing now content (without_audits s) (int32.read content))
        ≡ called_unaudited (if b then refuse_as fault.Ended s else hearing now content s (int32.read content))
    by_end true = refl
    by_end false = same_hearing now content s (int32.read content)

-- ---- a tick

same_dropped : (node now : ℕ) (s : Core) → drop_requests node now (without_audits s) ≡ without_audits (drop_requests node now s)
unfolding drop_requests without_audits
same_dropped node now s =
    ap (λ (ts : List Partition). let u : Core = record (drop_requests node now s) { partitions = ts } in u) (each_changed (drop_led node now) same_led s.partitions)
  where
    by_leader : (t : Partition) (b : Bool) → (if b then drop_attempts now (unaudited t) else unaudited t) ≡ unaudited (if b then drop_attempts now t else t)
    by_leader t true = refl
    by_leader t false = refl

    same_led : (t : Partition) → drop_led node now (unaudited t) ≡ unaudited (drop_led node now t)
    same_led t = by_leader t (leads node t)

same_ticks : (now : ℕ) (reconnect : Bool) (s : Core)
    → tick_partitions heed_deadlines now reconnect (without_audits s) ≡ called_unaudited (tick_partitions heed_deadlines now reconnect s)
unfolding without_audits
same_ticks now reconnect s =
    ap (λ (made : Called ℕ). let x : Ticks = record { after = made.after; told = made.told; answer = record { reports = made.answer; reconnect = reconnect } } in x)
    (same_each (heed_deadlines s.config now) (same_heed s.config now) s)

same_tick_cases : (node now : ℕ) (s : Core) (ended over : Bool)
    → tick_by_cases node now (without_audits s) ended over ≡ called_unaudited (tick_by_cases node now s ended over)
same_tick_cases node now s true over = refl
same_tick_cases node now s false true =
    ap (tick_partitions heed_deadlines now true) (same_dropped node now s) ∙ same_ticks now true (drop_requests node now s)
same_tick_cases node now s false false = same_ticks now false s

pub tick_blind : (node now : ℕ) (s : Core) → tick_step node now (without_audits s) ≡ called_unaudited (tick_step node now s)
unfolding tick_step has_timed_out without_audits
tick_blind node now s = same_tick_cases node now s s.ended (has_timed_out node now s)

-- ---- the other calls

pub end_blind : (s : Core) → end_step (without_audits s) ≡ called_unaudited (end_step s)
unfolding end_step without_audits
end_blind s = by_end s.ended
  where
    by_end : (b : Bool)
        → (if b then quietly (without_audits s) 0 else end_all (without_audits s)) ≡ called_unaudited (if b then quietly s 0 else end_all s)
    by_end true = refl
    by_end false = ap (λ (made : Called ℕ). let x : Called ℕ = record made { after = record made.after { requests = []; ended = true } } in x)
        (same_each (give_up reason.Ended) (same_give_up reason.Ended) s)

pub disconnect_blind : (node now : ℕ) (s : Core) → disconnect_step node now (without_audits s) ≡ without_audits (disconnect_step node now s)
unfolding disconnect_step without_audits
disconnect_blind node now s = by_end s.ended
  where
    by_end : (b : Bool)
        → (if b then without_audits s else drop_requests node now (without_audits s)) ≡ without_audits (if b then s else drop_requests node now s)
    by_end true = refl
    by_end false = same_dropped node now s

pub lead_blind : (p leader now : ℕ) (s : Core) → lead_step p leader now (without_audits s) ≡ without_audits (lead_step p leader now s)
unfolding lead_step without_audits
lead_blind p leader now s =
    ap (λ (us : List Partition). let u : Core = with_live (record s { partitions = us }) in u) (put_at (led_by leader now) same_lead p s.partitions)
    ∙ ap (λ (live : Request → Bool). let u : Core = record s { partitions = all_unaudited ts; requests = filter live s.requests } in u) (fun_ext (same_live ts))
  where
    ts : List Partition
    ts = slice_set s.partitions p (led_by leader now (partition_at p s.partitions))

    by_leader : (t : Partition) (b : Bool) → (if b then unaudited t else moved_to leader now (unaudited t)) ≡ unaudited (if b then t else moved_to leader now t)
    by_leader t true = refl
    by_leader t false = refl

    same_lead : (t : Partition) → led_by leader now (unaudited t) ≡ unaudited (led_by leader now t)
    same_lead t = by_leader t (leads leader t)

pub close_blind : (s : Core) → close_step (without_audits s) ≡ without_audits (close_step s)
unfolding close_step without_audits
close_blind s = by_end s.ended
  where
    by_end : (b : Bool)
        → (if b then without_audits s else record (without_audits s) { closing = true }) ≡ without_audits (if b then s else record s { closing = true })
    by_end true = refl
    by_end false = refl

pub flush_blind : (s : Core) → flush_step (without_audits s) ≡ without_audits (flush_step s)
unfolding flush_step without_audits
flush_blind s = ap (λ (ts : List Partition). let u : Core = record s { partitions = ts } in u) (each_changed mark (λ t. refl) s.partitions)

pub fetch_blind : (sender : ℕ) (s : Core) → fetch_step sender (without_audits s) ≡ called_unaudited (fetch_step sender s)
unfolding without_audits
fetch_blind sender s = refl
