-- Each item that is appended is told or untold, and after the end all are told.
use Rattle.std.proofs.Common.{◌≡◌, ℕ, ◌+◌, ◌<◌, Bool, true, List, [], ◌∷◌, length, map, Err, inl, inr, refl, sym, ap, ◌∙◌, subst, arith}
use Rattle.std.specs.Prelude.{Result, if◌then◌else◌, flat_map, nat_abs, slice_set, sum_by}
use Rattle.std.specs.List.{AllByRecursion}
use Rattle.std.proofs.lemmas.Bool.{cases_lt}
use Rattle.std.proofs.lemmas.List.Sums.{sum_by-append}
use Rattle.std.proofs.lemmas.List.{get_or_past, length-set}
use Rattle.kp_accum.specs.declared.fault.AppendFault.{AppendFault}
use Rattle.kp_accum.specs.declared.fault.AppendFault.TheVariants as append
use Rattle.kp_accum.specs.declared.item.Item.{Item}
use Rattle.kp_frames.specs.declared.produce.ProduceResponse.{ProduceResponse}
use Rattle.kp_frames.specs.declared.producer_id.InitProducerIdResponse.{InitProducerIdResponse}
use Rattle.kp_frames.specs.declared.response.Response.{Response}
use Rattle.kp_rules.specs.declared.fault.CoreFault.TheVariants as fault
use Rattle.kp_rules.specs.declared.outcome.Reason.TheVariants as reason
use Rattle.kp_rules.specs.Appending.{turn_away, enqueue, with_queued, may_append, append_step}
use Rattle.kp_rules.specs.Attempts.{partitions_of}
use Rattle.kp_rules.specs.Calls.{Call, Append, Request, Reply, Tick, Disconnect, Lead, Close, Flush, End, Fetch, Step, told_by, appended_by}
use Rattle.kp_rules.specs.Closing.{close_step, end_step}
use Rattle.kp_rules.specs.Dropping.{drop_led, drop_requests, disconnect_step}
use Rattle.kp_rules.specs.Fence.{give_up}
use Rattle.kp_rules.specs.Flush.{mark, flush_step}
use Rattle.kp_rules.specs.HandingOver.{send_in}
use Rattle.kp_rules.specs.InOrder.{AreDistinct, requests_awaited, IsRequest, IsInOrder}
use Rattle.kp_rules.specs.Mismatch.{entries_for}
use Rattle.kp_rules.specs.Next.{Sending}
use Rattle.kp_rules.specs.Partitions.{new_partition, untold, partition_at, changed_at, all_untold}
use Rattle.kp_rules.specs.Records.{Partition, Demand, Produce, InitProducerId, Core, Told, Effect, Called}
use Rattle.kp_rules.specs.Replies.{settle_batches, go_on_under, settle_id, response_step, reply_step}
use Rattle.kp_rules.specs.Reports.{fetch_step}
use Rattle.kp_rules.specs.Leading.{led_by, lead_step}
use Rattle.kp_rules.specs.Requesting.{Requested, partitions_in, sent_out, request_step}
use Rattle.kp_rules.specs.Telling.{with_partitions, at_each, at_these}
use Rattle.kp_rules.specs.Tick.{heed_deadlines, tick_step}
use Rattle.kp_rules.proofs.CallLemmas.{at_append, at_id, at_reply, by_entries, at_close, at_disconnect, at_end_step, at_request, at_response, at_tick}
use Rattle.kp_rules.proofs.ListLemmas.{at_contained, at_put, flat_map_alike, flat_map_mapped, sum_by-flat_map-set}
use Rattle.kp_rules.proofs.OrderedCallLemmas.{is_there, places}
use Rattle.kp_rules.proofs.OutcomeLemmas.{in_flight}
use Rattle.kp_rules.proofs.PartitionLemmas.{at-changed_at, at_changed, changed_more, changed_none, length-changed_at}
use Rattle.kp_rules.proofs.RuleLemmas.{items_told, Keeps, RuleKeeps, told-append, led_keeps, lead_keeps, mark_keeps, enqueue_keeps, send_keeps, give_up_keeps, heed_keeps, entries_keep}

-- ---- partitions weighed

abbrev weight : (Item → ℕ) → Partition → ℕ
weight f t = sum_by f (untold t)

abbrev weights : (Item → ℕ) → List Partition → ℕ
weights f ts = sum_by f (flat_map untold ts)

weights-cons : (f : Item → ℕ) (t : Partition) (ts : List Partition) → weights f (t ∷ ts) ≡ weight f t + weights f ts
weights-cons f t ts = sum_by-append f (untold t) (flat_map untold ts)

-- ---- all partitions, each by a rule

pub keeps_each : (f : Item → ℕ) (rule : Partition → Effect) → ((t : Partition) → RuleKeeps f t (rule t)) → (ts : List Partition)
    → Keeps f (flat_map untold ts) (flat_map (λ t. (rule t).told) ts) (flat_map untold (map (λ t. (rule t).after) ts))
keeps_each f rule keeps [] = refl
keeps_each f rule keeps (t ∷ ts) =
    omega (
      arith,
      keeps t,
      keeps_each f rule keeps ts,
      told-append f (rule t).told (flat_map (λ u. (rule u).told) ts),
      weights-cons f t ts,
      weights-cons f (rule t).after (map (λ u. (rule u).after) ts),
    )

-- ---- these partitions, each by a rule

keeps_these : (f : Item → ℕ) (rule : ℕ → Partition → Effect) (ts : List Partition)
    → ((p : ℕ) → RuleKeeps f (partition_at p ts) (rule p (partition_at p ts))) → (ps : List ℕ) → AreDistinct ps → AllByRecursion (λ p. p < length ts) ps
    → Keeps f (flat_map untold ts) (flat_map (λ p. (rule p (partition_at p ts)).told) ps) (flat_map untold (changed_at ps (λ p t. (rule p t).after) ts))
keeps_these f rule ts keeps [] d there = let same = ap (weights f) (changed_none (λ p t. (rule p t).after) ts) in omega (arith, same)
keeps_these f rule ts keeps (p ∷ ps) d there =
    let t = partition_at p ts in
    let us = changed_at ps (λ q u. (rule q u).after) ts in
    let here : partition_at p us ≡ t =
    at-changed_at ps (λ q u. (rule q u).after) ts p there.0 ∙ ap (λ (b : Bool). if b then (rule p t).after else t) d.0 in
    omega (
      arith,
      keeps p,
      keeps_these f rule ts keeps ps d.1 there.1,
      ap (weights f) (changed_more p ps (λ q u. (rule q u).after) ts),
      sum_by-flat_map-set f untold us p (rule p t).after (new_partition 0) (omega (arith, there.0, length-changed_at ps (λ q u. (rule q u).after) ts)),
      ap (weight f) here,
      told-append f (rule p t).told (flat_map (λ q. (rule q (partition_at q ts)).told) ps),
    )

-- ---- an append

-- what is appended and what was there are what is told and what is left
abbrev pub Accounted : (Item → ℕ) → List Item → Core → List Told → Core → Type 0
Accounted f appended s told t = sum_by f appended + sum_by f (all_untold s) ≡ sum_by f (items_told told) + sum_by f (all_untold t)

pub queued_accounted : (f : Item → ℕ) (i : Item) (s : Core) → may_append i s ≡ true → Accounted f (i ∷ []) s [] (with_queued i s)
queued_accounted f i s m =
    let t = partition_at i.partition s.partitions in
    omega (
      arith,
      sum_by-flat_map-set f untold s.partitions i.partition (enqueue s.config i t) (new_partition 0) (is_there i s m),
      ap (sum_by f) (enqueue_keeps s.config i t),
      sum_by-append f (untold t) (i ∷ []),
    )

append_accounted : (f : Item → ℕ) (i : Item) (s : Core) (answer : Result (Unit {0}) AppendFault) → (append_step i s).answer ≡ answer
    → Accounted f (appended_by (Append i answer)) s (append_step i s).told (append_step i s).after
append_accounted f i s answer = at_append (λ x. x.answer ≡ answer → Accounted f (appended_by (Append i answer)) s x.told x.after) i s (record {
  outside = λ e. subst (λ a. Accounted f (appended_by (Append i a)) s [] s) e refl;
  past_end = λ m end e. subst (λ a. Accounted f (appended_by (Append i a)) s (turn_away reason.Ended i s).told s) e refl;
  by_fence = λ m end fenced e. subst (λ a. Accounted f (appended_by (Append i a)) s (turn_away reason.Fenced i s).told s) e refl;
  full = λ e. subst (λ a. Accounted f (appended_by (Append i a)) s [] s) e refl;
  room = λ m end fenced fits e. subst (λ a. Accounted f (appended_by (Append i a)) s [] (with_queued i s)) e (queued_accounted f i s m);
})

-- ---- the other calls

abbrev pub CallKeeps : {A : Type 0} → (Item → ℕ) → Core → Called A → Type 0
CallKeeps f s made = Keeps f (all_untold s) made.told (all_untold made.after)

nothing_told : (f : Item → ℕ) (s : Core) → Keeps f (all_untold s) [] (all_untold s)
nothing_told f s = omega arith

same_untold : (f : Item → ℕ) (s t : Core) → all_untold t ≡ all_untold s → Keeps f (all_untold s) [] (all_untold t)
same_untold f s t e = let same = ap (sum_by f) e in omega (arith, same)

pub sent_same : (node now : ℕ) (s : Core) (d : Demand Sending) → all_untold (sent_out node now s d) ≡ all_untold s
sent_same node now s (InitProducerId p) = refl
sent_same node now s (Produce xs) = flat_map_alike untold (changed_at (partitions_in xs) send s.partitions) s.partitions (new_partition 0)
    (length-changed_at (partitions_in xs) send s.partitions)
    (λ p. at_changed (λ u. untold u ≡ untold (partition_at p s.partitions)) (partitions_in xs) send s.partitions p
    (λ l is. send_keeps s.correlation (partition_at p s.partitions)) (λ beside. refl))
  where
    send : ℕ → Partition → Partition
    send p t = send_in s.correlation t

request_same : (node now : ℕ) (s : Core) → all_untold (request_step node now s).after ≡ all_untold s
request_same node now s = at_request (λ (x : Requested). all_untold x.after ≡ all_untold s) node now s (record {
  ended = refl;
  idle = refl;
  spent = refl;
  out = λ going d next unspent. sent_same node now s d;
})

pub dropped_same : (node now : ℕ) (s : Core) → all_untold (drop_requests node now s) ≡ all_untold s
unfolding drop_requests
dropped_same node now s = flat_map_mapped untold (drop_led node now) untold (led_keeps node now) s.partitions

pub led_same : (p leader now : ℕ) (s : Core) → all_untold (lead_step p leader now s) ≡ all_untold s
unfolding lead_step
led_same p leader now s = flat_map_alike untold (slice_set s.partitions p (led p)) s.partitions (new_partition 0) (length-set s.partitions p (led p))
    (λ q. at_put (λ u. untold u ≡ untold (partition_at q s.partitions)) s.partitions p q (led p) (new_partition 0)
    (λ e. subst (λ (n : ℕ). untold (led p) ≡ untold (partition_at n s.partitions)) (sym e) (lead_keeps leader now (partition_at p s.partitions))) refl)
  where
    led : ℕ → Partition
    led q = led_by leader now (partition_at q s.partitions)

tick_keeps : (f : Item → ℕ) (node now : ℕ) (s : Core) → CallKeeps f s (tick_step node now s)
unfolding at_each with_partitions drop_requests
tick_keeps f node now s = at_tick (CallKeeps f s) node now s (record {
  ended = nothing_told f s;
  timed_out = omega (
    arith,
    ap (sum_by f) (dropped_same node now s),
    keeps_each f (heed_deadlines s.config now) (heed_keeps f s.config now) (map (drop_led node now) s.partitions),
  );
  on_time = keeps_each f (heed_deadlines s.config now) (heed_keeps f s.config now) s.partitions;
})

end_keeps : (f : Item → ℕ) (s : Core) → CallKeeps f s (end_step s)
unfolding at_each with_partitions
end_keeps f s = at_end_step (CallKeeps f s) s (nothing_told f s)
    (keeps_each f (give_up reason.Ended) (give_up_keeps f reason.Ended) s.partitions)

-- ---- a reply

pub settled_keeps : (f : Item → ℕ) (now k : ℕ) (ps : List ℕ) (x : ProduceResponse) (s : Core) → IsInOrder s
    → AreDistinct ps → AllByRecursion (λ p. p < length s.partitions) ps → CallKeeps f s (settle_batches now k ps x s)
unfolding at_these with_partitions
settled_keeps f now k ps x s o once there =
    keeps_these f (λ p t. by_entries now k t (entries_for p x)) s.partitions
    (λ p. entries_keep f now k (partition_at p s.partitions) (entries_for p x) (distinct p)) ps once there
  where
    distinct : (p : ℕ) → AreDistinct (requests_awaited (partition_at p s.partitions).open_batches)
    distinct p = elim (cases_lt p (length s.partitions)) [
      | inl l ↦ (places s o p l).attempts
      | inr past ↦ rw (get_or_past s.partitions p (new_partition 0) past) tt
    ]

pub id_same : (now p : ℕ) (x : InitProducerIdResponse) (s : Core) → all_untold (settle_id now p x s) ≡ all_untold s
unfolding untold
id_same now p x s = at_id (λ t. all_untold t ≡ all_untold s) now p x s (record {
  wanted = λ given. flat_map_alike untold (slice_set s.partitions p (under_id p)) s.partitions (new_partition 0) (length-set s.partitions p (under_id p))
      (λ q. at_put (λ u. untold u ≡ untold (partition_at q s.partitions)) s.partitions p q (under_id p) (new_partition 0)
      (λ e. ap (λ (n : ℕ). untold (partition_at n s.partitions)) (sym e)) refl);
  unwanted = refl;
  refused = refl;
})
  where
    under_id : ℕ → Partition
    under_id q = go_on_under (nat_abs x.producer_id) (partition_at q s.partitions)

response_keeps : (f : Item → ℕ) (now : ℕ) (response : Response) (s : Core) → IsInOrder s → CallKeeps f s (response_step now response s)
response_keeps f now response s o = at_response (CallKeeps f s) now response s (record {
  same = λ answer. nothing_told f s;
  batches = λ r ps produce it demand body fits.
      let at = at_contained (IsRequest (length s.partitions) s.correlation) s.requests r o.requests (in_flight response.correlation s r it).0 in
      settled_keeps f now r.correlation ps produce s o (subst (λ d. AreDistinct (partitions_of d)) demand at.once)
      (subst (λ d. AllByRecursion (λ p. p < length s.partitions) (partitions_of d)) demand at.there);
  id = λ r p x it demand body fits. same_untold f s (settle_id now p x s) (id_same now p x s);
})

reply_keeps : (f : Item → ℕ) (now : ℕ) (content : List ℕ) (s : Core) → IsInOrder s → CallKeeps f s (reply_step now content s)
reply_keeps f now content s o = at_reply (CallKeeps f s) now content s (λ answer. nothing_told f s) (λ a response e. response_keeps f now response s o)

-- ---- one call

led_to : (f : Item → ℕ) (appended : List Item) (s t after : Core) (told : List Told) → t ≡ after
    → Accounted f appended s told after → Accounted f appended s told t
led_to f appended s t after told e all = all ∙ ap (λ (u : Core). sum_by f (items_told told) + sum_by f (all_untold u)) (sym e)

kept : (f : Item → ℕ) (s t after : Core) (told : List Told) → t ≡ after
    → Keeps f (all_untold s) told (all_untold after) → Accounted f [] s told t
kept f s t after told e keeps = led_to f [] s t after told e (let k = keeps in omega (arith, k))

pub told_was_untold : (s t : Core) (call : Call) → IsInOrder s → Step s call t → (f : Item → ℕ)
    → sum_by f (appended_by call) + sum_by f (all_untold s) ≡ sum_by f (map (λ x. x.item) (told_by s call)) + sum_by f (all_untold t)
unfolding flush_step
told_was_untold s t (Append i (Err append.OutOfMemory)) o step f = kept f s t s [] step.1 (nothing_told f s)
told_was_untold s t (Append i answer) o step f =
    led_to f (appended_by (Append i answer)) s t (append_step i s).after (append_step i s).told step.1 (append_accounted f i s answer step.0)
told_was_untold s t (Request node now (Err fault.OutOfMemory)) o step f = kept f s t s [] step.1 (nothing_told f s)
told_was_untold s t (Request node now answer) o step f =
    kept f s t (request_step node now s).after [] step.1 (same_untold f s (request_step node now s).after (request_same node now s))
told_was_untold s t (Reply now content (Err fault.OutOfMemory)) o step f = kept f s t s [] step.1 (nothing_told f s)
told_was_untold s t (Reply now content answer) o step f =
    kept f s t (reply_step now content s).after (reply_step now content s).told step.1 (reply_keeps f now content s o)
told_was_untold s t (Tick node now answer) o step f = kept f s t (tick_step node now s).after (tick_step node now s).told step.1 (tick_keeps f node now s)
told_was_untold s t (Disconnect node now) o step f = kept f s t (disconnect_step node now s) [] step (same_untold f s (disconnect_step node now s)
    (at_disconnect (λ (u : Core). all_untold u ≡ all_untold s) node now s refl (dropped_same node now s)))
told_was_untold s t (Lead p leader now) o step f = kept f s t (lead_step p leader now s) [] step (same_untold f s (lead_step p leader now s) (led_same p leader now s))
told_was_untold s t Close o step f = kept f s t (close_step s) [] step (same_untold f s (close_step s)
    (at_close (λ (u : Core). all_untold u ≡ all_untold s) s refl refl))
told_was_untold s t Flush o step f = kept f s t (flush_step s) [] step (same_untold f s (flush_step s) (flat_map_mapped untold mark untold mark_keeps s.partitions))
told_was_untold s t (End reports) o step f = kept f s t (end_step s).after (end_step s).told step.1 (end_keeps f s)
told_was_untold s t (Fetch sender answer) o step f = kept f s t (fetch_step sender s).after [] step.1 (same_untold f s (fetch_step sender s).after refl)
