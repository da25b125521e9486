-- A new core is in order, and each call keeps the order.
use Rattle.std.proofs.Common.{◌≡◌, ℕ, suc, ◌+◌, ◌-◌, ◌*◌, ◌<◌, ◌≤◌, ◌^◌, Bool, true, false, not, List, [], ◌∷◌, length, map, ℤ, pos, negsuc, Some, None, Ok, Err, inl, inr, refl, sym, ap, ◌∙◌, subst, arith, Contains, zero}
use Rattle.std.specs.Prelude.{◌++◌, ◌==◌, Option, sum_by, replicate, slice_set, nat_abs, int_le, nat_lt, if◌then◌else◌, ◌||◌, ◌&&◌, filter}
use Rattle.std.specs.Int.{w64, cast_signed}
use Rattle.std.specs.List.{AllByRecursion, enumerate_from}
use Rattle.std.specs.Ordering.{int_eq}
use Rattle.std.specs.Str.{IsUtf8}
use Rattle.std.proofs.lemmas.Bool.{and_parts, cases_lt, eqb-true, ltb-true, ltb-false}
use Rattle.std.proofs.lemmas.List.{length-append, length-map, length-set, length-replicate, map-append, set_past}
use Rattle.std.proofs.lemmas.List.Elements.{filter-append, Contains-append_left, Contains-append_right}
use Rattle.std.proofs.lemmas.List.FromFn.{length-enumerate_from}
use Rattle.std.proofs.lemmas.List.Folds.{sum_by-replicate}
use Rattle.std.proofs.lemmas.List.Sums.{sum_by-cons}
use Rattle.std.proofs.lemmas.Bool.Decides.{nat_tests}
use mir.Val.{sel}
use Rattle.kp_wire.specs.Codec.{pair, number}
use Rattle.kp_wire.specs.Fields.{int16, int32, int64}
use Rattle.kp_wire.specs.Reading.{Read, ◌>>=◌}
use Rattle.kp_wire.proofs.ListLemmas.{all_append, all_replicate}
use Rattle.kp_wire.proofs.ReadLemmas.{bind_ok, ok_is, or_else_ok}
use Rattle.kp_accum.specs.declared.config.Config.{Config}
use Rattle.kp_accum.specs.declared.fault.AppendFault.TheVariants as append
use Rattle.kp_accum.specs.declared.item.Item.{Item}
use Rattle.kp_accum.specs.Config.{checked, is_outside}
use Rattle.kp_accum.specs.Queue.{charge_of}
use Rattle.kp_accum.proofs.AccumLemmas.{all-at}
use Rattle.kp_accum.proofs.QueueLemmas.{allowed}
use Rattle.kp_frames.specs.declared.api.Api.{Api}
use Rattle.kp_frames.specs.declared.api.Api.TheVariants as api
use Rattle.kp_frames.specs.declared.producer_id.InitProducerIdResponse.{InitProducerIdResponse}
use Rattle.kp_frames.specs.declared.produce.ProduceResponse.{ProduceResponse}
use Rattle.kp_frames.specs.declared.response.Response.{Response}
use Rattle.kp_frames.specs.declared.response.ResponseBody.{ResponseBody}
use Rattle.kp_frames.specs.declared.response.ResponseBody.TheVariants as body
use Rattle.kp_frames.specs.Fault.{of_wire}
use Rattle.kp_frames.specs.Metadata.{metadata_response}
use Rattle.kp_frames.specs.Produce.{produce_response}
use Rattle.kp_frames.specs.ProducerId.{init_producer_id_response}
use Rattle.kp_frames.specs.Response as response
use Rattle.kp_frames.specs.Response.{response_at}
use Rattle.kp_frames.proofs.FaultLemmas.{whole_ok}
use Rattle.kp_rules.specs.declared.fault.CoreFault.TheVariants as fault
use Rattle.kp_rules.specs.declared.names.Names.{Names}
use Rattle.kp_rules.specs.declared.outcome.Reason.{Reason}
use Rattle.kp_rules.specs.declared.outcome.Reason.TheVariants as reason
use Rattle.kp_rules.specs.declared.outcome.Report.{Report}
use Rattle.kp_rules.specs.Appending.{Appends, enqueue, turn_away, with_queued, may_append, would_exhaust, append_step}
use Rattle.kp_rules.specs.Attempts.{asks_for_id, goes_to, to_node, has_window, is_live, partitions_of}
use Rattle.kp_rules.specs.Auditing.{unaudited, without_audits}
use Rattle.kp_rules.specs.Calls as call
use Rattle.kp_rules.specs.Calls.{Call, Step}
use Rattle.kp_rules.specs.Closing.{close_step, end_all, end_step}
use Rattle.kp_rules.specs.Dropping.{drop_led, drop_requests, disconnect_step}
use Rattle.kp_rules.specs.Fence.{give_up}
use Rattle.kp_rules.specs.Flush.{mark, flush_step}
use Rattle.kp_rules.specs.HandingOver.{send_in}
use Rattle.kp_rules.specs.Held.{IsRecord}
use Rattle.kp_rules.specs.InOrder.{AreDistinct, IsEmptied, IsPartition, IsRequest, IsInOrder, IsHeld, IsAwaited, AreAwaited, requests_awaited}
use Rattle.kp_rules.specs.Leading.{led_by, lead_step}
use Rattle.kp_rules.specs.MaySend.{sends}
use Rattle.kp_rules.specs.Mismatch.{entries_for, is_given, answers_id}
use Rattle.kp_rules.specs.Next.{Sending, flags_of, next_demand}
use Rattle.kp_rules.specs.Opening.{new_core, MayOpen}
use Rattle.kp_rules.specs.Partitions.{partition_at, with_partition, changed_at, new_partition, is_in, untold, used, leads}
use Rattle.kp_rules.specs.Records.{HandedBatch, Partition, Demand, Produce, InitProducerId, Request, Core, Told, Effect, Called, Open}
use Rattle.kp_rules.specs.Replies.{Replies, settle_batches, go_on_under, settle_id, response_step, reply_step}
use Rattle.kp_rules.specs.Reports.{with_reports, fetch_step}
use Rattle.kp_rules.specs.Requesting.{IsLed, Requested, partitions_in, request_of, sent_out, request_step}
use Rattle.kp_rules.specs.Telling.{with_partitions, at_each, at_these}
use Rattle.kp_rules.specs.Tick.{Ticks, heed_deadlines, tick_step}
use Rattle.kp_rules.proofs.CallLemmas.{at_append, at_id, at_reply, at_request, by_entries, idle, at_response_going, at_tick, at_end_step, at_disconnect, at_close}
use Rattle.kp_rules.proofs.FlightLemmas.{contains_filter, awaited_then, awaited_live, awaited_more, awaited_dropped, awaited_sent}
use Rattle.kp_rules.proofs.ListLemmas.{all_by, all_map, all_say, all_weaker, at_contained, at_put, sum_by-flat_map, sum_by-flat_map-set, at_mapped, contains_head}
use Rattle.kp_rules.proofs.OrderLemmas.{Left, Same, left_same, left_filter, left_kept, left_mapped, left_same_all, left_none, left_length, left_distinct, distinct_more, Shrinks, shrinks_same, shrinks_led, shrinks_lead, shrinks_marked, shrinks_given_up, given_up_empty, shrinks_passed, shrinks_entries, emptied, shrunk, load, lighter, later, gone_on, IsNew, enqueued, heavier, goes_out, as_heavy, shrinks_unaudited}
use Rattle.kp_rules.proofs.PartitionLemmas.{at_changed, length-changed_at, numbered}
use Rattle.kp_rules.proofs.SendingLemmas.{IsSent, has_part, demand_is_sent, demand_is_distinct, demand_is_led}

-- ---- each partition

-- The partition with this number is in order, of a core with this configuration, so many senders and this next correlation id.
abbrev pub IsPlace : Config → ℕ → ℕ → List Partition → ℕ → Type 0
IsPlace c senders k ts p = IsPartition c senders k p (partition_at p ts)

abbrev AreInOrder : Config → ℕ → ℕ → ℕ × Partition → Type 0
AreInOrder c senders k x = IsPartition c senders k x.0 x.1

pub places : (s : Core) → IsInOrder s → (p : ℕ) → p < length s.partitions → IsPlace s.config (length s.reports) s.correlation s.partitions p
places s h p l = subst (AreInOrder s.config (length s.reports) s.correlation) (numbered s.partitions p l)
    (all-at (AreInOrder s.config (length s.reports) s.correlation) (enumerate_from 0 s.partitions) p (0, new_partition 0)
    (omega (arith, l, length-enumerate_from 0 s.partitions)) h.partitions)

placed : (c : Config) (senders k : ℕ) (ts : List Partition) → ((p : ℕ) → p < length ts → IsPlace c senders k ts p)
    → AllByRecursion (λ x. IsPartition c senders k x.0 x.1) (enumerate_from 0 ts)
placed c senders k ts f = all_by (AreInOrder c senders k) (enumerate_from 0 ts) (0, new_partition 0) (λ p l.
    let there : p < length ts = omega (arith, l, length-enumerate_from 0 ts) in subst (AreInOrder c senders k) (sym (numbered ts p there)) (f p there))

-- ---- the memory

-- the partitions of the second take no more than those of the first
abbrev TakeNoMore : List Partition → List Partition → Type 0
TakeNoMore ts us = (p : ℕ) → p < length ts → load (partition_at p us) ≤ load (partition_at p ts)

no_more : (ts us : List Partition) → length us ≡ length ts → TakeNoMore ts us → sum_by load us ≤ sum_by load ts
no_more [] [] e f = omega arith
no_more [] (u ∷ us) e f = absurd (omega (arith, e))
no_more (t ∷ ts) [] e f = absurd (omega (arith, e))
no_more (t ∷ ts) (u ∷ us) e f =
    let rest = no_more ts us (omega (arith, e)) (λ p l. f (suc p) (omega (arith, l))) in
    omega (arith, sum_by-cons load t ts, sum_by-cons load u us, f 0 (omega arith), rest)

used_no_more : (s u : Core) → length u.partitions ≡ length s.partitions → TakeNoMore s.partitions u.partitions → used u ≤ used s
unfolding used
used_no_more s u e f = omega (
  arith,
  sum_by-flat_map charge_of untold s.partitions,
  sum_by-flat_map charge_of untold u.partitions,
  no_more s.partitions u.partitions e f,
)

used_with : (s : Core) (p : ℕ) (t : Partition) → p < length s.partitions → used (with_partition p t s) + load (partition_at p s.partitions) ≡ used s + load t
unfolding used
used_with s p t l = sum_by-flat_map-set charge_of untold s.partitions p t (new_partition 0) l

-- ---- a core whose partitions hand nothing over

-- some of the requests, among them all for batches
pub record Remain (xs ys : List Request) : Type 0 where
  pub left : Left Same xs ys
  pub batches : (r : Request) → asks_for_id r ≡ false → Contains xs r → Contains ys r

record Keeps (s u : Core) : Type 0 where
  config : u.config ≡ s.config
  names : u.names ≡ s.names
  senders : length u.reports ≡ length s.reports
  correlation : u.correlation ≡ s.correlation
  count : length u.partitions ≡ length s.partitions
  each : (p : ℕ) → Shrinks (partition_at p s.partitions) (partition_at p u.partitions)
  requests : Left Same s.requests u.requests
  awaited : (p : ℕ) → AreAwaited s.requests p (partition_at p s.partitions) → AreAwaited u.requests p (partition_at p u.partitions)
  ended : u.ended ≡ true → s.ended ≡ true

order_kept : (s u : Core) → Keeps s u → IsInOrder s → IsInOrder u
order_kept s u k h = record {
  config = rw k.config h.config;
  names = rw k.names h.names;
  partition_limit = omega (arith, k.count, h.partition_limit);
  partitions = placed u.config (length u.reports) u.correlation u.partitions (λ p l.
      let there : p < length s.partitions = omega (arith, l, k.count) in
      rw (k.config, k.senders, k.correlation) (shrunk (k.each p) (places s h p there)));
  requests = rw (k.count, k.correlation) (left_same_all (IsRequest (length s.partitions) s.correlation) k.requests h.requests);
  correlations = left_distinct _ _ (left_mapped (λ (r : Request). r.correlation) (λ x y e. ap (λ (r : Request). r.correlation) e) k.requests) h.correlations;
  window = λ node. rw k.config (omega (
    arith,
    left_length (to_node node s.requests) (to_node node u.requests) (left_kept (goes_to node) s.requests u.requests k.requests),
    h.window node,
  ));
  memory = omega (arith, h.memory, ap (λ (c : Config). c.buffer_memory) k.config, used_no_more s u k.count (λ p l. lighter (k.each p)));
  awaited = λ p. k.awaited p (h.awaited p);
  nothing_left = λ e. all_by IsEmptied u.partitions (new_partition 0) (λ p l.
      let there : p < length s.partitions = omega (arith, l, k.count) in
      emptied (k.each p) (all-at IsEmptied s.partitions p (new_partition 0) there (h.nothing_left (k.ended e))));
  nothing_in_flight = λ e. left_none s.requests u.requests k.requests (h.nothing_in_flight (k.ended e));
}

-- the partitions are the same
pub order_alike : {s u : Core} → u.config ≡ s.config → u.names ≡ s.names → u.correlation ≡ s.correlation → u.ended ≡ s.ended → length u.reports ≡ length s.reports
    → u.partitions ≡ s.partitions → Remain s.requests u.requests → IsInOrder s → IsInOrder u
order_alike {s} {u} config names correlation ended senders same requests = order_kept s u (record {
  config = config;
  names = names;
  senders = senders;
  correlation = correlation;
  count = ap length same;
  each = λ p. rw same (shrinks_same (partition_at p s.partitions));
  requests = requests.left;
  awaited = λ p h. subst (λ (ts : List Partition). AreAwaited u.requests p (partition_at p ts)) (sym same)
      (awaited_more s.requests u.requests p (partition_at p s.partitions) requests.batches h);
  ended = λ e. sym ended ∙ e;
})

pub same_requests : (s : Core) → Remain s.requests s.requests
same_requests s = record { left = left_same Same (λ r. refl) s.requests; batches = λ r batch there. there }

pub without_id : (s : Core) → Remain s.requests (idle s).requests
without_id s = record {
  left = left_filter Same (λ r. refl) (λ r. not (asks_for_id r)) s.requests;
  batches = λ r batch there. contains_filter (λ q. not (asks_for_id q)) s.requests r there (ap not batch);
}

pub length-reports : (told : List Told) (reports : List (List Report)) → length (with_reports told reports) ≡ length reports
unfolding with_reports
length-reports told reports = length-map (enumerate_from 0 reports) _ ∙ length-enumerate_from 0 reports

-- ---- what a rule leaves

keeps_with : (s : Core) (ts : List Partition) (told : List Told) → length ts ≡ length s.partitions
    → ((p : ℕ) → Shrinks (partition_at p s.partitions) (partition_at p ts)) → Keeps s (with_partitions ts told s).after
unfolding with_partitions
keeps_with s ts told count each = record {
  config = refl;
  names = refl;
  senders = length-reports told s.reports;
  correlation = refl;
  count = count;
  each = each;
  requests = left_filter Same (λ r. refl) (is_live ts) s.requests;
  awaited = λ p. awaited_live s.requests ts p (partition_at p s.partitions) (each p);
  ended = λ e. e;
}

shrinks_map : (f : Partition → Partition) → ((t : Partition) → Shrinks t (f t)) → (ts : List Partition) (p : ℕ)
    → Shrinks (partition_at p ts) (partition_at p (map f ts))
shrinks_map f k ts p = at_mapped (Shrinks (partition_at p ts)) f ts p (new_partition 0) (k (partition_at p ts)) (shrinks_same (partition_at p ts))

keeps_at_each : (rule : Partition → Effect) → ((t : Partition) → Shrinks t (rule t).after) → (s : Core) → Keeps s (at_each rule s).after
unfolding at_each
keeps_at_each rule k s = keeps_with s _ _ (length-map s.partitions (λ t. (rule t).after)) (shrinks_map (λ t. (rule t).after) k s.partitions)

keeps_at_these : (ps : List ℕ) (rule : ℕ → Partition → Effect) → ((p : ℕ) (t : Partition) → Shrinks t (rule p t).after)
    → (s : Core) → Keeps s (at_these ps rule s).after
unfolding at_these
keeps_at_these ps rule k s = keeps_with s (changed_at ps f s.partitions) _ (length-changed_at ps f s.partitions)
    (λ p. at_changed (Shrinks (partition_at p s.partitions)) ps f s.partitions p
    (λ m is. k p (partition_at p s.partitions)) (λ beside. shrinks_same (partition_at p s.partitions)))
  where
    f : ℕ → Partition → Partition
    f p t = (rule p t).after

-- what holds of a new partition, and of the changed one with this number
at_place : (P : Partition → Type 0) (f : Partition → Partition) (ts : List Partition) (p : ℕ) → P (new_partition 0) → P (f (partition_at p ts)) → P (partition_at p (map f ts))
at_place P f [] p none here = none
at_place P f (t ∷ ts) zero none here = here
at_place P f (t ∷ ts) (suc p) none here = at_place P f ts p none here

pub order_dropped : (node now : ℕ) (s : Core) → IsInOrder s → IsInOrder (drop_requests node now s)
unfolding drop_requests
order_dropped node now s = order_kept s (drop_requests node now s) (record {
  config = refl;
  names = refl;
  senders = refl;
  correlation = refl;
  count = length-map s.partitions (drop_led node now);
  each = shrinks_map (drop_led node now) (shrinks_led node now) s.partitions;
  requests = left_filter Same (λ r. refl) (λ r. not (goes_to node r)) s.requests;
  awaited = λ p h. at_place (AreAwaited others p) (drop_led node now) s.partitions p tt (awaited_dropped node now s.requests p (partition_at p s.partitions) h);
  ended = λ e. e;
})
  where
    others : List Request
    others = filter (λ r. not (goes_to node r)) s.requests

pub order_flushed : (s : Core) → IsInOrder s → IsInOrder (flush_step s)
unfolding flush_step
order_flushed s = order_kept s (flush_step s) (record {
  config = refl;
  names = refl;
  senders = refl;
  correlation = refl;
  count = length-map s.partitions mark;
  each = shrinks_map mark shrinks_marked s.partitions;
  requests = (same_requests s).left;
  awaited = λ p. awaited_then s.requests s.requests p (partition_at p s.partitions) (partition_at p (map mark s.partitions))
      (shrinks_map mark shrinks_marked s.partitions p) (λ k a c. a.there);
  ended = λ e. e;
})

pub order_unaudited : (s : Core) → IsInOrder s → IsInOrder (without_audits s)
unfolding without_audits
order_unaudited s = order_kept s (without_audits s) (record {
  config = refl;
  names = refl;
  senders = refl;
  correlation = refl;
  count = length-map s.partitions unaudited;
  each = shrinks_map unaudited shrinks_unaudited s.partitions;
  requests = (same_requests s).left;
  awaited = λ p. awaited_then s.requests s.requests p (partition_at p s.partitions) (partition_at p (map unaudited s.partitions))
      (shrinks_map unaudited shrinks_unaudited s.partitions p) (λ k a c. a.there);
  ended = λ e. e;
})

pub order_closed : (s : Core) → IsInOrder s → IsInOrder (close_step s)
order_closed s h = at_close IsInOrder s h (order_alike {s = s} refl refl refl refl refl refl (same_requests s) h)

order_disconnected : (node now : ℕ) (s : Core) → IsInOrder s → IsInOrder (disconnect_step node now s)
order_disconnected node now s h = at_disconnect IsInOrder node now s h (order_dropped node now s h)

pub order_led : (p leader now : ℕ) (s : Core) → IsInOrder s → IsInOrder (lead_step p leader now s)
unfolding lead_step
order_led p leader now s = order_kept s (lead_step p leader now s) (record {
  config = refl;
  names = refl;
  senders = refl;
  correlation = refl;
  count = length-set s.partitions p moved;
  each = shrinks;
  requests = left_filter Same (λ r. refl) (is_live (slice_set s.partitions p moved)) s.requests;
  awaited = λ q. awaited_live s.requests (slice_set s.partitions p moved) q (partition_at q s.partitions) (shrinks q);
  ended = λ e. e;
})
  where
    moved : Partition
    moved = led_by leader now (partition_at p s.partitions)

    shrinks : (q : ℕ) → Shrinks (partition_at q s.partitions) (partition_at q (slice_set s.partitions p moved))
    shrinks q = at_put (Shrinks (partition_at q s.partitions)) s.partitions p q moved (new_partition 0)
        (λ e. rw e (shrinks_lead leader now (partition_at p s.partitions))) (shrinks_same (partition_at q s.partitions))

pub order_fetched : (sender : ℕ) (s : Core) → IsInOrder s → IsInOrder (fetch_step sender s).after
order_fetched sender s = order_alike {s = s} refl refl refl refl (length-set s.reports sender _) refl (same_requests s)

pub order_passed : (now : ℕ) (s : Core) → IsInOrder s → IsInOrder (at_each (heed_deadlines s.config now) s).after
order_passed now s = order_kept s (at_each (heed_deadlines s.config now) s).after (keeps_at_each (heed_deadlines s.config now) (shrinks_passed s.config now) s)

order_ticked : (node now : ℕ) (s : Core) → IsInOrder s → IsInOrder (tick_step node now s).after
order_ticked node now s h = at_tick (λ (x : Ticks). IsInOrder x.after) node now s (record {
  ended = h;
  timed_out = order_passed now (drop_requests node now s) (order_dropped node now s h);
  on_time = order_passed now s h;
})

-- ---- the end

nothing_open : (f : Partition → Partition) → ((t : Partition) → (f t).open_batches ≡ []) → (requests : List Request) (q p : ℕ) (ts : List Partition)
    → AllByRecursion (IsAwaited requests (partition_at p (map f ts)).leader q) (requests_awaited (partition_at p (map f ts)).open_batches)
nothing_open f none requests q p [] = tt
nothing_open f none requests q zero (t ∷ ts) = subst (λ (os : List Open). AllByRecursion (IsAwaited requests (f t).leader q) (requests_awaited os)) (sym (none t)) tt
nothing_open f none requests q (suc p) (t ∷ ts) = nothing_open f none requests q p ts

pub order_all_ended : (s : Core) → IsInOrder s → IsInOrder (end_all s).after
unfolding at_each with_partitions
order_all_ended s h =
    let k = keeps_at_each (give_up reason.Ended) (shrinks_given_up reason.Ended) s in
    let u = order_kept s (at_each (give_up reason.Ended) s).after k h in
    record {
      config = u.config;
      names = u.names;
      partition_limit = u.partition_limit;
      partitions = u.partitions;
      requests = tt;
      correlations = tt;
      window = λ node. omega arith;
      memory = omega (arith, h.memory, used_no_more s (end_all s).after k.count (λ p l. lighter (k.each p)));
      awaited = λ p. nothing_open (λ t. (give_up reason.Ended t).after) (λ t. (given_up_empty reason.Ended t).open_batches) [] p p s.partitions;
      nothing_left = λ e. all_map (λ t. Unit {0}) IsEmptied (λ t. (give_up reason.Ended t).after) (λ t x. given_up_empty reason.Ended t)
          s.partitions (all_say (λ t. Unit {0}) (λ t. tt) s.partitions);
      nothing_in_flight = λ e. refl;
    }

order_ended : (s : Core) → IsInOrder s → IsInOrder (end_step s).after
order_ended s h = at_end_step (λ (x : Called ℕ). IsInOrder x.after) s h (order_all_ended s h)

-- ---- a configuration that is let through

pub record HasBounds (c : Config) : Type 0 where
  pub window : 1 ≤ c.max_in_flight_requests_per_connection
  pub request : c.max_request_size ≤ 8388608
  pub timeout : c.request_timeout_ms ≤ 2147483647
  pub sequence : c.sequence_limit ≤ 2147483648

pub has_bounds : (c : Config) → checked c ≡ Ok tt → HasBounds c
unfolding checked is_outside
has_bounds c e = record {
  window = grind (arith, nat_tests);
  request = (allowed c e).request;
  timeout = grind (arith, nat_tests);
  sequence = grind (arith, nat_tests);
}

-- ---- one partition is another

order_set : (s : Core) (p : ℕ) (t : Partition) → p < length s.partitions → s.ended ≡ false → IsPartition s.config (length s.reports) s.correlation p t
    → (AreAwaited s.requests p (partition_at p s.partitions) → AreAwaited s.requests p t)
    → used s + load t ≤ s.config.buffer_memory + load (partition_at p s.partitions) → IsInOrder s → IsInOrder (with_partition p t s)
order_set s p t there going is still room h =
    let count : length (slice_set s.partitions p t) ≡ length s.partitions = length-set s.partitions p t in
    record {
      config = h.config;
      names = h.names;
      partition_limit = omega (arith, count, h.partition_limit);
      partitions = placed s.config (length s.reports) s.correlation (slice_set s.partitions p t) (λ q l.
          at_put (IsPartition s.config (length s.reports) s.correlation q) s.partitions p q t (new_partition 0)
          (λ e. rw e is) (places s h q (omega (arith, l, count))));
      requests = rw count h.requests;
      correlations = h.correlations;
      window = h.window;
      awaited = λ q. at_put (AreAwaited s.requests q) s.partitions p q t (new_partition 0)
          (λ e. subst (λ (n : ℕ). AreAwaited s.requests n t) (sym e) (still (h.awaited p))) (h.awaited q);
      memory = omega (arith, room, used_with s p t there);
      nothing_left = λ e. absurd cc;
      nothing_in_flight = λ e. absurd cc;
    }

-- ---- an append

pub order_turned : (why : Reason) (i : Item) (s : Core) → IsInOrder s → IsInOrder (turn_away why i s).after
order_turned why i s = order_alike {s = s} refl refl refl refl (length-reports _ s.reports) refl (same_requests s)

pub is_there : (i : Item) (s : Core) → may_append i s ≡ true → i.partition < length s.partitions
unfolding may_append
is_there i s may = grind (arith, nat_tests)

pub order_queued : (i : Item) (s : Core) → IsRecord i.body → may_append i s ≡ true → s.ended ≡ false
    → (partition_at i.partition s.partitions).fenced ≡ false → would_exhaust i s ≡ false → IsInOrder s → IsInOrder (with_queued i s)
unfolding may_append would_exhaust
order_queued i s held may going free room h =
    let there = is_there i s may in
    let t = partition_at i.partition s.partitions in
    let new : IsNew s.config (length s.reports) i.partition i = record {
      is = record { sender = grind (arith, nat_tests); partition = refl; body = held };
      fits = grind (arith, nat_tests);
      room = (allowed s.config h.config).within;
    } in
    order_set s i.partition (enqueue s.config i t) there going
    (enqueued new free (places s h i.partition there)) (λ a. a)
    (omega (arith, heavier s.config i t, ltb-false s.config.buffer_memory (used s + charge_of i) room)) h

order_appended : (i : Item) (s : Core) → IsRecord i.body → IsInOrder s → IsInOrder (append_step i s).after
order_appended i s held h = at_append (λ (x : Appends). IsInOrder x.after) i s (record {
  outside = h;
  past_end = λ m e. order_turned reason.Ended i s h;
  by_fence = λ m e f. order_turned reason.Fenced i s h;
  full = order_alike {s = s} refl refl refl refl refl refl (same_requests s) h;
  room = λ m e f r. order_queued i s held m e f r h;
})

-- ---- a request

let_out : {A : Type 0} (b : Bool) (rest : Option A) (x : A) → (if not b then None else rest) ≡ Some x → b ≡ true
let_out true rest x e = refl
let_out false rest x e = absurd cc

has_room : (node now : ℕ) (s : Core) (d : Demand Sending) → next_demand node now s ≡ Some d → length (to_node node s.requests) < s.config.max_in_flight_requests_per_connection
unfolding next_demand has_window
has_room node now s d e = ltb-true _ _ (let_out (nat_lt (length (to_node node s.requests)) s.config.max_in_flight_requests_per_connection) _ d e)

-- with one request more in flight
abbrev with_request : ℕ → ℕ → Demand ℕ → Core → Core
with_request node now d s = record s { requests = s.requests ++ request_of node now s d ∷ []; correlation = s.correlation + 1 }

order_requested : (node now : ℕ) (s : Core) (d : Demand ℕ) → s.ended ≡ false → length (to_node node s.requests) < s.config.max_in_flight_requests_per_connection
    → AllByRecursion (λ p. p < length s.partitions) (partitions_of d) → AreDistinct (partitions_of d)
    → IsInOrder s → IsInOrder (with_request node now d s)
order_requested node now s d going room there once h = record {
  config = h.config;
  names = h.names;
  partition_limit = h.partition_limit;
  partitions = placed s.config (length s.reports) (s.correlation + 1) s.partitions (λ p l. later (s.correlation + 1) (omega arith) (places s h p l));
  requests = all_append (IsRequest (length s.partitions) (s.correlation + 1)) s.requests (r ∷ [])
      (all_weaker (IsRequest (length s.partitions) s.correlation) (IsRequest (length s.partitions) (s.correlation + 1))
      (λ x is. record { used = omega (arith, is.used); there = is.there; once = is.once }) s.requests h.requests)
      (record { used = omega arith; there = there; once = once }, tt);
  correlations = rw (map-append (λ (x : Request). x.correlation) s.requests (r ∷ [])) (distinct_more s.correlation (map (λ x. x.correlation) s.requests)
      (all_map (IsRequest (length s.partitions) s.correlation) (λ k. k < s.correlation) (λ x. x.correlation) (λ x is. is.used)
      s.requests h.requests) h.correlations);
  window = λ m. one_more m (node == m) refl;
  awaited = λ p. awaited_more s.requests (s.requests ++ r ∷ []) p (partition_at p s.partitions) (λ q batch. Contains-append_left s.requests (r ∷ []) q) (h.awaited p);
  memory = omega (arith, h.memory, used_no_more s (with_request node now d s) refl (λ p l. omega arith));
  nothing_left = λ e. absurd cc;
  nothing_in_flight = λ e. absurd cc;
}
  where
    r : Request
    r = request_of node now s d

    -- one more to its node, and none to any other
    one_more : (m : ℕ) (b : Bool) → (node == m) ≡ b → length (to_node m (s.requests ++ r ∷ [])) ≤ s.config.max_in_flight_requests_per_connection
    one_more m true is =
        let same : node ≡ m = eqb-true node m is in
        rw (filter-append (goes_to m) s.requests (r ∷ []), is, ← same)
        (omega (arith, room, length-append (to_node node s.requests) (r ∷ [])))
    one_more m false is = rw (filter-append (goes_to m) s.requests (r ∷ []), is)
        (omega (arith, h.window m, length-append (to_node m s.requests) []))

-- what a partition of the request sends
sends_at : (now : ℕ) (s : Core) (p : ℕ) (xs : List Sending) → AllByRecursion (IsSent now s) xs → is_in p (partitions_in xs) ≡ true
    → (b : HandedBatch) × (sends s.config (flags_of s) now (partition_at p s.partitions) ≡ Some b)
sends_at now s p xs h e =
    let x = has_part xs p e in
    (x.it.batch, ap (λ (q : ℕ). sends s.config (flags_of s) now (partition_at q s.partitions)) (sym x.own) ∙ (at_contained (IsSent now s) xs x.it h x.has).sends)

-- the batches of a request go out
order_produced : (node now : ℕ) (s : Core) (xs : List Sending) → s.ended ≡ false → next_demand node now s ≡ Some (Produce xs) → IsInOrder s
    → IsInOrder (sent_out node now s (Produce xs))
order_produced node now s xs going is h =
    let ps = partitions_in xs in
    let sent = demand_is_sent node now s xs is in
    let there = all_map (IsSent now s) (λ p. p < length s.partitions) (λ x. x.partition) (λ x it. it.there) xs sent in
    let w = order_requested node now s (Produce ps) going (has_room node now s (Produce xs) is) there (demand_is_distinct node now s xs is) h in
    let count : length (sent_out node now s (Produce xs)).partitions ≡ length s.partitions = length-changed_at ps send s.partitions in
    record {
      config = h.config;
      names = h.names;
      partition_limit = omega (arith, count, h.partition_limit);
      partitions = placed s.config (length s.reports) (s.correlation + 1) (sent_out node now s (Produce xs)).partitions (λ p l.
          let old = places s h p (omega (arith, l, count)) in
          at_changed (IsPartition s.config (length s.reports) (s.correlation + 1) p) ps send s.partitions p
          (λ m e. let b = sends_at now s p xs sent e in goes_out (flags_of s) now b.0 b.1 (has_bounds s.config h.config).window old)
          (λ beside. later (s.correlation + 1) (omega arith) old));
      requests = rw count w.requests;
      correlations = w.correlations;
      window = w.window;
      awaited = λ p. at_changed (AreAwaited (s.requests ++ r ∷ []) p) ps send s.partitions p
          (λ m e. awaited_sent s.correlation (s.requests ++ r ∷ []) p (partition_at p s.partitions) (new p e) (w.awaited p)) (λ beside. w.awaited p);
      memory = omega (
        arith,
        h.memory,
        used_no_more s (sent_out node now s (Produce xs)) count (λ p l.
            at_changed (λ u. load u ≤ load (partition_at p s.partitions)) ps send s.partitions p
            (λ m e. omega (arith, as_heavy s.correlation (partition_at p s.partitions))) (λ beside. omega arith)),
      );
      nothing_left = λ e. absurd cc;
      nothing_in_flight = λ e. absurd cc;
    }
  where
    send : ℕ → Partition → Partition
    send p t = send_in s.correlation t

    r : Request
    r = request_of node now s (Produce (partitions_in xs))

    new : (p : ℕ) → is_in p (partitions_in xs) ≡ true → IsAwaited (s.requests ++ r ∷ []) (partition_at p s.partitions).leader p s.correlation
    new p e =
        let x = has_part xs p e in
        let led : leads node (partition_at p s.partitions) ≡ true =
        subst (λ (q : ℕ). leads node (partition_at q s.partitions) ≡ true) x.own (at_contained (IsLed node s) xs x.it (demand_is_led node now s xs is) x.has) in
        record {
          request = r;
          there = Contains-append_right s.requests (r ∷ []) r (contains_head r []);
          named = refl;
          at = sym (eqb-true _ node led);
          has = e;
        }

pub order_out : (node now : ℕ) (s : Core) (d : Demand Sending) → s.ended ≡ false → next_demand node now s ≡ Some d → IsInOrder s → IsInOrder (sent_out node now s d)
order_out node now s (Produce xs) going is h = order_produced node now s xs going is h
order_out node now s (InitProducerId p) going is h = order_requested node now s (InitProducerId p) going (has_room node now s (InitProducerId p) is) tt tt h

order_request : (node now : ℕ) (s : Core) → IsInOrder s → IsInOrder (request_step node now s).after
order_request node now s h = at_request (λ (x : Requested). IsInOrder x.after) node now s (record {
  ended = h;
  idle = h;
  spent = h;
  out = λ going d is some. order_out node now s d going is h;
})

-- ---- the id that a reply gives is an int64, whatever its bytes are

abbrev Gives : {A : Type 0} → (List ℕ → Read A) → (A → Type 0) → Type 0
Gives {A} read P = (bytes : List ℕ) (x : A × List ℕ) → read bytes ≡ Ok x → P x.0

made_gives : {A B : Type 0} (c : List ℕ → Read A) (make : A → B) (P : B → Type 0) → Gives c (λ a. P (make a))
    → Gives (λ bytes. c bytes >>= λ y. Ok (make y.0, y.1)) P
made_gives {A} {B} c make P f bytes x e =
    let a = bind_ok (c bytes) (λ y. Ok (make y.0, y.1)) x e in
    let got : B × List ℕ = (make a.0.0, a.0.1) in
    subst (λ (y : B × List ℕ). P y.0) (ok_is got x a.2) (f bytes a.0 a.1)

abbrev both : {A B : Type 0} → (List ℕ → Read A) → (List ℕ → Read B) → List ℕ → Read (A × B)
both c d bytes = c bytes >>= λ x. d x.1 >>= λ y. Ok ((x.0, y.0), y.1)

first_gives : {A B : Type 0} (c : List ℕ → Read A) (d : List ℕ → Read B) (P : A → Type 0) → Gives c P → Gives (both c d) (λ x. P x.0)
first_gives {A} {B} c d P f bytes z e =
    let a = bind_ok (c bytes) (λ x. d x.1 >>= λ y. Ok ((x.0, y.0), y.1)) z e in
    let b = bind_ok (d a.0.1) (λ y. Ok ((a.0.0, y.0), y.1)) z a.2 in
    let got : (A × B) × List ℕ = ((a.0.0, b.0.0), b.0.1) in
    subst (λ (y : (A × B) × List ℕ). P y.0.0) (ok_is got z b.2) (f bytes a.0 a.1)

second_gives : {A B : Type 0} (c : List ℕ → Read A) (d : List ℕ → Read B) (P : B → Type 0) → Gives d P → Gives (both c d) (λ x. P x.1)
second_gives {A} {B} c d P f bytes z e =
    let a = bind_ok (c bytes) (λ x. d x.1 >>= λ y. Ok ((x.0, y.0), y.1)) z e in
    let b = bind_ok (d a.0.1) (λ y. Ok ((a.0.0, y.0), y.1)) z a.2 in
    let got : (A × B) × List ℕ = ((a.0.0, b.0.0), b.0.1) in
    subst (λ (y : (A × B) × List ℕ). P y.0.1) (ok_is got z b.2) (f a.0.1 b.0 b.1)

-- what a core takes for an id
abbrev pub IsId : ℤ → Type 0
IsId z = int_le (pos 0) z ≡ true → nat_abs z < 2 ^ 63

signed_is_id : (n : ℕ) → IsId (cast_signed w64 n)
signed_is_id n = at_test (nat_lt n (2 ^ 63)) refl
  where
    at_test : (b : Bool) → nat_lt n (2 ^ 63) ≡ b → IsId (sel b (pos n) (negsuc (2 ^ 64 - suc n)))
    at_test true is e = ltb-true n (2 ^ 63) is
    at_test false is e = absurd cc

int64_gives : Gives int64.read IsId
int64_gives = made_gives (number w64).read (cast_signed w64) IsId (λ bytes x e. signed_is_id x.0)

id_response_gives : Gives init_producer_id_response.read (λ r. IsId r.producer_id)
unfolding init_producer_id_response
id_response_gives =
    let behind = pair int64 int16 in
    made_gives (pair int32 (pair int16 behind)).read _ (λ r. IsId r.producer_id)
    (second_gives int32.read (pair int16 behind).read (λ x. IsId x.1.0)
    (second_gives int16.read behind.read (λ x. IsId x.0) (first_gives int64.read int16.read IsId int64_gives)))

abbrev pub HasId : ResponseBody → Type 0
HasId (body.InitProducerId r) = IsId r.producer_id
HasId (body.Produce r) = Unit {0}
HasId (body.Metadata r) = Unit {0}

body_gives : (a : Api) → Gives (response.read_body a) HasId
body_gives api.Produce = made_gives produce_response.read body.Produce HasId (λ bytes x e. tt)
body_gives api.Metadata = made_gives metadata_response.read body.Metadata HasId (λ bytes x e. tt)
body_gives api.InitProducerId = made_gives init_producer_id_response.read body.InitProducerId HasId id_response_gives

answer_gives : (a : Api) → Gives (response.answer a).read (λ r. HasId r.body)
unfolding response.answer response.body
answer_gives a = made_gives _ _ (λ (r : Response). HasId r.body) (second_gives _ _ HasId (body_gives a))

pub has_id : (a : Api) (content : List ℕ) (r : Response) → response_at a content ≡ Ok r → HasId r.body
unfolding response_at
has_id a content r e =
    let m = or_else_ok of_wire ((response.answer a).read content) _ r e in
    let w = whole_ok m.0.0 m.0.1 r m.2 in
    subst (λ (x : Response). HasId x.body) w.1 (answer_gives a content m.0 m.1)

-- ---- a response

-- the partition goes on under the id
order_given : (id p : ℕ) (s : Core) → id < 2 ^ 63 → s.ended ≡ false → IsInOrder s
    → IsInOrder (with_partition p (go_on_under id (partition_at p s.partitions)) s)
unfolding untold
order_given id p s small going h = elim (cases_lt p (length s.partitions)) [
  | inl there ↦ order_set s p (go_on_under id t) there going (gone_on id small (places s h p there)) (λ a. a) (omega (arith, h.memory)) h
  | inr past ↦ order_alike {s = s} refl refl refl refl refl (set_past s.partitions p (go_on_under id t) past) (same_requests s) h
]
  where
    t : Partition
    t = partition_at p s.partitions

given_is_id : (x : InitProducerIdResponse) → answers_id x ≡ true → is_given x ≡ true → int_le (pos 0) x.producer_id ≡ true
unfolding answers_id
given_is_id x e given = at_given (is_given x) (int_le (pos 0) x.producer_id) (int_eq x.producer_epoch (pos 0)) given e
  where
    at_given : (a b c : Bool) → a ≡ true → (not a || (b && c)) ≡ true → b ≡ true
    at_given true b c is e' = (and_parts b c e').0
    at_given false b c is e' = absurd cc

pub order_id : (now p : ℕ) (x : InitProducerIdResponse) (s : Core) → IsId x.producer_id → answers_id x ≡ true → s.ended ≡ false
    → IsInOrder s → IsInOrder (settle_id now p x s)
order_id now p x s id fits going h = at_id IsInOrder now p x s (record {
  wanted = λ given. order_given (nat_abs x.producer_id) p (idle s) (id (given_is_id x fits given)) going rests;
  unwanted = rests;
  refused = order_alike {s = s} refl refl refl refl refl refl left h;
})
  where
    left : Remain s.requests (idle s).requests
    left = without_id s

    rests : IsInOrder (idle s)
    rests = order_alike {s = s} refl refl refl refl refl refl left h

pub order_settled : (now k : ℕ) (ps : List ℕ) (x : ProduceResponse) (s : Core) → IsInOrder s → IsInOrder (settle_batches now k ps x s).after
order_settled now k ps x s = order_kept s (settle_batches now k ps x s).after
    (keeps_at_these ps (λ p t. by_entries now k t (entries_for p x)) (λ p t. shrinks_entries now k t (entries_for p x)) s)

pub order_response : (now : ℕ) (x : Response) (s : Core) → HasId x.body → IsInOrder s → IsInOrder (response_step now x s).after
order_response now x s id h = at_response_going (λ (y : Replies). IsInOrder y.after) now x s h (λ going. record {
  same = λ answer. h;
  batches = λ r ps produce it demand is fits. order_settled now r.correlation ps produce s h;
  id = λ r p y it demand is fits. order_id now p y s (subst HasId is id) fits going h;
})

-- ---- a reply

order_reply : (now : ℕ) (content : List ℕ) (s : Core) → IsInOrder s → IsInOrder (reply_step now content s).after
order_reply now content s h =
    at_reply (λ (x : Replies). IsInOrder x.after) now content s (λ answer. h) (λ a x e. order_response now x s (has_id a content x e) h)

-- ---- a new core, and any call

new_partition_in_order : (c : Config) (senders k p id : ℕ) → id < 2 ^ 63 → IsPartition c senders k p (new_partition id)
new_partition_in_order c senders k p id small = record {
  queue = tt;
  opens = tt;
  rising = tt;
  attempts = tt;
  attempted = tt;
  ids = (small, tt);
  known = omega arith;
  sequence = omega arith;
  handed_over = omega arith;
  sent = omega arith;
  fenced = λ e. absurd cc;
}

none_awaited : (id q p n : ℕ) → AllByRecursion (IsAwaited [] (partition_at p (replicate n (new_partition id))).leader q) (requests_awaited (partition_at p (replicate n (new_partition id))).open_batches)
none_awaited id q p zero = tt
none_awaited id q zero (suc n) = tt
none_awaited id q (suc p) (suc n) = none_awaited id q p n

pub new_in_order : (c : Config) (n : Names) (partitions senders id correlation : ℕ) → MayOpen c n partitions senders id correlation
    → IsUtf8 n.topic → IsUtf8 n.client → IsInOrder (new_core c n partitions senders id correlation)
unfolding new_core used untold
new_in_order c n partitions senders id correlation may topic client = record {
  config = may.config;
  names = record { topic = may.topic; topic_is_text = topic; client = may.client; client_is_text = client };
  partition_limit = omega (arith, length-replicate partitions (new_partition id), may.partition_limit);
  partitions = placed c (length reports) correlation ts (λ p l. all-at IsAnywhere ts p (new_partition 0) l each p);
  requests = tt;
  correlations = tt;
  window = λ node. omega arith;
  awaited = λ p. none_awaited id p p partitions;
  memory = omega (arith, sum_by-flat_map charge_of untold ts, none);
  nothing_left = λ e. absurd cc;
  nothing_in_flight = λ e. refl;
}
  where
    ts : List Partition
    ts = replicate partitions (new_partition id)

    reports : List (List Report)
    reports = replicate senders []

    IsAnywhere : Partition → Type 0
    IsAnywhere t = (p : ℕ) → IsPartition c (length reports) correlation p t

    each : AllByRecursion IsAnywhere ts
    each = all_replicate IsAnywhere partitions (new_partition id) (λ p. new_partition_in_order c (length reports) correlation p id may.known_id)

    none : sum_by load ts ≡ partitions * 0
    none = sum_by-replicate load partitions (new_partition id)

pub kept : (s t : Core) (x : Call) → IsHeld x → Step s x t → IsInOrder s → IsInOrder t
kept s t (call.Append i (Err append.OutOfMemory)) held step h = subst IsInOrder (sym step.1) h
kept s t (call.Append i answer) held step h = subst IsInOrder (sym step.1) (order_appended i s held h)
kept s t (call.Request node now (Err fault.OutOfMemory)) held step h = subst IsInOrder (sym step.1) h
kept s t (call.Request node now answer) held step h = subst IsInOrder (sym step.1) (order_request node now s h)
kept s t (call.Reply now content (Err fault.OutOfMemory)) held step h = subst IsInOrder (sym step.1) h
kept s t (call.Reply now content answer) held step h = subst IsInOrder (sym step.1) (order_reply now content s h)
kept s t (call.Tick node now answer) held step h = subst IsInOrder (sym step.1) (order_ticked node now s h)
kept s t (call.Disconnect node now) held step h = subst IsInOrder (sym step) (order_disconnected node now s h)
kept s t (call.Lead p leader now) held step h = subst IsInOrder (sym step) (order_led p leader now s h)
kept s t call.Close held step h = subst IsInOrder (sym step) (order_closed s h)
kept s t call.Flush held step h = subst IsInOrder (sym step) (order_flushed s h)
kept s t (call.End reports) held step h = subst IsInOrder (sym step.1) (order_ended s h)
kept s t (call.Fetch sender answer) held step h = subst IsInOrder (sym step.1) (order_fetched sender s h)
