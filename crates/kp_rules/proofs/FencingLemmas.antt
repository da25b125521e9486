-- A partition becomes fenced only by a late open batch in a tick, or by a rejection.
use Rattle.std.proofs.Common.{◌≡◌, ℕ, ◌<◌, ◌^◌, true, false, List, [], ◌∷◌, map, Some, refl, sym, ◌∙◌, subst}
use Rattle.std.specs.Prelude.{All, Err}
use Rattle.std.specs.List.{list_any}
use Rattle.kp_accum.specs.declared.config.Config.{Config}
use Rattle.kp_accum.specs.declared.fault.AppendFault.TheVariants as append
use Rattle.kp_accum.specs.declared.item.Item.{Item}
use Rattle.kp_accum.specs.Queue.{Pending}
use Rattle.kp_frames.specs.declared.api.Api.{Api}
use Rattle.kp_frames.specs.declared.produce.PartitionProduceResponse.{PartitionProduceResponse}
use Rattle.kp_frames.specs.declared.produce.ProduceResponse.{ProduceResponse}
use Rattle.kp_frames.specs.declared.response.Response.{Response}
use Rattle.kp_frames.specs.declared.response.ResponseBody.TheVariants as body
use Rattle.kp_frames.specs.Response.{Spells}
use Rattle.kp_rules.specs.declared.fault.CoreFault.TheVariants as fault
use Rattle.kp_rules.specs.declared.meaning.Meaning.{Meaning}
use Rattle.kp_rules.specs.declared.meaning.Meaning.TheVariants.{Stored, Duplicate, Retry, Reject}
use Rattle.kp_rules.specs.declared.outcome.Reason.TheVariants as reason
use Rattle.kp_rules.specs.Appending.{Appends, append_step}
use Rattle.kp_rules.specs.Calls.{Call, Step}
use Rattle.kp_rules.specs.Calls as call
use Rattle.kp_rules.specs.Causes.{RejectsIn}
use Rattle.kp_rules.specs.Closing.{close_step, end_step}
use Rattle.kp_rules.specs.Dropping.{drop_attempt, drop_attempts, drop_led, drop_requests, disconnect_step}
use Rattle.kp_rules.specs.Fence.{give_up}
use Rattle.kp_rules.specs.Flush.{mark, flush_step}
use Rattle.kp_rules.specs.HandingOver.{hand_over_in, send_in}
use Rattle.kp_rules.specs.Leading.{lead_step}
use Rattle.kp_rules.specs.Mismatch.{entries_for, answers_batches}
use Rattle.kp_rules.specs.Next.{Sending}
use Rattle.kp_rules.specs.OutcomeRule.{Tick, Reply, IsLate, IsFencedBy}
use Rattle.kp_rules.specs.Partitions.{partition_at, new_partition}
use Rattle.kp_rules.specs.Records.{Open, Partition, Demand, Produce, InitProducerId, Request, Core, Effect, Called}
use Rattle.kp_rules.specs.Replies.{Replies, awaited, response_step, reply_step}
use Rattle.kp_rules.specs.Reports.{fetch_step}
use Rattle.kp_rules.specs.Requesting.{Requested, partitions_in, go_out, request_step}
use Rattle.kp_rules.specs.Settling.{meaning_of, settle_by}
use Rattle.kp_rules.specs.Telling.{with_partitions, at_each, at_these}
use Rattle.kp_rules.specs.Tick.{Ticks, is_open_late, heed_deadlines, tick_step}
use Rattle.kp_rules.specs.InOrder.{IsHeld}
use Rattle.kp_rules.proofs.CallLemmas.{at_append, at_entries, at_heed, at_id, at_led, by_entries, at_request, at_response, at_tick, at_end_step, at_disconnect, at_moved, at_close}
use Rattle.kp_rules.proofs.HearingLemmas.{at_heard}
use Rattle.kp_rules.proofs.ListLemmas.{at_mapped, at_put, list_any_mapped}
use Rattle.kp_rules.proofs.OutcomeLemmas.{answered_so}
use Rattle.kp_rules.proofs.PartitionLemmas.{at_changed}
use Rattle.kp_rules.proofs.SendingLemmas.{at_send_in}

-- ---- what fences none

-- where the partition is fenced, there is this cause
abbrev OnlyBy : Type 0 → Partition → Type 0
OnlyBy C t = t.fenced ≡ true → C

abbrev OnlyAt : Type 0 → ℕ → Core → Type 0
OnlyAt C p s = OnlyBy C (partition_at p s.partitions)

open_still : (C : Type 0) (t : Partition) → t.fenced ≡ false → OnlyBy C t
open_still C t e e' = absurd cc

sends_open : (C : Type 0) (k : ℕ) (t : Partition) → OnlyBy C t → OnlyBy C (send_in k t)
unfolding hand_over_in
sends_open C k t old = at_send_in (OnlyBy C) k t old (at_queue t.queue)
  where
    at_queue : (q : List Pending) → OnlyBy C (hand_over_in k t q)
    at_queue [] = old
    at_queue (front ∷ behind) = old

mapped_open : (C : Type 0) (f : Partition → Partition) (p : ℕ) (s : Core) → OnlyBy C (f (partition_at p s.partitions)) → OnlyAt C p s
    → OnlyBy C (partition_at p (map f s.partitions))
mapped_open C f p s = at_mapped (OnlyBy C) f s.partitions p (new_partition 0)

append_open : (C : Type 0) (p : ℕ) (i : Item) (s : Core) → OnlyAt C p s → OnlyAt C p (append_step i s).after
append_open C p i s old = at_append (λ (x : Appends). OnlyAt C p x.after) i s (record {
  outside = old;
  past_end = λ m e. old;
  by_fence = λ m e f. old;
  full = old;
  room = λ m e f u. at_put (OnlyBy C) s.partitions i.partition p _ (new_partition 0) (λ same e'. absurd cc) old;
})

request_open : (C : Type 0) (p node now : ℕ) (s : Core) → OnlyAt C p s → OnlyAt C p (request_step node now s).after
request_open C p node now s old = at_request (λ (x : Requested). OnlyAt C p x.after) node now s
    (record { ended = old; idle = old; spent = old; out = λ e d is left. goes_out d })
  where
    goes_out : (d : Demand Sending) → OnlyAt C p (go_out node now s d).after
    goes_out (Produce xs) = at_changed (OnlyBy C) (partitions_in xs) (λ q t. send_in s.correlation t) s.partitions p
        (λ l is. sends_open C s.correlation (partition_at p s.partitions) old) (λ beside. old)
    goes_out (InitProducerId q) = old

end_open : (C : Type 0) (p : ℕ) (s : Core) → OnlyAt C p s → OnlyAt C p (end_step s).after
unfolding at_each with_partitions give_up
end_open C p s old =
    at_end_step (λ (x : Called ℕ). OnlyAt C p x.after) s old (mapped_open C (λ t. (give_up reason.Ended t).after) p s old old)

led_open : (C : Type 0) (node now : ℕ) (t : Partition) → OnlyBy C t → OnlyBy C (drop_led node now t)
led_open C node now t old = at_led (OnlyBy C) node now t old old

disconnect_open : (C : Type 0) (p node now : ℕ) (s : Core) → OnlyAt C p s → OnlyAt C p (disconnect_step node now s)
unfolding drop_requests
disconnect_open C p node now s old =
    at_disconnect (λ (t : Core). OnlyAt C p t) node now s old (mapped_open C (drop_led node now) p s (led_open C node now (partition_at p s.partitions) old) old)

lead_open : (C : Type 0) (p q leader now : ℕ) (s : Core) → OnlyAt C p s → OnlyAt C p (lead_step q leader now s)
unfolding lead_step
lead_open C p q leader now s old = at_put (OnlyBy C) s.partitions q p _ (new_partition 0)
    (λ same. at_moved (OnlyBy C) leader now (partition_at q s.partitions) (here same) (here same)) old
  where
    here : p ≡ q → OnlyBy C (partition_at q s.partitions)
    here same = subst (λ (n : ℕ). OnlyBy C (partition_at n s.partitions)) same old

close_open : (C : Type 0) (p : ℕ) (s : Core) → OnlyAt C p s → OnlyAt C p (close_step s)
close_open C p s old = at_close (λ (t : Core). OnlyAt C p t) s old old

flush_open : (C : Type 0) (p : ℕ) (s : Core) → OnlyAt C p s → OnlyAt C p (flush_step s)
unfolding flush_step
flush_open C p s old = mapped_open C mark p s old old

-- ---- a tick fences by a late open batch

heeds : (C : Type 0) (c : Config) (now : ℕ) (t : Partition) → (list_any (is_open_late c now) t.open_batches ≡ true → C) → OnlyBy C t
    → OnlyBy C (heed_deadlines c now t).after
heeds C c now t late old = at_heed (λ (x : Effect). OnlyBy C x.after) c now t (λ is e. late is) old

tick_fences : (C : Type 0) (p node now : ℕ) (s : Core) → (IsLate s now p → C) → OnlyAt C p s → OnlyAt C p (tick_step node now s).after
unfolding at_each with_partitions drop_requests
tick_fences C p node now s late old = at_tick (λ (x : Ticks). OnlyAt C p x.after) node now s (record {
  ended = old;
  timed_out = mapped_open C heeded p (drop_requests node now s)
      (at_mapped (λ (t : Partition). OnlyBy C (heeded t)) (drop_led node now) s.partitions p (new_partition 0)
      (at_led (λ (t : Partition). OnlyBy C (heeded t)) node now (partition_at p s.partitions) dropped passed) passed)
      (mapped_open C (drop_led node now) p s (led_open C node now (partition_at p s.partitions) old) old);
  on_time = mapped_open C heeded p s passed old;
})
  where
    heeded : Partition → Partition
    heeded t = (heed_deadlines s.config now t).after

    passed : OnlyBy C (heeded (partition_at p s.partitions))
    passed = heeds C s.config now (partition_at p s.partitions) late old

    dropped : OnlyBy C (heeded (drop_attempts now (partition_at p s.partitions)))
    dropped = heeds C s.config now (drop_attempts now (partition_at p s.partitions))
        (λ is. late (sym (list_any_mapped (is_open_late s.config now) (drop_attempt now) (is_open_late s.config now) (λ o. refl)
        (partition_at p s.partitions).open_batches) ∙ is)) old

-- ---- a response fences by a rejection

settled_by : (C : Type 0) (now k : ℕ) (t : Partition) (o : Open) (a : PartitionProduceResponse) (v : Meaning) → (v ≡ Reject → C) → OnlyBy C t
    → OnlyBy C (settle_by now k t o a v).after
settled_by C now k t o a Stored rejects old = old
settled_by C now k t o a Duplicate rejects old = old
settled_by C now k t o a Retry rejects old = old
settled_by C now k t o a Reject rejects old = λ e. rejects refl

response_fences : (C : Type 0) (p now : ℕ) (response : Response) (s : Core) → (RejectsIn s response p → C) → OnlyAt C p s
    → OnlyAt C p (response_step now response s).after
unfolding at_these with_partitions
response_fences C p now response s rejects old = at_response (λ (x : Replies). OnlyAt C p x.after) now response s (record {
  same = λ answer. old;
  batches = λ r ps produce it demand is fits. at_changed (OnlyBy C) ps _ s.partitions p (λ l in_it. settled r ps produce it is fits) (λ beside. old);
  id = λ r q x it demand is fits. at_id (OnlyAt C p) now q x s (record {
    wanted = λ given. at_put (OnlyBy C) s.partitions q p _ (new_partition 0)
        (λ same. subst (λ (n : ℕ). OnlyBy C (partition_at n s.partitions)) same old) old;
    unwanted = old;
    refused = old;
  });
})
  where
    settled : (r : Request) (ps : List ℕ) (produce : ProduceResponse) → awaited response.correlation s ≡ Some r
        → response.body ≡ body.Produce produce → answers_batches r.correlation ps s produce ≡ true
        → OnlyBy C (by_entries now r.correlation (partition_at p s.partitions) (entries_for p produce)).after
    settled r ps produce it is fits = at_entries (λ (x : Effect). OnlyBy C x.after) now r.correlation (partition_at p s.partitions) (entries_for p produce) old
        (λ a others e o h. settled_by C now r.correlation (partition_at p s.partitions) o a (meaning_of a.error_code) (λ means. rejects (record {
          batch = o;
          answer = a;
          answered = answered_so s response r ps produce it is fits p a others e o h;
          means = means;
        })) old)

reply_fences : (C : Type 0) (p now : ℕ) (content : List ℕ) (s : Core) → All (λ byte. byte < 2 ^ 8) content
    → ((a : Api) (response : Response) → Spells a content response → RejectsIn s response p → C)
    → OnlyAt C p s → OnlyAt C p (reply_step now content s).after
reply_fences C p now content s bytes rejects old = at_heard (λ (x : Replies). OnlyAt C p x.after) now content s bytes (λ answer. old)
    (λ a response spells. response_fences C p now response s (rejects a response spells) old)

-- ---- any call

reached : (C : Type 0) (p : ℕ) (t u : Core) → t ≡ u → OnlyAt C p u → OnlyAt C p t
reached C p t u same = subst (λ (x : Core). OnlyAt C p x) (sym same)

call_fences : (s t : Core) (c : Call) (p : ℕ) → IsHeld c → Step s c t → OnlyAt (IsFencedBy s c p) p s → OnlyAt (IsFencedBy s c p) p t
unfolding flush_step
call_fences s t (call.Append i (Err append.OutOfMemory)) p bytes step old = reached _ p t s step.1 old
call_fences s t (call.Append i answer) p bytes step old = reached _ p t (append_step i s).after step.1 (append_open _ p i s old)
call_fences s t (call.Request node now (Err fault.OutOfMemory)) p bytes step old = reached _ p t s step.1 old
call_fences s t (call.Request node now answer) p bytes step old = reached _ p t (request_step node now s).after step.1 (request_open _ p node now s old)
call_fences s t (call.Reply now content (Err fault.OutOfMemory)) p bytes step old = reached _ p t s step.1 old
call_fences s t (call.Reply now content answer) p bytes step old = reached _ p t (reply_step now content s).after step.1
    (reply_fences _ p now content s bytes
    (λ a response spells rejects. (Reply now response, (a, response, spells, refl), rejects)) old)
call_fences s t (call.Tick node now answer) p bytes step old = reached _ p t (tick_step node now s).after step.1
    (tick_fences _ p node now s (λ late. (Tick node now, refl, late)) old)
call_fences s t (call.Disconnect node now) p bytes step old = reached _ p t (disconnect_step node now s) step (disconnect_open _ p node now s old)
call_fences s t (call.Lead q leader now) p bytes step old = reached _ p t (lead_step q leader now s) step (lead_open _ p q leader now s old)
call_fences s t call.Close p bytes step old = reached _ p t (close_step s) step (close_open _ p s old)
call_fences s t call.Flush p bytes step old = reached _ p t (flush_step s) step (flush_open _ p s old)
call_fences s t (call.End reports) p bytes step old = reached _ p t (end_step s).after step.1 (end_open _ p s old)
call_fences s t (call.Fetch sender answer) p bytes step old = reached _ p t (fetch_step sender s).after step.1 old

pub fenced_by : (s t : Core) (c : Call) (p : ℕ) → IsHeld c → Step s c t → (partition_at p s.partitions).fenced ≡ false
    → (partition_at p t.partitions).fenced ≡ true → IsFencedBy s c p
fenced_by s t c p bytes step e = call_fences s t c p bytes step (open_still (IsFencedBy s c p) (partition_at p s.partitions) e)
