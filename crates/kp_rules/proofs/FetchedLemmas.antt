-- What a step tells, answers and leaves otherwise doesn't depend on the reports that are not fetched, and it only puts new ones behind them.
use Rattle.std.proofs.Common.{◌≡◌, ℕ, ◌+◌, Bool, true, false, not, List, [], ◌∷◌, ◌++◌, length, map, Some, None, refl, ap, ◌∙◌, append_assoc}
use Rattle.std.specs.Prelude.{Option, Result, Ok, Err, ℤ, filter, nat_abs, nat_le, nat_lt, slice_index_or, if◌then◌else◌, ◌&&◌}
use Rattle.std.specs.List.{enumerate_from}
use Rattle.std.proofs.lemmas.List.{length-map}
use Rattle.std.proofs.lemmas.List.FromFn.{length-enumerate_from}
use Rattle.kp_wire.specs.Reading.{Read}
use Rattle.kp_wire.specs.Fields.{int32}
use Rattle.kp_accum.specs.declared.fault.AppendFault.TheVariants.{BufferFull}
use Rattle.kp_accum.specs.declared.item.Item.{Item}
use Rattle.kp_accum.specs.Queue.{charge_of}
use Rattle.kp_frames.specs.declared.fault.FrameFault.{FrameFault}
use Rattle.kp_frames.specs.declared.fault.FrameFault.TheVariants.{Mismatch}
use Rattle.kp_frames.specs.declared.producer_id.InitProducerIdResponse.{InitProducerIdResponse}
use Rattle.kp_frames.specs.declared.produce.ProduceResponse.{ProduceResponse}
use Rattle.kp_frames.specs.declared.response.Response.{Response}
use Rattle.kp_frames.specs.declared.response.ResponseBody.{ResponseBody}
use Rattle.kp_frames.specs.declared.response.ResponseBody.TheVariants as body
use Rattle.kp_frames.specs.Response.{response_at}
use Rattle.kp_rules.specs.declared.fault.CoreFault.TheVariants as fault
use Rattle.kp_rules.specs.declared.outcome.Reason.{Reason}
use Rattle.kp_rules.specs.declared.outcome.Reason.TheVariants as reason
use Rattle.kp_rules.specs.declared.outcome.Report.{Report}
use Rattle.kp_rules.specs.Appending.{Appends, turn_away, with_queued, may_append, would_exhaust, append_step}
use Rattle.kp_rules.specs.Attempts.{asks_for_id, has_window}
use Rattle.kp_rules.specs.Closing.{close_step, end_all, end_step}
use Rattle.kp_rules.specs.Dropping.{drop_requests, disconnect_step}
use Rattle.kp_rules.specs.Fetched.{before_each, with_fetched, after_fetched}
use Rattle.kp_rules.specs.Flush.{is_flushed, flush_step}
use Rattle.kp_rules.specs.Leading.{lead_step}
use Rattle.kp_rules.specs.MaySend.{wants_id}
use Rattle.kp_rules.specs.Mismatch.{answers_batches, is_given, answers_id}
use Rattle.kp_rules.specs.Next.{Sending, next_batches, next_demand}
use Rattle.kp_rules.specs.Partitions.{partition_at, with_partition, used}
use Rattle.kp_rules.specs.Records.{Partition, Demand, Produce, InitProducerId, Request, Core, Told, Called, quietly}
use Rattle.kp_rules.specs.Replies.{Replies, awaited, settle_batches, go_on_under, give_id, settle_id, refuse_as, unknown, known, settle, response_step, api_of, reply_step}
use Rattle.kp_rules.specs.Reports.{reports_to, with_reports}
use Rattle.kp_rules.specs.Requesting.{Requested, is_spent, go_out, request_step}
use Rattle.kp_rules.specs.Telling.{with_partitions, at_each, at_these}
use Rattle.kp_rules.specs.Tick.{Ticks, heed_deadlines, has_timed_out, tick_partitions, tick_step}
use Rattle.kp_rules.proofs.CallLemmas.{reading, naming, hearing}

-- ---- reports

abbrev fetched_from : ℕ → List (List Report) → List (List Report) → List (List Report)
fetched_from k r reports = map (λ (x : ℕ × List Report). slice_index_or r x.0 [] ++ x.1) (enumerate_from k reports)

abbrev told_from : ℕ → List Told → List (List Report) → List (List Report)
told_from k told reports = map (λ (x : ℕ × List Report). x.1 ++ reports_to x.0 told) (enumerate_from k reports)

from_place : (k : ℕ) (r : List (List Report)) (told : List Told) (reports : List (List Report))
    → told_from k told (fetched_from k r reports) ≡ fetched_from k r (told_from k told reports)
from_place k r told [] = refl
from_place k r told (x ∷ xs) =
    ap (λ (y : List Report). y ∷ told_from (k + 1) told (fetched_from (k + 1) r xs)) (append_assoc (slice_index_or r k []) x (reports_to k told))
    ∙ ap (λ (ys : List (List Report)). (slice_index_or r k [] ++ (x ++ reports_to k told)) ∷ ys) (from_place (k + 1) r told xs)

told_behind : (r : List (List Report)) (told : List Told) (reports : List (List Report))
    → with_reports told (before_each r reports) ≡ before_each r (with_reports told reports)
unfolding with_reports
told_behind r told reports = from_place 0 r told reports

same_senders : (r reports : List (List Report)) → length (before_each r reports) ≡ length reports
same_senders r reports = length-map (enumerate_from 0 reports) _ ∙ length-enumerate_from 0 reports

partitions_behind : (r : List (List Report)) (ts : List Partition) (told : List Told) (s : Core)
    → with_partitions ts told (with_fetched r s) ≡ after_fetched r (with_partitions ts told s)
unfolding with_partitions
partitions_behind r ts told s =
    ap (λ (reports : List (List Report)). let x : Called ℕ = record (with_partitions ts told s) { after = record (with_partitions ts told s).after { reports = reports } } in x)
    (told_behind r told s.reports)

-- ---- an append

turned_behind : (r : List (List Report)) (why : Reason) (i : Item) (s : Core)
    → turn_away why i (with_fetched r s) ≡ after_fetched r (turn_away why i s)
turned_behind r why i s =
    ap (λ (reports : List (List Report)). let x : Appends = record (turn_away why i s) { after = record s { reports = reports } } in x)
    (told_behind r (turn_away why i s).told s.reports)

abbrev pub append_by : Item → Core → Bool → Bool → Bool → Bool → Appends
append_by i s may ended fenced full =
    if not may then quietly s (Err BufferFull)
    else if ended then turn_away reason.Ended i s
    else if fenced then turn_away reason.Fenced i s
    else if full then quietly (record s { exhausted = true }) (Err BufferFull)
    else quietly (with_queued i s) (Ok tt)

append_by_behind : (r : List (List Report)) (i : Item) (s : Core) (may ended fenced full : Bool)
    → append_by i (with_fetched r s) may ended fenced full ≡ after_fetched r (append_by i s may ended fenced full)
append_by_behind r i s false ended fenced full = refl
append_by_behind r i s true true fenced full = turned_behind r reason.Ended i s
append_by_behind r i s true false true full = turned_behind r reason.Fenced i s
append_by_behind r i s true false false true = refl
append_by_behind r i s true false false false = refl

same_may : (r : List (List Report)) (i : Item) (s : Core) → may_append i (with_fetched r s) ≡ may_append i s
unfolding may_append
same_may r i s =
    ap (λ (n : ℕ). nat_lt i.sender n && nat_lt i.partition (length s.partitions) && nat_le (charge_of i) s.config.max_request_size
    && nat_le (charge_of i) s.config.buffer_memory) (same_senders r s.reports)

pub append_behind : (r : List (List Report)) (i : Item) (s : Core) → append_step i (with_fetched r s) ≡ after_fetched r (append_step i s)
unfolding append_step would_exhaust used
append_behind r i s =
    ap (λ (may : Bool). append_by i (with_fetched r s) may s.ended (partition_at i.partition s.partitions).fenced (would_exhaust i s)) (same_may r i s)
    ∙ append_by_behind r i s (may_append i s) s.ended (partition_at i.partition s.partitions).fenced (would_exhaust i s)

-- ---- a request

out_behind : (r : List (List Report)) (node now : ℕ) (s : Core) (d : Demand Sending) → go_out node now (with_fetched r s) d ≡ after_fetched r (go_out node now s d)
out_behind r node now s (Produce xs) = refl
out_behind r node now s (InitProducerId p) = refl

abbrev pub request_by : ℕ → ℕ → Core → Bool → Option (Demand Sending) → Bool → Requested
request_by node now s ended wanted spent =
    if ended then quietly s (Err fault.Ended)
    else elim wanted [ None ↦ quietly s (Ok None) | Some d ↦ if spent then quietly s (Err fault.CorrelationSpent) else go_out node now s d ]

request_by_behind : (r : List (List Report)) (node now : ℕ) (s : Core) (ended : Bool) (wanted : Option (Demand Sending)) (spent : Bool)
    → request_by node now (with_fetched r s) ended wanted spent ≡ after_fetched r (request_by node now s ended wanted spent)
request_by_behind r node now s true wanted spent = refl
request_by_behind r node now s false None spent = refl
request_by_behind r node now s false (Some d) true = refl
request_by_behind r node now s false (Some d) false = out_behind r node now s d

pub request_behind : (r : List (List Report)) (node now : ℕ) (s : Core) → request_step node now (with_fetched r s) ≡ after_fetched r (request_step node now s)
unfolding request_step next_demand next_batches has_window is_flushed
request_behind r node now s = request_by_behind r node now s s.ended (next_demand node now s) (is_spent s)

-- ---- a response

batches_behind : (r : List (List Report)) (now k : ℕ) (ps : List ℕ) (x : ProduceResponse) (s : Core)
    → settle_batches now k ps x (with_fetched r s) ≡ after_fetched r (settle_batches now k ps x s)
unfolding at_these
batches_behind r now k ps x s = partitions_behind r _ _ s

id_behind : (r : List (List Report)) (now p : ℕ) (x : InitProducerIdResponse) (s : Core)
    → settle_id now p x (with_fetched r s) ≡ with_fetched r (settle_id now p x s)
id_behind r now p x s = by_given (is_given x)
  where
    idle : Core
    idle = record s { requests = filter (λ q. not (asks_for_id q)) s.requests }

    by_wish : (wants : Bool)
        → (if wants then with_partition p (go_on_under (nat_abs x.producer_id) (partition_at p s.partitions)) (with_fetched r idle) else with_fetched r idle)
        ≡ with_fetched r (if wants then with_partition p (go_on_under (nat_abs x.producer_id) (partition_at p s.partitions)) idle else idle)
    by_wish true = refl
    by_wish false = refl

    by_given : (given : Bool)
        → (if given then give_id (nat_abs x.producer_id) p (with_fetched r idle) else record (with_fetched r idle) { id_waits = Some now })
        ≡ with_fetched r (if given then give_id (nat_abs x.producer_id) p idle else record idle { id_waits = Some now })
    by_given true = by_wish (wants_id s.config (partition_at p s.partitions))
    by_given false = refl

settle_behind : (r : List (List Report)) (now k : ℕ) (s : Core) (d : Demand ℕ) (x : ResponseBody)
    → settle now (with_fetched r s) k d x ≡ after_fetched r (settle now s k d x)
unfolding answers_batches
settle_behind r now k s (Produce ps) (body.Produce x) = by_fit (answers_batches k ps s x)
  where
    by_fit : (fits : Bool)
        → (if fits then known (settle_batches now k ps x (with_fetched r s)) else refuse_as (fault.ReplyFault Mismatch) (with_fetched r s))
        ≡ after_fetched r (if fits then known (settle_batches now k ps x s) else refuse_as (fault.ReplyFault Mismatch) s)
    by_fit true = ap known (batches_behind r now k ps x s)
    by_fit false = refl
settle_behind r now k s (InitProducerId p) (body.InitProducerId x) = by_fit (answers_id x)
  where
    by_fit : (fits : Bool)
        → (if fits then known (quietly (settle_id now p x (with_fetched r s)) 0) else refuse_as (fault.ReplyFault Mismatch) (with_fetched r s))
        ≡ after_fetched r (if fits then known (quietly (settle_id now p x s) 0) else refuse_as (fault.ReplyFault Mismatch) s)
    by_fit true = ap (λ (t : Core). known (quietly t 0)) (id_behind r now p x s)
    by_fit false = refl
settle_behind r now k s (Produce ps) (body.Metadata x) = refl
settle_behind r now k s (Produce ps) (body.InitProducerId x) = refl
settle_behind r now k s (InitProducerId p) (body.Produce x) = refl
settle_behind r now k s (InitProducerId p) (body.Metadata x) = refl

abbrev pub response_by : ℕ → Core → ResponseBody → Bool → Option Request → Replies
response_by now s x ended named =
    if ended then refuse_as fault.Ended s else elim named [ None ↦ unknown s | Some q ↦ settle now s q.correlation q.demand x ]

response_by_behind : (r : List (List Report)) (now : ℕ) (s : Core) (x : ResponseBody) (ended : Bool) (named : Option Request)
    → response_by now (with_fetched r s) x ended named ≡ after_fetched r (response_by now s x ended named)
response_by_behind r now s x true named = refl
response_by_behind r now s x false None = refl
response_by_behind r now s x false (Some q) = settle_behind r now q.correlation s q.demand x

pub response_behind : (r : List (List Report)) (now : ℕ) (response : Response) (s : Core)
    → response_step now response (with_fetched r s) ≡ after_fetched r (response_step now response s)
unfolding response_step awaited
response_behind r now response s = response_by_behind r now s response.body s.ended (awaited response.correlation s)

-- ---- a reply

reading_behind : (r : List (List Report)) (now : ℕ) (s : Core) (read : Result Response FrameFault)
    → reading now (with_fetched r s) read ≡ after_fetched r (reading now s read)
reading_behind r now s (Err e) = refl
reading_behind r now s (Ok response) = response_behind r now response s

naming_behind : (r : List (List Report)) (now : ℕ) (content : List ℕ) (s : Core) (named : Option Request)
    → naming now content (with_fetched r s) named ≡ after_fetched r (naming now content s named)
naming_behind r now content s None = refl
naming_behind r now content s (Some q) = reading_behind r now s (response_at (api_of q.demand) content)

hearing_behind : (r : List (List Report)) (now : ℕ) (content : List ℕ) (s : Core) (read : Read ℤ)
    → hearing now content (with_fetched r s) read ≡ after_fetched r (hearing now content s read)
unfolding awaited
hearing_behind r now content s (Err e) = refl
hearing_behind r now content s (Ok x) = naming_behind r now content s (awaited x.0 s)

pub reply_behind : (r : List (List Report)) (now : ℕ) (content : List ℕ) (s : Core)
    → reply_step now content (with_fetched r s) ≡ after_fetched r (reply_step now content s)
unfolding reply_step
reply_behind r now content s = by_end s.ended
  where
    by_end : (b : Bool) → (if b then refuse_as fault.Ended (with_fetched r s) else hearing now content (with_fetched r s) (int32.read content))
        ≡ after_fetched r (if b then refuse_as fault.Ended s else hearing now content s (int32.read content))
    by_end true = refl
    by_end false = hearing_behind r now content s (int32.read content)

-- ---- a tick

ticks_behind : (r : List (List Report)) (now : ℕ) (reconnect : Bool) (s : Core)
    → tick_partitions heed_deadlines now reconnect (with_fetched r s) ≡ after_fetched r (tick_partitions heed_deadlines now reconnect s)
unfolding at_each
ticks_behind r now reconnect s =
    ap (λ (made : Called ℕ). let x : Ticks = record { after = made.after; told = made.told; answer = record { reports = made.answer; reconnect = reconnect } } in x)
    (partitions_behind r _ _ s)

abbrev pub tick_by_cases : ℕ → ℕ → Core → Bool → Bool → Ticks
tick_by_cases node now s ended over =
    if ended then quietly s (record { reports = 0; reconnect = false })
    else if over then tick_partitions heed_deadlines now true (drop_requests node now s)
    else tick_partitions heed_deadlines now false s

tick_cases_behind : (r : List (List Report)) (node now : ℕ) (s : Core) (ended over : Bool)
    → tick_by_cases node now (with_fetched r s) ended over ≡ after_fetched r (tick_by_cases node now s ended over)
unfolding drop_requests
tick_cases_behind r node now s true over = refl
tick_cases_behind r node now s false true = ticks_behind r now true (drop_requests node now s)
tick_cases_behind r node now s false false = ticks_behind r now false s

pub tick_behind : (r : List (List Report)) (node now : ℕ) (s : Core) → tick_step node now (with_fetched r s) ≡ after_fetched r (tick_step node now s)
unfolding tick_step has_timed_out
tick_behind r node now s = tick_cases_behind r node now s s.ended (has_timed_out node now s)

-- ---- the other calls

pub end_behind : (r : List (List Report)) (s : Core) → end_step (with_fetched r s) ≡ after_fetched r (end_step s)
unfolding end_step at_each
end_behind r s = by_end s.ended
  where
    by_end : (b : Bool)
        → (if b then quietly (with_fetched r s) 0 else end_all (with_fetched r s)) ≡ after_fetched r (if b then quietly s 0 else end_all s)
    by_end true = refl
    by_end false = ap (λ (made : Called ℕ). let x : Called ℕ = record made { after = record made.after { requests = []; ended = true } } in x)
        (partitions_behind r _ _ s)

pub disconnect_behind : (r : List (List Report)) (node now : ℕ) (s : Core)
    → disconnect_step node now (with_fetched r s) ≡ with_fetched r (disconnect_step node now s)
unfolding disconnect_step drop_requests
disconnect_behind r node now s = by_end s.ended
  where
    by_end : (b : Bool)
        → (if b then with_fetched r s else drop_requests node now (with_fetched r s)) ≡ with_fetched r (if b then s else drop_requests node now s)
    by_end true = refl
    by_end false = refl

pub lead_behind : (r : List (List Report)) (p leader now : ℕ) (s : Core)
    → lead_step p leader now (with_fetched r s) ≡ with_fetched r (lead_step p leader now s)
unfolding lead_step
lead_behind r p leader now s = refl

pub close_behind : (r : List (List Report)) (s : Core) → close_step (with_fetched r s) ≡ with_fetched r (close_step s)
unfolding close_step
close_behind r s = by_end s.ended
  where
    by_end : (b : Bool)
        → (if b then with_fetched r s else record (with_fetched r s) { closing = true }) ≡ with_fetched r (if b then s else record s { closing = true })
    by_end true = refl
    by_end false = refl

pub flush_behind : (r : List (List Report)) (s : Core) → flush_step (with_fetched r s) ≡ with_fetched r (flush_step s)
unfolding flush_step
flush_behind r s = refl
