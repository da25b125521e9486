-- What holds of each case of a call on the core, or of a rule that it follows, holds of the call or the rule.
use Rattle.std.proofs.Common.{◌≡◌, ℕ, Bool, true, false, not, [], ◌∷◌, Some, None, refl}
use Rattle.std.specs.Prelude.{List, ℤ, Option, Result, Err, Ok, filter, nat_abs, if◌then◌else◌}
use Rattle.std.specs.List.{list_any}
use Rattle.kp_wire.specs.Fields.{int32}
use Rattle.kp_wire.specs.Reading.{Read}
use Rattle.kp_accum.specs.declared.config.Config.{Config}
use Rattle.kp_accum.specs.declared.fault.AppendFault.TheVariants.{BufferFull}
use Rattle.kp_accum.specs.declared.item.Item.{Item}
use Rattle.kp_frames.specs.declared.api.Api.{Api}
use Rattle.kp_frames.specs.declared.fault.FrameFault.{FrameFault}
use Rattle.kp_frames.specs.declared.fault.FrameFault.TheVariants.{Short, Mismatch}
use Rattle.kp_frames.specs.Response.{response_at}
use Rattle.kp_frames.specs.declared.producer_id.InitProducerIdResponse.{InitProducerIdResponse}
use Rattle.kp_frames.specs.declared.produce.PartitionProduceResponse.{PartitionProduceResponse}
use Rattle.kp_frames.specs.declared.produce.ProduceResponse.{ProduceResponse}
use Rattle.kp_frames.specs.declared.response.Response.{Response}
use Rattle.kp_frames.specs.declared.response.ResponseBody.{ResponseBody}
use Rattle.kp_frames.specs.declared.response.ResponseBody.TheVariants as body
use Rattle.kp_rules.specs.declared.fault.CoreFault.{CoreFault}
use Rattle.kp_rules.specs.declared.fault.CoreFault.TheVariants as fault
use Rattle.kp_rules.specs.declared.outcome.Reason.TheVariants as reason
use Rattle.kp_rules.specs.declared.ticked.Replied.{Replied}
use Rattle.kp_rules.specs.Records.{Open, Partition, Demand, Produce, InitProducerId, Request, Core, Effect, Called, quietly}
use Rattle.kp_rules.specs.Partitions.{partition_at, with_partition, leads}
use Rattle.kp_rules.specs.Appending.{Appends, turn_away, with_queued, may_append, would_exhaust, append_step}
use Rattle.kp_rules.specs.Closing.{close_step, end_all, end_step}
use Rattle.kp_rules.specs.Dropping.{drop_attempts, drop_led, drop_requests, disconnect_step}
use Rattle.kp_rules.specs.Attempts.{asks_for_id, awaiting}
use Rattle.kp_rules.specs.Fence.{fence}
use Rattle.kp_rules.specs.Leading.{moved_to, led_by}
use Rattle.kp_rules.specs.MaySend.{wants_id}
use Rattle.kp_rules.specs.Settling.{meaning_of, settle_by, left_alone, settle_batch}
use Rattle.kp_rules.specs.Mismatch.{answers_batches, is_given, answers_id}
use Rattle.kp_rules.specs.Next.{Sending, next_demand}
use Rattle.kp_rules.specs.Replies.{Replies, api_of, awaited, settle_batches, go_on_under, give_id, settle_id, refuse_as, unknown, known, settle, reply_step, response_step}
use Rattle.kp_rules.specs.Requesting.{Requested, is_spent, go_out, request_step}
use Rattle.kp_rules.specs.Tick.{Ticks, is_open_late, expire_front, heed_deadlines, has_timed_out, tick_partitions, tick_step}

-- ---- an append

pub record OfAppend {ℓ} (P : Appends → Type ℓ) (i : Item) (s : Core) : Type ℓ where
  pub outside : P (quietly s (Err BufferFull))
  pub past_end : may_append i s ≡ true → s.ended ≡ true → P (turn_away reason.Ended i s)
  pub by_fence : may_append i s ≡ true → s.ended ≡ false → (partition_at i.partition s.partitions).fenced ≡ true → P (turn_away reason.Fenced i s)
  pub full : P (quietly (record s { exhausted = true }) (Err BufferFull))
  pub room : may_append i s ≡ true → s.ended ≡ false → (partition_at i.partition s.partitions).fenced ≡ false → would_exhaust i s ≡ false → P (quietly (with_queued i s) (Ok tt))

abbrev by_room : Item → Core → Bool → Appends
by_room i s b = if b then quietly (record s { exhausted = true }) (Err BufferFull) else quietly (with_queued i s) (Ok tt)

abbrev by_fence : Item → Core → Bool → Appends
by_fence i s b = if b then turn_away reason.Fenced i s else by_room i s (would_exhaust i s)

abbrev by_end : Item → Core → Bool → Appends
by_end i s b = if b then turn_away reason.Ended i s else by_fence i s (partition_at i.partition s.partitions).fenced

pub at_append {ℓ} : (P : Appends → Type ℓ) (i : Item) (s : Core) → OfAppend P i s → P (append_step i s)
unfolding append_step
at_append P i s c = at_may (may_append i s) refl
  where
    at_room : may_append i s ≡ true → s.ended ≡ false → (partition_at i.partition s.partitions).fenced ≡ false → (b : Bool) → would_exhaust i s ≡ b → P (by_room i s b)
    at_room m e f true is = c.full
    at_room m e f false is = c.room m e f is

    at_fence : may_append i s ≡ true → s.ended ≡ false → (b : Bool) → (partition_at i.partition s.partitions).fenced ≡ b → P (by_fence i s b)
    at_fence m e true is = c.by_fence m e is
    at_fence m e false is = at_room m e is (would_exhaust i s) refl

    at_end : may_append i s ≡ true → (b : Bool) → s.ended ≡ b → P (by_end i s b)
    at_end m true is = c.past_end m is
    at_end m false is = at_fence m is (partition_at i.partition s.partitions).fenced refl

    at_may : (b : Bool) → may_append i s ≡ b → P (if not b then quietly s (Err BufferFull) else by_end i s s.ended)
    at_may false is = c.outside
    at_may true is = at_end is s.ended refl

-- ---- a request

pub record OfRequest {ℓ} (P : Requested → Type ℓ) (node now : ℕ) (s : Core) : Type ℓ where
  pub ended : P (quietly s (Err fault.Ended))
  pub idle : P (quietly s (Ok None))
  pub spent : P (quietly s (Err fault.CorrelationSpent))
  pub out : s.ended ≡ false → (d : Demand Sending) → next_demand node now s ≡ Some d → is_spent s ≡ false → P (go_out node now s d)

abbrev by_spent : ℕ → ℕ → Core → Demand Sending → Bool → Requested
by_spent node now s d b = if b then quietly s (Err fault.CorrelationSpent) else go_out node now s d

abbrev by_demand : ℕ → ℕ → Core → Option (Demand Sending) → Requested
by_demand node now s o = elim o [ None ↦ quietly s (Ok None) | Some d ↦ by_spent node now s d (is_spent s) ]

pub at_request {ℓ} : (P : Requested → Type ℓ) (node now : ℕ) (s : Core) → OfRequest P node now s → P (request_step node now s)
unfolding request_step
at_request P node now s c = at_end s.ended refl
  where
    at_spent : s.ended ≡ false → (d : Demand Sending) → next_demand node now s ≡ Some d → (b : Bool) → is_spent s ≡ b → P (by_spent node now s d b)
    at_spent e d is true at = c.spent
    at_spent e d is false at = c.out e d is at

    at_demand : s.ended ≡ false → (o : Option (Demand Sending)) → next_demand node now s ≡ o → P (by_demand node now s o)
    at_demand e None is = c.idle
    at_demand e (Some d) is = at_spent e d is (is_spent s) refl

    at_end : (b : Bool) → s.ended ≡ b → P (if b then quietly s (Err fault.Ended) else by_demand node now s (next_demand node now s))
    at_end true is = c.ended
    at_end false is = at_demand is (next_demand node now s) refl

-- ---- a response's entries for a partition

abbrev pub by_attempt : ℕ → ℕ → Partition → PartitionProduceResponse → Option Open → Effect
by_attempt now k t a o = elim o [ None ↦ left_alone t | Some o ↦ settle_by now k t o a (meaning_of a.error_code) ]

abbrev pub by_entries : ℕ → ℕ → Partition → List PartitionProduceResponse → Effect
by_entries now k t xs = elim xs [ [] ↦ left_alone t | entry ∷ others ↦ settle_batch now k t entry ]

-- Nothing changes, or the first settles the batch that awaits it.
pub at_entries {ℓ} : (P : Effect → Type ℓ) (now k : ℕ) (t : Partition) (xs : List PartitionProduceResponse) → P (left_alone t)
    → ((a : PartitionProduceResponse) (others : List PartitionProduceResponse) → xs ≡ a ∷ others
    → (o : Open) → awaiting k t ≡ Some o → P (settle_by now k t o a (meaning_of a.error_code)))
    → P (by_entries now k t xs)
unfolding settle_batch
at_entries P now k t xs alone settled = at_list xs refl
  where
    at_option : (a : PartitionProduceResponse) (others : List PartitionProduceResponse) → xs ≡ a ∷ others
        → (o : Option Open) → awaiting k t ≡ o → P (by_attempt now k t a o)
    at_option a others e None is = alone
    at_option a others e (Some o) is = settled a others e o is

    at_list : (ys : List PartitionProduceResponse) → xs ≡ ys → P (by_entries now k t ys)
    at_list [] e = alone
    at_list (a ∷ others) e = at_option a others e (awaiting k t) refl

-- ---- a response to the request for an id

abbrev pub idle : Core → Core
idle s = record s { requests = filter (λ r. not (asks_for_id r)) s.requests }

pub record OfId {ℓ} (P : Core → Type ℓ) (now p : ℕ) (x : InitProducerIdResponse) (s : Core) : Type ℓ where
  pub wanted : is_given x ≡ true → P (with_partition p (go_on_under (nat_abs x.producer_id) (partition_at p s.partitions)) (idle s))
  pub unwanted : P (idle s)
  pub refused : P (record (idle s) { id_waits = Some now })

pub at_id {ℓ} : (P : Core → Type ℓ) (now p : ℕ) (x : InitProducerIdResponse) (s : Core) → OfId P now p x s → P (settle_id now p x s)
at_id P now p x s c = at_given (is_given x) refl
  where
    at_wish : is_given x ≡ true → (b : Bool)
        → P (if b then with_partition p (go_on_under (nat_abs x.producer_id) (partition_at p s.partitions)) (idle s) else idle s)
    at_wish is true = c.wanted is
    at_wish is false = c.unwanted

    at_given : (b : Bool) → is_given x ≡ b → P (if b then give_id (nat_abs x.producer_id) p (idle s) else record (idle s) { id_waits = Some now })
    at_given true is = at_wish is (wants_id s.config (partition_at p s.partitions))
    at_given false is = c.refused

-- ---- a response

-- Nothing changes, a request's batches are settled, or the request for an id is.
pub record OfResponse {ℓ} (P : Replies → Type ℓ) (now : ℕ) (response : Response) (s : Core) : Type ℓ where
  pub same : (answer : Result Replied CoreFault) → P (quietly s answer)
  pub batches : (r : Request) (ps : List ℕ) (produce : ProduceResponse)
      → awaited response.correlation s ≡ Some r → r.demand ≡ Produce ps → response.body ≡ body.Produce produce
      → answers_batches r.correlation ps s produce ≡ true
      → P (known (settle_batches now r.correlation ps produce s))
  pub id : (r : Request) (p : ℕ) (x : InitProducerIdResponse)
      → awaited response.correlation s ≡ Some r → r.demand ≡ InitProducerId p → response.body ≡ body.InitProducerId x
      → answers_id x ≡ true
      → P (known (quietly (settle_id now p x s) 0))

abbrev by_request : ℕ → Core → ResponseBody → Option Request → Replies
by_request now s x o = elim o [ None ↦ unknown s | Some r ↦ settle now s r.correlation r.demand x ]

-- Each case may stand on it that the core has not ended.
pub at_response_going {ℓ} : (P : Replies → Type ℓ) (now : ℕ) (response : Response) (s : Core) → P (refuse_as fault.Ended s) → (s.ended ≡ false → OfResponse P now response s) → P (response_step now response s)
unfolding response_step
at_response_going P now response s past c = at_end s.ended refl
  where
    mismatch : s.ended ≡ false → P (refuse_as (fault.ReplyFault Mismatch) s)
    mismatch e = (c e).same (Err (fault.ReplyFault Mismatch))

    at_batches : s.ended ≡ false → (r : Request) (ps : List ℕ) (x : ProduceResponse) → awaited response.correlation s ≡ Some r → r.demand ≡ Produce ps → response.body ≡ body.Produce x
        → (b : Bool) → answers_batches r.correlation ps s x ≡ b
        → P (if b then known (settle_batches now r.correlation ps x s) else refuse_as (fault.ReplyFault Mismatch) s)
    at_batches e r ps x is d h true v = (c e).batches r ps x is d h v
    at_batches e r ps x is d h false v = mismatch e

    at_id : s.ended ≡ false → (r : Request) (p : ℕ) (x : InitProducerIdResponse) → awaited response.correlation s ≡ Some r → r.demand ≡ InitProducerId p → response.body ≡ body.InitProducerId x
        → (b : Bool) → answers_id x ≡ b
        → P (if b then known (quietly (settle_id now p x s) 0) else refuse_as (fault.ReplyFault Mismatch) s)
    at_id e r p x is d h true v = (c e).id r p x is d h v
    at_id e r p x is d h false v = mismatch e

    at_body : s.ended ≡ false → (r : Request) → awaited response.correlation s ≡ Some r → (d : Demand ℕ) → r.demand ≡ d → (x : ResponseBody) → response.body ≡ x → P (settle now s r.correlation d x)
    at_body e r is (Produce ps) d (body.Produce x) h = at_batches e r ps x is d h (answers_batches r.correlation ps s x) refl
    at_body e r is (InitProducerId p) d (body.InitProducerId x) h = at_id e r p x is d h (answers_id x) refl
    at_body e r is (Produce ps) d (body.Metadata x) h = mismatch e
    at_body e r is (Produce ps) d (body.InitProducerId x) h = mismatch e
    at_body e r is (InitProducerId p) d (body.Produce x) h = mismatch e
    at_body e r is (InitProducerId p) d (body.Metadata x) h = mismatch e

    at_request : s.ended ≡ false → (o : Option Request) → awaited response.correlation s ≡ o → P (by_request now s response.body o)
    at_request e None is = (c e).same _
    at_request e (Some r) is = at_body e r is r.demand refl response.body refl

    at_end : (b : Bool) → s.ended ≡ b → P (if b then refuse_as fault.Ended s else by_request now s response.body (awaited response.correlation s))
    at_end true is = past
    at_end false is = at_request is (awaited response.correlation s) refl

pub at_response {ℓ} : (P : Replies → Type ℓ) (now : ℕ) (response : Response) (s : Core) → OfResponse P now response s → P (response_step now response s)
at_response P now response s c =
    at_response_going P now response s (c.same (Err fault.Ended)) (λ going. c)

-- ---- a reply, as bytes

abbrev pub reading : ℕ → Core → Result Response FrameFault → Replies
reading now s read = elim read [ Err e ↦ refuse_as (fault.ReplyFault e) s | Ok response ↦ response_step now response s ]

abbrev pub naming : ℕ → List ℕ → Core → Option Request → Replies
naming now content s named = elim named [ None ↦ unknown s | Some r ↦ reading now s (response_at (api_of r.demand) content) ]

abbrev pub hearing : ℕ → List ℕ → Core → Read ℤ → Replies
hearing now content s read = elim read [ Err e ↦ refuse_as (fault.ReplyFault Short) s | Ok x ↦ naming now content s (awaited x.0 s) ]

-- Nothing changes, or it is the response that its bytes are read as.
pub at_reply {ℓ} : (P : Replies → Type ℓ) (now : ℕ) (content : List ℕ) (s : Core) → ((answer : Result Replied CoreFault) → P (quietly s answer))
    → ((a : Api) (x : Response) → response_at a content ≡ Ok x → P (response_step now x s)) → P (reply_step now content s)
unfolding reply_step
at_reply P now content s same reads = at_end s.ended
  where
    at_read : (a : Api) (o : Result Response FrameFault) → response_at a content ≡ o → P (reading now s o)
    at_read a (Err f) e = same _
    at_read a (Ok x) e = reads a x e

    at_named : (o : Option Request) → P (naming now content s o)
    at_named None = same _
    at_named (Some r) = at_read (api_of r.demand) (response_at (api_of r.demand) content) refl

    at_content : (o : Read ℤ) → P (hearing now content s o)
    at_content (Err f) = same _
    at_content (Ok x) = at_named (awaited x.0 s)

    at_end : (b : Bool) → P (if b then refuse_as fault.Ended s else hearing now content s (int32.read content))
    at_end true = same _
    at_end false = at_content (int32.read content)

-- ---- a tick

pub record OfTick {ℓ} (P : Ticks → Type ℓ) (node now : ℕ) (s : Core) : Type ℓ where
  pub ended : P (quietly s (record { reports = 0; reconnect = false }))
  pub timed_out : P (tick_partitions heed_deadlines now true (drop_requests node now s))
  pub on_time : P (tick_partitions heed_deadlines now false s)

abbrev by_time : ℕ → ℕ → Core → Bool → Ticks
by_time node now s b = if b then tick_partitions heed_deadlines now true (drop_requests node now s) else tick_partitions heed_deadlines now false s

pub at_tick {ℓ} : (P : Ticks → Type ℓ) (node now : ℕ) (s : Core) → OfTick P node now s → P (tick_step node now s)
unfolding tick_step
at_tick P node now s c = at_end s.ended
  where
    at_time : (b : Bool) → P (by_time node now s b)
    at_time true = c.timed_out
    at_time false = c.on_time

    at_end : (b : Bool) → P (if b then quietly s (record { reports = 0; reconnect = false }) else by_time node now s (has_timed_out node now s))
    at_end true = c.ended
    at_end false = at_time (has_timed_out node now s)

-- a partition's deadlines
pub at_heed {ℓ} : (P : Effect → Type ℓ) (c : Config) (now : ℕ) (t : Partition) → (list_any (is_open_late c now) t.open_batches ≡ true → P (fence t))
    → P (expire_front c now t) → P (heed_deadlines c now t)
unfolding heed_deadlines
at_heed P c now t late front = at_test (list_any (is_open_late c now) t.open_batches) refl
  where
    at_test : (b : Bool) → list_any (is_open_late c now) t.open_batches ≡ b → P (if b then fence t else expire_front c now t)
    at_test true is = late is
    at_test false is = front

-- ---- the other calls

pub at_end_step {ℓ} : (P : Called ℕ → Type ℓ) (s : Core) → P (quietly s 0) → P (end_all s) → P (end_step s)
unfolding end_step
at_end_step P s same ends = at_end s.ended
  where
    at_end : (b : Bool) → P (if b then quietly s 0 else end_all s)
    at_end true = same
    at_end false = ends

pub at_disconnect {ℓ} : (P : Core → Type ℓ) (node now : ℕ) (s : Core) → P s → P (drop_requests node now s) → P (disconnect_step node now s)
unfolding disconnect_step
at_disconnect P node now s same drops = at_end s.ended
  where
    at_end : (b : Bool) → P (if b then s else drop_requests node now s)
    at_end true = same
    at_end false = drops

-- those of a partition that the node leads are dropped
pub at_led {ℓ} : (P : Partition → Type ℓ) (node now : ℕ) (t : Partition) → P (drop_attempts now t) → P t → P (drop_led node now t)
at_led P node now t drops same = at_test (leads node t)
  where
    at_test : (b : Bool) → P (if b then drop_attempts now t else t)
    at_test true = drops
    at_test false = same

-- a partition that this node is to lead
pub at_moved {ℓ} : (P : Partition → Type ℓ) (leader now : ℕ) (t : Partition) → P t → P (moved_to leader now t) → P (led_by leader now t)
at_moved P leader now t same moves = at_test (leads leader t)
  where
    at_test : (b : Bool) → P (if b then t else moved_to leader now t)
    at_test true = same
    at_test false = moves

pub at_close {ℓ} : (P : Core → Type ℓ) (s : Core) → P s → P (record s { closing = true }) → P (close_step s)
unfolding close_step
at_close P s same closes = at_end s.ended
  where
    at_end : (b : Bool) → P (if b then s else record s { closing = true })
    at_end true = same
    at_end false = closes
