-- A reply: which request it names, and what it does.
use Rattle.std.specs.Prelude.{◌≡◌, ℕ, ℤ, pos, true, false, not, List, [], ◌∷◌, ◌++◌, filter, find, Option, Some, None, Result, Ok, Err, IsSome, nat_abs, if◌then◌else◌}
use Rattle.std.specs.Ordering.{int_eq}
use Rattle.kp_wire.specs.Fields.{int32}
use Rattle.kp_frames.specs.declared.api.Api.{Api}
use Rattle.kp_frames.specs.declared.api.Api.TheVariants as api
use Rattle.kp_frames.specs.declared.fault.FrameFault.TheVariants.{Short, Mismatch}
use Rattle.kp_frames.specs.declared.produce.ProduceResponse.{ProduceResponse}
use Rattle.kp_frames.specs.declared.producer_id.InitProducerIdResponse.{InitProducerIdResponse}
use Rattle.kp_frames.specs.declared.response.Response.{Response}
use Rattle.kp_frames.specs.declared.response.ResponseBody.{ResponseBody}
use Rattle.kp_frames.specs.declared.response.ResponseBody.TheVariants as body
use Rattle.kp_frames.specs.Response.{response_at}
use Rattle.kp_rules.specs.declared.fault.CoreFault.{CoreFault}
use Rattle.kp_rules.specs.declared.fault.CoreFault.TheVariants.{ReplyFault, Ended}
use Rattle.kp_rules.specs.declared.ticked.Replied.{Replied}
use Rattle.kp_rules.specs.Records.{Partition, Demand, Produce, InitProducerId, Request, Core, Called, quietly}
use Rattle.kp_rules.specs.Partitions.{partition_at, with_partition}
use Rattle.kp_rules.specs.Attempts.{asks_for_id}
use Rattle.kp_rules.specs.MaySend.{wants_id}
use Rattle.kp_rules.specs.Mismatch.{entries_for, answers_batches, is_given, answers_id}
use Rattle.kp_rules.specs.Settling.{left_alone, settle_batch}
use Rattle.kp_rules.specs.Telling.{at_these}

-- ---- which request in flight it is one to: the one that its correlation id names

unfoldable pub awaited : ℤ → Core → Option Request
awaited k s = find (λ r. int_eq (pos r.correlation) k) s.requests

-- ---- a response to request k, for these partitions' batches: each is settled by its entry, in the
-- request's order

abbrev pub settle_batches : ℕ → ℕ → List ℕ → ProduceResponse → Core → Called ℕ
settle_batches now k ps response s =
    at_these ps (λ p t. elim (entries_for p response) [
      | [] ↦ left_alone t
      | entry ∷ others ↦ settle_batch now k t entry
    ]) s

-- ---- a response to the request for an id, for this partition

-- It goes on under this id, from sequence number 0.
abbrev pub go_on_under : ℕ → Partition → Partition
go_on_under id t = record t { ids = t.ids ++ id ∷ []; next_sequence = 0; acknowledged = false }

-- Where the partition no longer wants an id, nobody goes on under this one.
abbrev pub give_id : ℕ → ℕ → Core → Core
give_id id p s =
    let t = partition_at p s.partitions in
    if wants_id s.config t then with_partition p (go_on_under id t) s else s

-- An id that is refused may be asked for again once the backoff is over.
abbrev pub settle_id : ℕ → ℕ → InitProducerIdResponse → Core → Core
settle_id now p response s =
    let idle : Core = record s { requests = filter (λ r. not (asks_for_id r)) s.requests } in
    if is_given response then give_id (nat_abs response.producer_id) p idle
    else record idle { id_waits = Some now }

-- ---- a response

abbrev pub Replies : Type 0
Replies = Called (Result Replied CoreFault)

abbrev pub refuse_as : CoreFault → Core → Replies
refuse_as fault s = quietly s (Err fault)

-- It names no request in flight, and nothing changes.
abbrev pub unknown : Core → Replies
unknown s = quietly s (Ok (record { known = false; reports = 0 }))

abbrev pub known : Called ℕ → Replies
known made = record {
  after = made.after;
  told = made.told;
  answer = Ok (record { known = true; reports = made.answer });
}

-- It is one to the request, and all of it is settled; or nothing of it is.
abbrev pub settle : ℕ → Core → ℕ → Demand ℕ → ResponseBody → Replies
settle now s k (Produce ps) (body.Produce response) =
    if answers_batches k ps s response then known (settle_batches now k ps response s)
    else refuse_as (ReplyFault Mismatch) s
settle now s k (InitProducerId p) (body.InitProducerId response) =
    if answers_id response then known (quietly (settle_id now p response s) 0)
    else refuse_as (ReplyFault Mismatch) s
settle now s k demand response = refuse_as (ReplyFault Mismatch) s

unfoldable pub response_step : ℕ → Response → Core → Replies
response_step now response s =
    if s.ended then refuse_as Ended s
    else elim (awaited response.correlation s) [
      | None ↦ unknown s
      | Some r ↦ settle now s r.correlation r.demand response.body
    ]

-- ---- a reply, as bytes: it is read as a response to the request that its first four bytes name

abbrev pub api_of : Demand ℕ → Api
api_of (Produce ps) = api.Produce
api_of (InitProducerId p) = api.InitProducerId

unfoldable pub reply_step : ℕ → List ℕ → Core → Replies
reply_step now content s =
    if s.ended then refuse_as Ended s
    else elim (int32.read content) [
      | Err fault ↦ refuse_as (ReplyFault Short) s
      | Ok x ↦ elim (awaited x.0 s) [
        | None ↦ unknown s
        | Some r ↦ elim (response_at (api_of r.demand) content) [
          | Err fault ↦ refuse_as (ReplyFault fault) s
          | Ok response ↦ response_step now response s
        ]
      ]
    ]

-- Memory can be wanting only where the reply names a request in flight.
pub record ReplyNeedsMemory (content : List ℕ) (s : Core) : Type 0 where
  pub going : s.ended ≡ false
  pub correlation : ℤ
  pub behind : List ℕ
  pub named : int32.read content ≡ Ok (correlation, behind)
  pub in_flight : IsSome (awaited correlation s)

-- the api as which a reply to it is read, if it is one to a request in flight
abbrev pub IsReadAs : Api → Option Request → Type 0
IsReadAs a None = Unit {0}
IsReadAs a (Some r) = api_of r.demand ≡ a
