-- What is assumed of the brokers, of the network, and of who feeds the core.
use Rattle.std.specs.Prelude.{◌≡◌, ◌⊎◌, ℕ, ◌<◌, true, List, [], length, pos, Some, Ok, Contains, slice_get, slice_index, slice_index_or}
use Rattle.std.specs.List.{AllByRecursion}
use Rattle.kp_accum.specs.declared.item.Item.{Item}
use Rattle.kp_frames.specs.declared.api.Api.TheVariants as api
use Rattle.kp_frames.specs.declared.produce.PartitionProduceResponse.{PartitionProduceResponse}
use Rattle.kp_frames.specs.declared.produce.ProduceResponse.{ProduceResponse}
use Rattle.kp_frames.specs.declared.response.Response.{Response}
use Rattle.kp_frames.specs.declared.response.ResponseBody.TheVariants as body
use Rattle.kp_frames.specs.Response.{Spells}
use Rattle.kp_log.specs.BrokerStep.{Answered, BrokerStep}
use Rattle.kp_rules.specs.Calls as call
use Rattle.kp_rules.specs.Mismatch.{entries_of}
use Rattle.kp_rules.specs.Next.{Sending}
use Rattle.kp_rules.specs.Records.{Produce}
use Rattle.kp_rules.specs.Requesting.{Packet}
use Rattle.kp_world.specs.Delivering.{log_at, IdDelivers, AreOthers}
use Rattle.kp_world.specs.Message.{sent_of}
use Rattle.kp_world.specs.World.{Reply}
use Rattle.kp_headline.specs.Moves.{Move, Calling, Meeting, Drawing, Others, Throughout}
use Rattle.kp_headline.specs.Outside.{Said, Outside, State}

-- ---- the brokers

-- A log to which a part of a packet comes does what any honest broker may do, and says what it did.
abbrev pub IsHonest : State → Move → Type 0
IsHonest a (Meeting k x answer log) =
    BrokerStep (log_at x.partition a.outside.logs) (sent_of x.batch) answer log
IsHonest a m = Unit {0}

-- ---- the network

-- The entry says what was said to a part of packet k.
pub record Repeats (all_said : List Said) (k : ℕ) (entry : PartitionProduceResponse) : Type 0 where
  pub part : Sending
  pub answer : Answered
  pub said : Contains all_said (record { packet = k; part = part; answer = answer })
  pub partition : entry.partition ≡ pos part.partition
  pub code : entry.error_code ≡ answer.code
  pub base : entry.base_offset ≡ answer.base

-- The bytes are a response to a packet with batches that went out, and each of its entries says what was said to a part
-- of this packet. Entries may stand in any order and be left out, and all else in it may be anything.
pub record IsReply (a : State) (content : List ℕ) : Type 0 where
  pub number : ℕ
  pub packet : Packet
  pub went_out : slice_get a.outside.packets number ≡ Some packet
  pub parts : List Sending
  pub demand : packet.demand ≡ Produce parts
  pub response : Response
  pub named : response.correlation ≡ pos packet.correlation
  pub produce : ProduceResponse
  pub is_produce : response.body ≡ body.Produce produce
  pub entries : AllByRecursion (Repeats a.outside.said number) (entries_of produce)
  pub spells : Spells api.Produce content response

-- The bytes are a reply that was given to a request for an id.
pub record IsIdReply (a : State) (content : List ℕ) : Type 0 where
  pub reply : Reply
  pub given : Contains a.outside.answered reply
  pub spells : Spells api.InitProducerId content reply.response

-- What the core knew as a reply is put together from what was said. Bytes that it refuses or does not know may be
-- anything.
abbrev pub IsNotMadeUp : State → Move → Type 0
IsNotMadeUp a (Calling (call.Reply now content (Ok replied)) t) =
    replied.known ≡ true → IsReply a content ⊎ IsIdReply a content
IsNotMadeUp a m = Unit {0}

-- ---- who feeds the core

-- The item is its sender's oldest that was accepted and not yet appended.
pub record IsNext (o : Outside) (i : Item) : Type 0 where
  pub sender : i.sender < length o.accepted
  pub oldest : slice_get (slice_index_or o.accepted i.sender []) (slice_index o.taken i.sender) ≡ Some i

abbrev pub IsInTurn : State → Move → Type 0
IsInTurn a (Calling (call.Append i answer) t) = IsNext a.outside i
IsInTurn a m = Unit {0}

-- ---- producer ids

-- A fresh id is drawn or none, and answered is this id or an error; nobody else's records are under an id that was
-- drawn for this producer.
abbrev pub KeepsIdsApart : State → Move → Type 0
KeepsIdsApart a (Drawing k ids reply) = IdDelivers a.outside.logs a.outside.ids reply.content ids
KeepsIdsApart a (Others p records) = AreOthers a.outside.ids records
KeepsIdsApart a m = Unit {0}

-- ---- all that is assumed of moves

pub record Assumed (a : State) (ms : List Move) : Type 0 where
  pub honest : Throughout IsHonest a ms
  pub not_made_up : Throughout IsNotMadeUp a ms
  pub in_turn : Throughout IsInTurn a ms
  pub ids_once : Throughout KeepsIdsApart a ms
