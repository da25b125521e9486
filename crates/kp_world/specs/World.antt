-- A world: a producer's core with its senders, the packets and replies that ever travelled, the
-- partitions' logs, and what happened so far.
use Rattle.std.specs.Prelude.{ℕ, Bool, true, false, List, [], ◌∷◌, ℤ, replicate, codes}
use Rattle.kp_accum.specs.declared.config.Config.{Config}
use Rattle.kp_accum.specs.declared.item.Item.{Item}
use Rattle.kp_frames.specs.declared.response.Response.{Response}
use Rattle.kp_log.specs.BrokerStep.{Answered}
use Rattle.kp_log.specs.History.{History, empty_history}
use Rattle.kp_rules.specs.declared.names.Names.{Names}
use Rattle.kp_rules.specs.Auditing.{opened}
use Rattle.kp_rules.specs.Opening.{new_core}
use Rattle.kp_rules.specs.Records.{HandedBatch, Core, Told}
use Rattle.kp_rules.specs.Requesting.{Packet}
use Rattle.kp_world.specs.Line.{Line}

-- ---- replies

-- what was answered to a packet's batch of this partition
pub record PartAnswer : Type 0 where
  pub partition : ℕ
  pub answer : Answered

-- what was answered to a packet: by partition in the packet's order, or with an id
pub data ReplyContent : Type 0 where
  Batches : List PartAnswer → ReplyContent
  Id : (code id : ℤ) → ReplyContent

-- A reply: what was answered, to the packet with this correlation id, and the message that says so.
pub record Reply : Type 0 where
  pub correlation : ℕ
  pub content : ReplyContent
  pub response : Response

-- ---- worlds

-- What an event was answered, in a line or none, and what was told in it; and whether it ended a
-- flush.
pub record Happened : Type 0 where
  pub answer : List Line
  pub told : List Told
  pub flushed : Bool

pub record World : Type 0 where
  pub core : Core
  pub accepted : List (List Item)  -- by sender, in order
  pub taken : List ℕ  -- by sender, how many of these were taken and appended
  pub handed : List (List HandedBatch)  -- by partition, all batches that were handed over, in order
  pub packets : List Packet  -- all that ever went out; a packet's number is its place
  pub replies : List Reply  -- all that were ever given; a reply's number is its place
  pub logs : List History  -- by partition
  pub ids : List ℕ  -- all producer ids that were ever drawn
  pub moment : ℕ
  pub is_shut : Bool  -- no record is accepted
  pub past : List Happened  -- event by event

-- ---- the opening world

-- What a world begins with: what a new core may be made of.
pub record Opening : Type 0 where
  pub config : Config
  pub names : Names
  pub partitions : ℕ
  pub senders : ℕ
  pub id : ℕ  -- the first producer id
  pub correlation : ℕ  -- the first correlation id
  pub audits : Bool  -- what is handed over is listed

-- nothing was accepted, sent or stored
unfoldable pub opening : Opening → World
opening o = record {
  core = opened o.audits (new_core o.config o.names o.partitions o.senders o.id o.correlation);
  accepted = replicate o.senders [];
  taken = replicate o.senders 0;
  handed = replicate o.partitions [];
  packets = [];
  replies = [];
  logs = replicate o.partitions empty_history;
  ids = o.id ∷ [];
  moment = 0;
  is_shut = false;
  past = [];
}

-- ---- a schedule's

abbrev pub names : Names
names = record { topic = codes "t"; client = codes "kp" }

abbrev pub FIRST_ID : ℕ
FIRST_ID = 1000

abbrev pub FIRST_CORRELATION : ℕ
FIRST_CORRELATION = 2

abbrev pub scheduled : Config → ℕ → ℕ → Opening
scheduled c partitions senders = record {
  config = c;
  names = names;
  partitions = partitions;
  senders = senders;
  id = FIRST_ID;
  correlation = FIRST_CORRELATION;
  audits = true;
}
