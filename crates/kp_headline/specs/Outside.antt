-- A core, and what stands around it: what its senders had accepted, the network, and the partitions' logs. No message
-- is ever on its way: what went out and what was said are facts, which only grow.
use Rattle.std.specs.Prelude.{ℕ, Bool, false, List, [], ◌∷◌, replicate}
use Rattle.kp_accum.specs.declared.item.Item.{Item}
use Rattle.kp_log.specs.BrokerStep.{Answered}
use Rattle.kp_log.specs.History.{History, empty_history}
use Rattle.kp_rules.specs.declared.outcome.Report.{Report}
use Rattle.kp_rules.specs.Auditing.{opened}
use Rattle.kp_rules.specs.Fetched.{with_fetched}
use Rattle.kp_rules.specs.Next.{Sending}
use Rattle.kp_rules.specs.Opening.{new_core}
use Rattle.kp_rules.specs.Records.{HandedBatch, Core, Told}
use Rattle.kp_rules.specs.Requesting.{Packet}
use Rattle.kp_world.specs.Facts.{Facts}
use Rattle.kp_world.specs.World.{Reply, Opening}

-- What a partition's log said to a part of the packet with this number.
pub record Said : Type 0 where
  pub packet : ℕ
  pub part : Sending
  pub answer : Answered

pub record Outside : Type 0 where
  pub accepted : List (List Item)  -- by sender, in order
  pub taken : List ℕ  -- by sender, how many of these were appended
  pub is_shut : Bool  -- no record is accepted
  pub handed : List (List HandedBatch)  -- by partition, all batches that were handed over, in order
  pub packets : List Packet  -- all that ever went out; a packet's number is its place
  pub said : List Said  -- all that logs ever said
  pub answered : List Reply  -- all replies that were ever given to requests for an id
  pub logs : List History  -- by partition
  pub ids : List ℕ  -- all producer ids that were ever drawn for this producer
  pub told : List Told  -- all that was told, in order
  pub fetched : List (List Report)  -- by sender, the reports that were fetched, oldest first

pub record State : Type 0 where
  pub core : Core
  pub outside : Outside

-- nothing was accepted, sent or stored
abbrev pub new_state : Opening → State
new_state o = record {
  core = opened o.audits (new_core o.config o.names o.partitions o.senders o.id o.correlation);
  outside = record {
    accepted = replicate o.senders [];
    taken = replicate o.senders 0;
    is_shut = false;
    handed = replicate o.partitions [];
    packets = [];
    said = [];
    answered = [];
    logs = replicate o.partitions empty_history;
    ids = o.id ∷ [];
    told = [];
    fetched = [];
  };
}

-- What the laws of runs are stated over. The core is the one that it were had no report been fetched.
abbrev pub known : State → Facts
known a = record {
  core = with_fetched a.outside.fetched a.core;
  accepted = a.outside.accepted;
  taken = a.outside.taken;
  handed = a.outside.handed;
  packets = a.outside.packets;
  logs = a.outside.logs;
  ids = a.outside.ids;
  told = a.outside.told;
}
