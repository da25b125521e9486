-- The sender core as its contracts see it: partitions with their batches, requests in flight,
-- reports not yet fetched.
use Rattle.std.specs.Prelude.{ℕ, Bool, List, [], Option}
use Rattle.kp_accum.specs.declared.config.Config.{Config}
use Rattle.kp_accum.specs.declared.item.Item.{Item}
use Rattle.kp_accum.specs.Queue.{Pending}
use Rattle.kp_rules.specs.declared.attempt.Attempt.{Attempt}
use Rattle.kp_rules.specs.declared.run.Run.{Run}
use Rattle.kp_rules.specs.declared.names.Names.{Names}
use Rattle.kp_rules.specs.declared.outcome.Outcome.{Outcome}
use Rattle.kp_rules.specs.declared.outcome.Report.{Report}

-- ---- batches

-- A batch that was handed over: cut once and for good.
pub record HandedBatch : Type 0 where
  pub number : ℕ  -- how many batches of its partition were handed over before it
  pub id : ℕ  -- the producer id under which it is sent
  pub sequence : ℕ  -- its base sequence: how many records were handed over under this id before it
  pub items : List Item

-- An open batch: handed over, and its items not yet told.
pub record Open : Type 0 where
  pub batch : HandedBatch
  pub begun : ℕ  -- the moment at which its first item was accepted
  pub attempt : Attempt
  pub marked : Bool  -- a flush waits for it

-- ---- the core

pub record Partition : Type 0 where
  pub leader : ℕ  -- the node that its batches go to
  pub queue : List Pending  -- the batches not yet handed over, oldest first
  pub open_batches : List Open  -- oldest first
  pub ids : List ℕ  -- its producer ids, the present one last
  pub next_number : ℕ  -- how many batches were handed over
  pub next_sequence : ℕ  -- how many records were handed over under the present id
  pub attempts_sent : ℕ  -- how often a batch went out, first or again; no rule reads it
  pub acknowledged : Bool  -- the first batch under the present id was acknowledged
  pub fenced : Bool
  pub audit : Option (List Run)  -- the items that were handed over, where that is kept; no rule reads it

-- What a request asks the broker for.
pub data Demand (A : Type 0) : Type 0 where
  Produce : List A → Demand A  -- that these batches be appended
  InitProducerId : (partition : ℕ) → Demand A  -- a fresh producer id, for this partition

-- A request in flight. Of batches it has the partitions, in its order.
pub record Request : Type 0 where
  pub correlation : ℕ
  pub node : ℕ  -- the node that it went to
  pub sent : ℕ  -- the moment at which it went out
  pub demand : Demand ℕ

-- Where the turn of the partitions of a node begins.
pub record Turn : Type 0 where
  pub node : ℕ
  pub last_used : ℕ  -- the partition whose batch was the last to go out to the node

pub record Core : Type 0 where
  pub config : Config
  pub names : Names
  pub partitions : List Partition
  pub requests : List Request  -- those in flight, oldest first
  pub id_waits : Option ℕ  -- the moment at which an id was refused, or its request dropped
  pub correlation : ℕ  -- the next request's
  pub turns : List Turn  -- of the nodes that batches went out to, the last one last
  pub exhausted : Bool  -- an append was refused for want of buffer memory; none was given back since
  pub closing : Bool
  pub ended : Bool
  pub reports : List (List Report)  -- those not fetched, by sender, oldest first

-- ---- what calls make

-- An item, and what its sender is told of it.
pub record Told : Type 0 where
  pub item : Item
  pub outcome : Outcome

-- A partition after a rule, and what was told, in order.
pub record Effect : Type 0 where
  pub after : Partition
  pub told : List Told

-- The core after a call, what was told, in order, and what the call answered.
pub record Called (Answer : Type 0) : Type 0 where
  pub after : Core
  pub told : List Told
  pub answer : Answer

-- nothing was told
abbrev pub quietly : {Answer : Type 0} → Core → Answer → Called Answer
quietly after answer = record { after = after; told = []; answer = answer }
