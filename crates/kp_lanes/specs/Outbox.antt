-- What a contract sees of a sender's lane and of what numbers and places its records.
use Rattle.std.specs.Prelude.{◌≡◌, ℕ, ◌+◌, ◌-◌, ◌^◌, ◌%◌, ◌<◌, ◌≤◌, List, length, Option, Some, None, bit_and}
use Rattle.rtrb.specs.Ring.{SameProducer}
use Rattle.kp_batch.specs.declared.record.Record.{Record}
use Rattle.kp_wire.specs.Hash.{murmur2}
use Rattle.kp_lanes.specs.Lane.{pushed, accepted_in, free}
use Rattle.kp_lanes.specs.Limits.{charge_of}
use Rattle.kp_lanes.specs.declared.fault.SendFault.{SendFault}
use Rattle.kp_lanes.specs.declared.fault.SendFault.TheVariants.{Closed, LaneFull, RecordTooLarge, NoSuchPartition, NumberSpent}
use Rattle.kp_lanes.specs.declared.sender.outbox.Outbox.{Outbox}
use Rattle.kp_lanes.specs.declared.target.Target.{Target}
use Rattle.kp_lanes.specs.declared.target.Target.TheVariants.{Named, Auto}

-- a key goes to the partition of its hash, and a record without one to the place of the round robin
abbrev pub keyed_to : ℕ → ℕ → Option (List ℕ) → ℕ
keyed_to partitions turn (Some key) = bit_and (murmur2 key) 0x7fffffff % partitions
keyed_to partitions turn None = turn

-- the partition that the record is to go to
abbrev pub goes_to : Outbox → Target → Record → ℕ
goes_to box (Named p) body = p
goes_to box Auto body = keyed_to box.limits.partitions box.turn body.key

-- the round robin moves on by one behind a record without a key
abbrev pub moved_on : ℕ → ℕ → Option (List ℕ) → ℕ
moved_on partitions turn (Some key) = turn
moved_on partitions turn None = (turn + 1) % partitions

-- the place of the round robin behind an accepted record: a named partition leaves it as it was
abbrev pub turn_after : Outbox → Target → Record → ℕ
turn_after box (Named p) body = box.turn
turn_after box Auto body = moved_on box.limits.partitions box.turn body.key

-- it is the same lane, of the same sender, with the same limits
abbrev pub SameBox : Outbox → Outbox → Type 0
SameBox old new = (new.sender ≡ old.sender) × (new.limits ≡ old.limits) × (new.lane.gate ≡ old.lane.gate) × SameProducer old.lane.ring new.lane.ring

-- the lane holds what it held, and the next record is numbered and placed as before
abbrev pub LostNothing : Outbox → Outbox → Type 0
LostNothing old new = (pushed new.lane ≡ pushed old.lane) × (new.turn ≡ old.turn)

-- nothing but a full lane stands against a record for this partition
pub record Accepts (box : Outbox) (partition : ℕ) (body : Record) : Type 0 where
  pub there : partition < box.limits.partitions
  pub fits : charge_of body ≤ box.limits.max_record
  pub numbered : length (accepted_in box.lane) < 2 ^ 64 - 1

-- why a record for this partition is refused: of these, but for Closed, which comes before, from the top the first
abbrev pub Refuses : Outbox → ℕ → Record → SendFault → Type 0
Refuses box partition body Closed = ⊥
Refuses box partition body NoSuchPartition = box.limits.partitions ≤ partition
Refuses box partition body RecordTooLarge = (partition < box.limits.partitions) × (box.limits.max_record < charge_of body)
Refuses box partition body NumberSpent = (partition < box.limits.partitions) × (charge_of body ≤ box.limits.max_record) × (length (accepted_in box.lane) ≡ 2 ^ 64 - 1)
Refuses box partition body LaneFull = Accepts box partition body × (free box.lane ≡ 0)
