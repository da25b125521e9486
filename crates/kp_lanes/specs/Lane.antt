-- What a contract sees of a lane.
use Rattle.std.specs.Prelude.{ℕ, List}
use Rattle.std.specs.Arc.{arc_value}
use Rattle.atomic_table.specs.Seated.{TableId}
use Rattle.rtrb.specs.Ring.{sent, known_free}
use Rattle.kp_accum.specs.declared.item.Item.{Item}
use Rattle.kp_lanes.specs.Entries.{items_of}
use Rattle.kp_lanes.specs.Rings.{RingId, push_end}
use Rattle.kp_lanes.specs.Tokens.{gate_id}
use Rattle.kp_lanes.specs.declared.entry.Entry.{Entry}
use Rattle.kp_lanes.specs.declared.lane.Lane.{Lane}
use Rattle.kp_lanes.specs.declared.limits.Limits.{Limits}

-- which lane it is: its gate, what its records must keep, and its two rings
pub record LaneId : Type 0 where
  pub gate : TableId
  pub limits : Limits
  pub items : RingId
  pub reports : RingId

-- the gate of a lane
abbrev pub lane_gate : Lane → TableId
lane_gate l = gate_id (arc_value l.gate)

-- what was pushed into a lane, in order
abbrev pub pushed : Lane → List Entry
pushed l = sent l.ring

-- the items that a lane has accepted, in order
abbrev pub accepted_in : Lane → List Item
accepted_in l = items_of (pushed l)

-- how many places of the lane its sender's end knows to be free
abbrev pub free : Lane → ℕ
free l = known_free l.ring

abbrev pub lane_id : Limits → Lane → RingId → LaneId
lane_id limits l r = record { gate = lane_gate l; limits = limits; items = push_end l.ring; reports = r }
