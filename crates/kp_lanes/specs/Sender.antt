-- What a contract sees of a sender, and of what is left of it once it has finished.
use Rattle.std.specs.Prelude.{◌≡◌, ℕ, ◌<◌, ◌%◌, List, [], length, slice_index_or}
use Rattle.rtrb.specs.Ring.{received, known_items}
use Rattle.kp_accum.specs.declared.item.Item.{Item}
use Rattle.kp_batch.specs.declared.record.Record.{Record}
use Rattle.kp_rules.specs.declared.outcome.Report.{Report}
use Rattle.kp_lanes.specs.Gate.{newcomer}
use Rattle.kp_lanes.specs.Tokens.{view}
use Rattle.kp_lanes.specs.Rings.{pop_end}
use Rattle.kp_lanes.specs.Lane.{LaneId, lane_id, pushed, accepted_in, free}
use Rattle.kp_lanes.specs.Outbox as box
use Rattle.kp_lanes.specs.declared.entry.Entry.{Entry}
use Rattle.kp_lanes.specs.declared.fault.SendFault.{SendFault}
use Rattle.kp_lanes.specs.declared.gate.view.View.{View}
use Rattle.kp_lanes.specs.declared.limits.Limits.{Limits}
use Rattle.kp_lanes.specs.declared.sender.Finished.{Finished}
use Rattle.kp_lanes.specs.declared.sender.Sender.{Sender}
use Rattle.kp_lanes.specs.declared.target.Target.{Target}

-- ---- a sender

-- which of the senders it is, from 0
abbrev pub sender_number : Sender → ℕ
sender_number s = s.outbox.sender

-- which lane is its
abbrev pub sender_id : Sender → LaneId
sender_id s = lane_id s.outbox.limits s.outbox.lane (pop_end s.reports)

abbrev pub limits_of : Sender → Limits
limits_of s = s.outbox.limits

-- what it knows of the gate
abbrev pub sender_view : Sender → View
sender_view s = view s.seat

-- what it has put into its lane: the items that it has accepted, and marks
abbrev pub entered : Sender → List Entry
entered s = pushed s.outbox.lane

-- the items that it has accepted, in order
abbrev pub accepted : Sender → List Item
accepted s = accepted_in s.outbox.lane

-- the reports that it has received, in order
abbrev pub got : Sender → List Report
got s = received s.reports

-- the reports that its end of the ring has seen and not yet given
abbrev pub seen_reports : Sender → List Report
seen_reports s = known_items s.reports

-- the place of its round robin
abbrev pub turn : Sender → ℕ
turn s = s.outbox.turn

-- how many places of its lane its end knows to be free
abbrev pub known_free_of : Sender → ℕ
known_free_of s = free s.outbox.lane

-- the same sender, with the same lane
pub record SameSender (old new : Sender) : Type 0 where
  pub number : sender_number new ≡ sender_number old
  pub id : sender_id new ≡ sender_id old
  pub limits : limits_of new ≡ limits_of old

-- its lane is the one that its number names
abbrev pub IsSenderOf : List LaneId → Sender → Type 0
IsSenderOf lanes s = (sender_number s < length lanes) × (slice_index_or lanes (sender_number s) (sender_id s) ≡ sender_id s)

-- ---- its records

abbrev pub goes_to : Sender → Target → Record → ℕ
goes_to s = box.goes_to s.outbox

abbrev pub turn_after : Sender → Target → Record → ℕ
turn_after s = box.turn_after s.outbox

abbrev pub Accepts : Sender → ℕ → Record → Type 0
Accepts s = box.Accepts s.outbox

abbrev pub Refuses : Sender → ℕ → Record → SendFault → Type 0
Refuses s = box.Refuses s.outbox

-- a sender that has sent and heard nothing, at an open lane with so many places
pub record IsFresh (capacity : ℕ) (limits : Limits) (s : Sender) : Type 0 where
  pub nothing_sent : entered s ≡ []
  pub nothing_got : got s ≡ []
  pub view_is : sender_view s ≡ newcomer 1
  pub all_free : known_free_of s ≡ capacity
  pub limits_are : limits_of s ≡ limits
  pub turn_is : turn s ≡ sender_number s % limits.partitions

-- ---- what is left of one

abbrev pub finished_number : Finished → ℕ
finished_number f = f.outbox.sender

abbrev pub finished_id : Finished → LaneId
finished_id f = lane_id f.outbox.limits f.outbox.lane (pop_end f.reports)

abbrev pub all_accepted : Finished → List Item
all_accepted f = accepted_in f.outbox.lane

-- what it had put into its lane: the items that it had accepted, and marks
abbrev pub all_entered : Finished → List Entry
all_entered f = pushed f.outbox.lane

abbrev pub all_got : Finished → List Report
all_got f = received f.reports
