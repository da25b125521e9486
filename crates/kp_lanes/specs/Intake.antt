-- What a contract sees of the intake: for each sender what was taken, and what was told.
use Rattle.std.specs.Prelude.{◌≡◌, ◌≢◌, ℕ, zero, suc, List, [], ◌∷◌, ◌++◌, map, slice_index_or}
use Rattle.std.specs.Arc.{arc_value}
use Rattle.atomic_table.specs.Seated.{TableId}
use Rattle.kp_accum.specs.declared.item.Item.{Item}
use Rattle.kp_rules.specs.declared.outcome.Report.{Report}
use Rattle.kp_lanes.specs.Tokens.{gate_id, view}
use Rattle.kp_lanes.specs.Lane.{LaneId}
use Rattle.kp_lanes.specs.Port.{Common, port_id, passed, taken, told, asked_at, room, seen, places}
use Rattle.kp_lanes.specs.declared.entry.Entry.{Entry}
use Rattle.kp_lanes.specs.declared.gate.view.View.{View}
use Rattle.kp_lanes.specs.declared.intake.Intake.{Intake}
use Rattle.kp_lanes.specs.declared.intake.port.Port.{Port}
use Rattle.kp_lanes.specs.declared.limits.Limits.{Limits}

abbrev pub intake_gate : Intake → TableId
intake_gate t = gate_id (arc_value t.gate)

abbrev pub intake_view : Intake → View
intake_view t = view t.seat

abbrev pub intake_limits : Intake → Limits
intake_limits t = t.limits

-- the gate and the limits of its lanes
abbrev pub common_of : Intake → Common
common_of t = record { gate = intake_gate t; limits = intake_limits t }

-- the lanes, by the numbers of their senders
abbrev pub lanes_of : Intake → List LaneId
lanes_of t = map (port_id (common_of t)) t.ports.items

-- for each sender what was taken of its lane: items and marks
abbrev pub passed_lists : Intake → List (List Entry)
passed_lists t = map passed t.ports.items

-- for each sender the items that were taken
abbrev pub taken_lists : Intake → List (List Item)
taken_lists t = map taken t.ports.items

-- for each sender the reports that were handed over
abbrev pub told_lists : Intake → List (List Report)
told_lists t = map told t.ports.items

-- for each sender how many entries had been taken out when `asked` was called last
abbrev pub asked_lists : Intake → List ℕ
asked_lists t = map asked_at t.ports.items

-- for each sender how many places of its report ring are known to be free
abbrev pub rooms : Intake → List ℕ
rooms t = map room t.ports.items

abbrev pub passed_of : Intake → ℕ → List Entry
passed_of t i = slice_index_or (passed_lists t) i []

abbrev pub taken_of : Intake → ℕ → List Item
taken_of t i = slice_index_or (taken_lists t) i []

abbrev pub told_of : Intake → ℕ → List Report
told_of t i = slice_index_or (told_lists t) i []

abbrev pub asked_at_of : Intake → ℕ → ℕ
asked_at_of t i = slice_index_or (asked_lists t) i 0

-- the entries of a sender's lane that the intake's end has seen and not yet taken out
abbrev pub seen_of : Intake → ℕ → List Entry
seen_of t i = slice_index_or (map seen t.ports.items) i []

-- how many places a sender's lane has
abbrev pub places_of : Intake → ℕ → ℕ
places_of t i = slice_index_or (map places t.ports.items) i 0

abbrev pub room_of : Intake → ℕ → ℕ
room_of t i = slice_index_or (rooms t) i 0

-- the same intake of the same lanes, that knows the same of the gate
pub record SameIntake (old new : Intake) : Type 0 where
  pub lanes : lanes_of new ≡ lanes_of old
  pub limits : intake_limits new ≡ intake_limits old
  pub view : intake_view new ≡ intake_view old

-- the same ends of all rings, with all that went through them
abbrev pub SameEnds : Intake → Intake → Type 0
SameEnds old new = new.ports ≡ old.ports

-- nothing was taken of the other lanes
abbrev pub PassedBut : ℕ → Intake → Intake → Type 0
PassedBut i old new = (k : ℕ) → k ≢ i → passed_of new k ≡ passed_of old k

-- ends of rings through which nothing went, with so many places for reports
pub record IsEmpty (capacity : ℕ) (p : Port) : Type 0 where
  pub nothing_passed : passed p ≡ []
  pub nothing_told : told p ≡ []
  pub never_asked : asked_at p ≡ 0
  pub all_free : room p ≡ capacity

-- 0, 1, 2, .., below n
abbrev pub numbers_below : ℕ → List ℕ
numbers_below zero = []
numbers_below (suc n) = numbers_below n ++ n ∷ []
