-- What a contract sees of the intake's ends of one sender's rings.
use Rattle.std.specs.Prelude.{◌≡◌, ℕ, List, [], ◌∷◌, length}
use mathlib.Core.List.{IsPrefix}
use Rattle.atomic_table.specs.Seated.{TableId}
use Rattle.rtrb.specs.Ring.{sent, received, known_free, known_items, consumer_capacity}
use Rattle.kp_accum.specs.declared.item.Item.{Item}
use Rattle.kp_rules.specs.declared.outcome.Report.{Report}
use Rattle.kp_lanes.specs.Entries.{items_of}
use Rattle.kp_lanes.specs.Lane.{LaneId}
use Rattle.kp_lanes.specs.Limits.{Meets}
use Rattle.kp_lanes.specs.Rings.{push_end, pop_end}
use Rattle.kp_lanes.specs.declared.entry.Entry.{Entry}
use Rattle.kp_lanes.specs.declared.entry.Entry.TheVariants.{Sent, Mark}
use Rattle.kp_lanes.specs.declared.intake.port.Port.{Port}
use Rattle.kp_lanes.specs.declared.intake.port.Front.{Front}
use Rattle.kp_lanes.specs.declared.intake.port.Front.TheVariants.{AnItem, AMark, Nothing}
use Rattle.kp_lanes.specs.declared.limits.Limits.{Limits}

-- what all lanes of an intake have in common
pub record Common : Type 0 where
  pub gate : TableId
  pub limits : Limits

abbrev pub port_id : Common → Port → LaneId
port_id c p = record { gate = c.gate; limits = c.limits; items = pop_end p.entries; reports = push_end p.reports }

-- what was taken out of the lane: items and marks, in order
abbrev pub passed : Port → List Entry
passed p = received p.entries

-- the items that were taken, in order
abbrev pub taken : Port → List Item
taken p = items_of (passed p)

-- the reports that were handed over, in order
abbrev pub told : Port → List Report
told p = sent p.reports

-- how many entries had been taken out when `asked` was called last
abbrev pub asked_at : Port → ℕ
asked_at p = length (received p.since.value)

-- how many places of the report ring are known to be free
abbrev pub room : Port → ℕ
room p = known_free p.reports

-- the same ends, and nothing was reported
abbrev pub SamePort : Port → Port → Type 0
SamePort old new = (pop_end new.entries ≡ pop_end old.entries) × (consumer_capacity new.entries ≡ consumer_capacity old.entries) × (new.reports ≡ old.reports)

-- entries may have been taken out, behind those before
abbrev pub Extends : List Entry → List Entry → Type 0
Extends old new = IsPrefix old new

-- ---- taking

-- the entries that the intake's end of the lane has seen and not yet taken out
abbrev pub seen : Port → List Entry
seen p = known_items p.entries

-- how many places the lane has
abbrev pub places : Port → ℕ
places p = consumer_capacity p.entries

-- the first entry, where there is one, is an item that this sender may not have sent
abbrev pub HasNothing : Limits → ℕ → List Entry → Type 0
HasNothing limits sender [] = Unit {0}
HasNothing limits sender (Sent x ∷ es) = ¬ Meets limits sender x
HasNothing limits sender (Mark ∷ es) = ⊥

-- what was found to stand first in the lane
abbrev pub Stands : Limits → ℕ → List Entry → Front → Type 0
Stands limits sender es AnItem = (x : Item) × (rest : List Entry) × (es ≡ Sent x ∷ rest) × Meets limits sender x
Stands limits sender es AMark = (rest : List Entry) × (es ≡ Mark ∷ rest)
Stands limits sender es Nothing = HasNothing limits sender es
