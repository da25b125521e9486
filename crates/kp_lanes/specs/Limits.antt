-- What the records of a lane must keep.
use Rattle.std.specs.Prelude.{◌≡◌, ℕ, ◌<◌, ◌≤◌, List, [], ◌∷◌, ◌++◌}
use Rattle.kp_batch.specs.Spelling.{measured, size_of_batch}
use Rattle.kp_batch.specs.declared.record.Record.{Record}
use Rattle.kp_accum.specs.declared.item.Item.{Item}
use Rattle.kp_lanes.specs.Entries.{IsNext}
use Rattle.kp_lanes.specs.declared.limits.Limits.{Limits}

-- the memory that a record takes: the size of the batch that holds it alone
abbrev pub charge_of : Record → ℕ
charge_of body = measured (size_of_batch (body ∷ []))

-- the item is one that this sender may have sent
pub record Meets (limits : Limits) (sender : ℕ) (x : Item) : Type 0 where
  pub its_sender : x.sender ≡ sender
  pub its_partition : x.partition < limits.partitions
  pub its_charge : charge_of x.body ≤ limits.max_record

-- Each item is one that this sender may have sent, and its number is its place among those of its partition.
pub record AreInPlace (limits : Limits) (sender : ℕ) (items : List Item) : Type 0 where
  pub each : (before : List Item) (x : Item) (behind : List Item)
      → items ≡ before ++ x ∷ behind → Meets limits sender x × IsNext before x
