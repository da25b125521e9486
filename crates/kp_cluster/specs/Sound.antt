-- What holds of each cluster.
use Rattle.std.specs.Prelude.{ℕ, ◌≤◌, List, length}
use Rattle.kp_cluster.specs.declared.slot.Slot.{Slot}
use Rattle.kp_cluster.specs.Learning.{SLOT_LIMIT}

-- There are not too many slots, and one is sought from a place among them on.
pub record IsSound (slots : List Slot) (next : ℕ) : Type 0 where
  pub limit : length slots ≤ SLOT_LIMIT
  pub turn : next ≤ length slots
