-- Counts of what a sender had accepted.
use Rattle.std.specs.Prelude.{◌≡◌, ℕ, List, length, slice_index_or}
use Rattle.kp_accum.specs.declared.item.Item.{Item}
use Rattle.kp_world.specs.Accepting.{for_partition}

-- by partition, how many of these items are for it; where no count stands there is none
abbrev pub AreCounts : List Item → List ℕ → Type 0
AreCounts items counts = (p : ℕ) → slice_index_or counts p 0 ≡ length (for_partition p items)
