-- What a response says of each partition.
use Rattle.std.specs.Prelude.{◌≡◌, ℕ, ◌<◌, Bool, List, [], ◌∷◌, length, filter, slice_index_or, ◌&&◌, ◌==◌}
use Rattle.std.specs.List.{list_all}
use Rattle.kp_core.specs.declared.machine.matching.Entry.{Entry}
use Rattle.kp_core.specs.declared.machine.matching.Entry.TheVariants.{Missing, One, Several}
use Rattle.kp_frames.specs.declared.produce.PartitionProduceResponse.{PartitionProduceResponse}
use Rattle.kp_rules.specs.Attempts.{awaiting}
use Rattle.kp_rules.specs.Mismatch.{has_offsets, is_for}
use Rattle.kp_rules.specs.Records.{Partition}

-- it stands for these entries
abbrev pub IsEntry : Entry → List PartitionProduceResponse → Type 0
IsEntry Missing xs = xs ≡ []
IsEntry (One entry) xs = xs ≡ entry.now ∷ []
IsEntry Several xs = 1 < length xs

-- for each of so many partitions, what stands for its entries among these
pub record AreEntries (partitions : ℕ) (xs : List PartitionProduceResponse) (found : List Entry) : Type 0 where
  pub count : length found ≡ partitions
  pub each : (p : ℕ) (d : Entry) → p < partitions → IsEntry (slice_index_or found p d) (filter (is_for p) xs)

-- the partition has one entry, and the offsets that it gives are there
abbrev pub answers_one : List PartitionProduceResponse → ℕ → ℕ → Partition → Bool
answers_one xs k p t =
    length (filter (is_for p) xs) == 1 && list_all (has_offsets (awaiting k t)) (filter (is_for p) xs)
