-- With what lanes are opened, and why they are not.
use Rattle.std.specs.Prelude.{ℕ, ◌≤◌}
use Rattle.kp_lanes.specs.declared.fault.OpenFault.{OpenFault}
use Rattle.kp_lanes.specs.declared.fault.OpenFault.TheVariants.{Senders, Capacity, Partitions, OutOfMemory}

abbrev SendersFit : ℕ → Type 0
SendersFit n = (1 ≤ n) × (n ≤ 64)

abbrev CapacityFits : ℕ → Type 0
CapacityFits n = (1 ≤ n) × (n ≤ 65536)

abbrev PartitionsFit : ℕ → Type 0
PartitionsFit n = (1 ≤ n) × (n ≤ 1024)

abbrev pub MayOpen : ℕ → ℕ → ℕ → Type 0
MayOpen senders capacity partitions = SendersFit senders × CapacityFits capacity × PartitionsFit partitions

-- the first fault that applies; want of memory alone is not told by the arguments
abbrev pub MayNotOpen : ℕ → ℕ → ℕ → OpenFault → Type 0
MayNotOpen senders capacity partitions Senders = ¬ SendersFit senders
MayNotOpen senders capacity partitions Capacity = SendersFit senders × ¬ CapacityFits capacity
MayNotOpen senders capacity partitions Partitions = SendersFit senders × CapacityFits capacity × ¬ PartitionsFit partitions
MayNotOpen senders capacity partitions OutOfMemory = MayOpen senders capacity partitions
