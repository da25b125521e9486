-- What a partition sends to a node, with its number, and may send.
use Rattle.std.specs.Prelude.{◌≡◌, ◌<◌, ◌^◌, ◌++◌, ℕ, true, List, [], drop, take, Option, Some, None, option_map}
use Rattle.std.specs.List.{enumerate_from}
use Rattle.kp_accum.specs.declared.config.Config.{Config}
use Rattle.kp_accum.specs.declared.flags.Flags.{Flags}
use Rattle.kp_rules.specs.Attempts.{lowest_waiting}
use Rattle.kp_rules.specs.MaySend.{sends}
use Rattle.kp_rules.specs.Framing.{frame_of}
use Rattle.kp_rules.specs.Next.{Sending, next_batches, sends_to}
use Rattle.kp_rules.specs.Records.{Partition, Core}
use Rattle.kp_rules.specs.Requesting.{partitions_in}
use Rattle.kp_parts.specs.PartitionRooms.{has_place}
use Rattle.kp_parts.specs.Written.{produce_packet}

abbrev pub sends_in : ℕ → Config → Flags → ℕ → ℕ × Partition → Option Sending
sends_in node c flags now x =
    option_map (λ b. record { partition = x.0; batch = b }) (sends_to node sends c flags now x.1)

-- the partitions with their numbers, from this one on and then those below it
abbrev pub numbered_from : ℕ → List Partition → List (ℕ × Partition)
numbered_from first ts = enumerate_from first (drop first ts) ++ enumerate_from 0 (take first ts)

-- What the partition may send has a place.
pub record MayGoOut (t : Partition) : Type 0 where
  pub attempts : t.attempts_sent < 2 ^ 63
  pub place : lowest_waiting t ≡ None → has_place t ≡ true

-- the frame of the request for the next batches, and the partitions whose they are; or there are
-- none
abbrev pub FramesBatches : ℕ → ℕ → Core → Option (List ℕ × List ℕ) → Type 0
FramesBatches node now s None = next_batches node now s ≡ []
FramesBatches node now s (Some x) =
    (next_batches node now s ≡ [] → ⊥)
    × (x.0 ≡ frame_of s.config s.names (produce_packet s.correlation (next_batches node now s)))
    × (x.1 ≡ partitions_in (next_batches node now s))
