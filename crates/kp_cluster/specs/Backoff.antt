-- How long a slot is left alone after failures, and what comes of a connection's loss.
use Rattle.std.specs.Prelude.{◌≡◌, ℕ, ◌+◌, ◌-◌, ◌*◌, ◌/◌, ◌^◌, ◌≤◌, min, Bool, true, false, Some, None, List, if◌then◌else◌, slice_get, nat_eq}
use Rattle.std.specs.Option.{option_map_or}
use Rattle.kp_cluster.specs.declared.config.ClusterConfig.{ClusterConfig}
use Rattle.kp_cluster.specs.declared.metadata.Metadata.{Metadata}
use Rattle.kp_cluster.specs.declared.slot.Slot.{Slot}
use Rattle.kp_cluster.specs.declared.slot.Phase.TheVariants.{Away}
use Rattle.kp_cluster.specs.Slots.{is_away, changed}
use Rattle.kp_cluster.specs.Cluster.{Cluster}

-- the wait after so many failures in a row: it doubles with each, up to the most
abbrev pub wait_after : ClusterConfig → ℕ → ℕ
wait_after c failures = min (c.reconnect_backoff_ms * 2 ^ (failures - 1)) c.reconnect_backoff_max_ms

-- A wait, less a jitter of at most its fifth.
pub record IsJittered (whole wait : ℕ) : Type 0 where
  pub most : wait ≤ whole
  pub least : whole - whole / 5 ≤ wait

-- the moment that is so much later, as a u64
abbrev pub later : ℕ → ℕ → ℕ
later now wait = min (now + wait) (2 ^ 64 - 1)

-- one failure more, as a u32
abbrev pub one_more : ℕ → ℕ
one_more failures = min (failures + 1) (2 ^ 32 - 1)

-- its connection is gone: one failure more, and it is left alone for this wait
abbrev pub lost_for : ℕ → ℕ → Slot → Slot
lost_for now wait s = record s { phase = Away; failures = one_more s.failures; not_before = later now wait }

-- where Metadata was asked over this connection, no answer is awaited any more; and it is wanted
abbrev pub metadata_lost : ℕ → Metadata → Metadata
metadata_lost n m = record m { wanted = true; awaited = if option_map_or (nat_eq n) m.awaited false then None else m.awaited }

-- the slot is not there, or has no connection
abbrev pub has_none : ℕ → List Slot → Bool
has_none n slots = option_map_or is_away (slice_get slots n) true

-- It has one, and once that is lost there are so many failures in a row.
pub record IsCountOnceLost (n : ℕ) (slots : List Slot) (failures : ℕ) : Type 0 where
  pub has_one : has_none n slots ≡ false
  pub count : (s : Slot) → slice_get slots n ≡ Some s → failures ≡ one_more s.failures

abbrev pub lost : ℕ → ℕ → ℕ → Cluster → Cluster
lost n now wait c = if has_none n c.slots then c
    else record c { slots = changed (lost_for now wait) n c.slots; metadata = metadata_lost n c.metadata }

-- A connection that there was is gone, and its slot is left alone for the jittered wait of its failures.
pub record Loses (n now : ℕ) (a b : Cluster) : Type 0 where
  pub wait : ℕ
  pub within : (s : Slot) → slice_get a.slots n ≡ Some s → is_away s ≡ false → IsJittered (wait_after a.config (one_more s.failures)) wait
  pub is : b ≡ lost n now wait a
