-- A cluster, as its owner sees it, and what comes of the calls on it.
use Rattle.std.specs.Prelude.{ℕ, Bool, true, false, Option, None, List, [], map, slice_get, slice_index_or, is_some, ◌&&◌, if◌then◌else◌}
use Rattle.std.specs.Option.{option_map, option_map_or}
use Rattle.kp_cluster.specs.declared.config.ClusterConfig.{ClusterConfig}
use Rattle.kp_cluster.specs.declared.slot.Slot.{Slot}
use Rattle.kp_cluster.specs.declared.slot.Address.{Address}
use Rattle.kp_cluster.specs.declared.slot.Phase.TheVariants.{Away}
use Rattle.kp_cluster.specs.declared.metadata.Metadata.{Metadata}
use Rattle.kp_cluster.specs.Slots.{is_open, changed, given_up, spare_given_up, opened, wanted, answered}

-- A cluster: its slots, by number; by partition the slot that leads it; what is known of Metadata; and the slot from
-- which on one is sought where no connection is open.
pub record Cluster : Type 0 where
  pub config : ClusterConfig
  pub slots : List Slot
  pub leaders : List (Option ℕ)
  pub metadata : Metadata
  pub turn : ℕ

abbrev pub slot_of_address : Address → Slot
slot_of_address a = record { id = None; host = a.host; port = a.port; phase = Away; failures = 0; not_before = 0; wanted = false; leads = false }

-- Metadata is wanted, and was never asked for.
abbrev pub new_metadata : Metadata
new_metadata = record { wanted = true; awaited = None; asked_at = None; charted_at = None }

abbrev pub new_cluster : ClusterConfig → List Address → Cluster
new_cluster config bootstrap = record { config = config; slots = map slot_of_address bootstrap; leaders = []; metadata = new_metadata; turn = 0 }

-- ---- what it tells

-- the slot that leads the partition
abbrev pub leader_of : ℕ → Cluster → Option ℕ
leader_of partition c = slice_index_or c.leaders partition None

abbrev pub is_open_at : ℕ → List Slot → Bool
is_open_at n slots = option_map_or is_open (slice_get slots n) false

abbrev pub address_of : Slot → List ℕ × ℕ
address_of s = (s.host, s.port)

abbrev pub address_at : ℕ → Cluster → Option (List ℕ × ℕ)
address_at n c = option_map address_of (slice_get c.slots n)

-- ---- what comes of calls

abbrev pub with_slots : List Slot → Cluster → Cluster
with_slots slots c = record c { slots = slots }

abbrev pub with_slot : (Slot → Slot) → ℕ → Cluster → Cluster
with_slot change n c = with_slots (changed change n c.slots) c

-- a node of the cluster is open, and not just an address given at first
abbrev pub is_broker_open : Slot → Bool
is_broker_open s = is_some s.id && is_open s

-- The connection is open. Where it is to a broker whose id is known, those to mere addresses are given up.
abbrev pub connected : ℕ → Cluster → Cluster
connected n c =
    let slots = changed opened n c.slots in
    with_slots (if option_map_or is_broker_open (slice_get slots n) false then map spare_given_up slots else slots) c

abbrev pub with_given_up : ℕ → Cluster → Cluster
with_given_up n c = with_slot given_up n c

abbrev pub with_wanted : ℕ → Cluster → Cluster
with_wanted n c = with_slot wanted n c

abbrev pub with_answered : ℕ → Cluster → Cluster
with_answered n c = with_slot answered n c

-- Metadata is wanted
abbrev pub asking_again : Cluster → Cluster
asking_again c = record c { metadata = record c.metadata { wanted = true } }

-- the answer to Metadata that was awaited tells no chart: it is wanted again
abbrev pub chart_refused : Cluster → Cluster
chart_refused c = record c { metadata = record c.metadata { wanted = true; awaited = None } }
