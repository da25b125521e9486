-- What a chart changes: the slots of its brokers, and who leads each partition.
use Rattle.std.specs.Prelude.{ℕ, suc, ◌^◌, ℤ, Bool, false, Option, Some, None, List, [], ◌∷◌, ◌++◌, length, map, take, fold, position, nat_lt, nat_eq, ◌&&◌, ◌||◌, is_none, if◌then◌else◌}
use Rattle.std.specs.Option.{option_map, option_map_or, option_and_then}
use Rattle.std.specs.Ordering.{int_eq}
use Rattle.std.specs.List.{list_any}
use Rattle.std.specs.Str.{bytes_eq}
use Rattle.kp_hello.specs.declared.Node.{Node}
use Rattle.kp_cluster.specs.declared.slot.Slot.{Slot}
use Rattle.kp_cluster.specs.declared.slot.Phase.TheVariants.{Away}
use Rattle.kp_cluster.specs.Slots.{has_id, changed, given_up}
use Rattle.kp_cluster.specs.Cluster.{Cluster, with_slots, chart_refused}

-- There are at most so many slots.
abbrev pub SLOT_LIMIT : ℕ
SLOT_LIMIT = 2 ^ 16

-- ---- brokers

-- the slot of this broker
abbrev pub slot_of : ℤ → List Slot → Option ℕ
slot_of id slots = position (has_id id) slots

abbrev pub has_address : Node → Slot → Bool
has_address node s = bytes_eq s.host node.host && nat_eq s.port node.port

-- Its address is the broker's from now on; a connection to another one is given up.
abbrev pub renewed : Node → Slot → Slot
renewed node s = if has_address node s then s else given_up (record s { host = node.host; port = node.port })

abbrev pub new_slot : Node → Slot
new_slot node = record { id = Some node.id; host = node.host; port = node.port; phase = Away; failures = 0; not_before = 0; wanted = false; leads = false }

-- a broker that has no slot is given the next one, where there may be one more
abbrev pub placed_at : Node → List Slot → Option ℕ → List Slot
placed_at node slots (Some n) = changed (renewed node) n slots
placed_at node slots None = if nat_lt (length slots) SLOT_LIMIT then slots ++ new_slot node ∷ [] else slots

abbrev pub placed : List Slot → Node → List Slot
placed slots node = placed_at node slots (slot_of node.id slots)

abbrev pub all_placed : List Node → List Slot → List Slot
all_placed nodes slots = fold placed slots nodes

-- ---- leaders

abbrev pub is_node : ℤ → Node → Bool
is_node id node = int_eq node.id id

-- the slot of a leader that is one of the chart's nodes
abbrev pub leader_slot : List Node → List Slot → ℤ → Option ℕ
leader_slot nodes slots id = if list_any (is_node id) nodes then slot_of id slots else None

-- a slot leads where it stands among the leaders
abbrev pub is_slot : ℕ → Option ℕ → Bool
is_slot n leader = option_map_or (nat_eq n) leader false

abbrev pub marked_from : ℕ → List (Option ℕ) → List Slot → List Slot
marked_from n leaders [] = []
marked_from n leaders (s ∷ slots) = record s { leads = list_any (is_slot n) leaders } ∷ marked_from (suc n) leaders slots

-- ---- the chart

-- those of partitions that are known; all at the first chart
abbrev pub of_known : List (Option ℕ) → List (Option ℤ) → List (Option ℤ)
of_known known leaders = if nat_eq (length known) 0 then leaders else take (length known) leaders

-- These are the leaders from now on. Metadata stays wanted where it was, and is where a partition has no leader.
abbrev pub with_leaders : List (Option ℕ) → ℕ → Cluster → Cluster
with_leaders leaders now c = record c {
  slots = marked_from 0 leaders c.slots;
  leaders = leaders;
  metadata = record c.metadata { awaited = None; charted_at = Some now; wanted = c.metadata.wanted || list_any is_none leaders };
}

-- all that has a leader is led by this slot
abbrev pub led_by_one : ℕ → Option ℤ → Option ℕ
led_by_one n leader = option_map (λ id. n) leader

abbrev pub charted_to_one : List (Option ℤ) → ℕ → ℕ → Cluster → Cluster
charted_to_one leaders n now c = with_leaders (map (led_by_one n) (of_known c.leaders leaders)) now c

abbrev pub led_among : List Node → List Slot → Option ℤ → Option ℕ
led_among nodes slots leader = option_and_then (leader_slot nodes slots) leader

abbrev pub charted_by_id : List Node → List (Option ℤ) → ℕ → Cluster → Cluster
charted_by_id nodes leaders now c =
    let slots = all_placed nodes c.slots in
    with_leaders (map (led_among nodes slots) (of_known c.leaders leaders)) now (with_slots slots c)

-- With keep_to_one all goes to the slot that answered, and no slot is made.
abbrev pub charted : List Node → List (Option ℤ) → ℕ → ℕ → Cluster → Cluster
charted nodes leaders n now c = if c.config.keep_to_one then charted_to_one leaders n now c else charted_by_id nodes leaders now c

-- A chart with fewer partitions than are known is not used.
abbrev pub charted_if_whole : List Node → List (Option ℤ) → ℕ → ℕ → Cluster → Cluster
charted_if_whole nodes leaders n now c = if nat_lt (length leaders) (length c.leaders) then chart_refused c else charted nodes leaders n now c

-- A chart that was not awaited changes nothing.
abbrev pub learned_over : List Node → List (Option ℤ) → ℕ → Cluster → Option ℕ → Cluster
learned_over nodes leaders now c None = c
learned_over nodes leaders now c (Some n) = charted_if_whole nodes leaders n now c

abbrev pub learned : List Node → List (Option ℤ) → ℕ → Cluster → Cluster
learned nodes leaders now c = learned_over nodes leaders now c c.metadata.awaited
