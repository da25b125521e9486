-- What the owner of a cluster is to do next, and when there may be more.
use Rattle.std.specs.Prelude.{◌<◌, ℕ, ◌+◌, Bool, Option, Some, None, List, ◌&&◌, ◌||◌, not, position, drop, filter, map, fold, min, if◌then◌else◌}
use Rattle.std.specs.Option.{option_map, option_or}
use Rattle.std.specs.List.{list_any}
use Rattle.kp_cluster.specs.declared.action.Action.{Action}
use Rattle.kp_cluster.specs.declared.action.Action.TheVariants.{Connect, Close}
use Rattle.kp_cluster.specs.declared.slot.Phase.TheVariants.{Opening, Closing}
use Rattle.kp_cluster.specs.declared.slot.Slot.{Slot}
use Rattle.kp_cluster.specs.Slots.{is_given_up, is_ready, is_away, is_wanted, is_live, is_open, in_phase}
use Rattle.kp_cluster.specs.Cluster.{Cluster, with_slot}
use Rattle.kp_cluster.specs.Backoff.{later}
use Rattle.kp_cluster.specs.Metadata.{METADATA_PAUSE_MS}

-- ---- the choice

-- a connection is wanted, there is none, and its wait is over
abbrev pub is_due : ℕ → Slot → Bool
is_due now s = is_wanted s && is_ready now s

-- the first that passes, from this place on and then from the front
abbrev pub in_turn : (Slot → Bool) → ℕ → List Slot → Option ℕ
in_turn test turn slots = option_or (option_map (λ k. turn + k) (position test (drop turn slots))) (position test slots)

-- Where no connection is open or being opened, any slot is tried, in turn.
abbrev pub tried : ℕ → Cluster → Option ℕ
tried now c = if list_any is_live c.slots then None else in_turn (is_ready now) c.turn c.slots

-- ---- what is told, each once

abbrev pub closing : ℕ → Cluster → Cluster
closing n c = with_slot (in_phase Closing) n c

abbrev pub connecting : ℕ → Cluster → Cluster
connecting n c = with_slot (in_phase Opening) n c

-- An action, or none, and the cluster once it is told.
pub record Told : Type 0 where
  pub action : Option Action
  pub cluster : Cluster

abbrev pub tries : Cluster → Option ℕ → Told
tries c None = record { action = None; cluster = c }
tries c (Some n) = record { action = Some (Connect n); cluster = record (connecting n c) { turn = n + 1 } }

abbrev pub connects : ℕ → Cluster → Option ℕ → Told
connects now c None = tries c (tried now c)
connects now c (Some n) = record { action = Some (Connect n); cluster = connecting n c }

abbrev pub closes : ℕ → Cluster → Option ℕ → Told
closes now c None = connects now c (position (is_due now) c.slots)
closes now c (Some n) = record { action = Some (Close n); cluster = closing n c }

-- What was given up is closed; then what is wanted is connected to; then, where nothing is open, any slot in turn.
abbrev pub told : ℕ → Cluster → Told
told now c = closes now c (position is_given_up c.slots)

-- ---- when there may be more

-- the earlier of two moments, of which there may be none
abbrev pub earlier : Option ℕ → Option ℕ → Option ℕ
earlier None b = b
earlier (Some a) None = Some a
earlier (Some a) (Some b) = Some (min a b)

-- the earliest of these moments
abbrev pub sooner : Option ℕ → ℕ → Option ℕ
sooner due moment = earlier due (Some moment)

abbrev pub earliest : List ℕ → Option ℕ
earliest moments = fold sooner None moments

-- it waits for its moment to be connected to: it is wanted, or nothing is open or being opened
abbrev pub waits : Bool → Slot → Bool
waits lonely s = is_away s && (is_wanted s || lonely)

abbrev pub not_before : Slot → ℕ
not_before s = s.not_before

abbrev pub next_connect : Cluster → Option ℕ
next_connect c = earliest (map not_before (filter (waits (not (list_any is_live c.slots))) c.slots))

-- the moment at which the pause since the last Metadata request is over
abbrev pub pause_end : Option ℕ → ℕ
pause_end None = 0
pause_end (Some at) = later at METADATA_PAUSE_MS

-- so much later than a moment, where there is one
abbrev pub later_than : ℕ → Option ℕ → Option ℕ
later_than wait at = option_map (λ moment. later moment wait) at

-- Where Metadata is wanted it may be asked once the pause is over, where something is open.
abbrev pub next_ask : Cluster → Option ℕ
next_ask c = if list_any is_open c.slots then Some (pause_end c.metadata.asked_at) else None

abbrev pub next_aged : Cluster → Option ℕ
next_aged c = later_than c.config.metadata_max_age_ms c.metadata.charted_at

abbrev pub next_metadata_with : Cluster → Option ℕ → Option ℕ
next_metadata_with c None = if c.metadata.wanted then next_ask c else next_aged c
next_metadata_with c (Some n) = later_than c.config.request_timeout_ms c.metadata.asked_at

abbrev pub next_metadata : Cluster → Option ℕ
next_metadata c = next_metadata_with c c.metadata.awaited

abbrev pub next_due : Cluster → Option ℕ
next_due c = earlier (next_connect c) (next_metadata c)

-- It is before this moment, where there is one.
abbrev pub IsBefore : ℕ → Option ℕ → Type 0
IsBefore now None = Unit {0}
IsBefore now (Some moment) = now < moment
