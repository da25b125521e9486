-- How many requests may be in flight over a connection at a time, where fewer may than the core allows.
use Rattle.std.specs.Prelude.{ℕ, ◌+◌, ◌-◌, ◌/◌, Bool, false, not, ◌&&◌, length, min, nat_le, Option, Some, None, if◌then◌else◌}
use Rattle.kp_accum.specs.Ready.{is_over}
use Rattle.kp_core.specs.Busy.{busy_in}
use Rattle.kp_core.specs.Requests.{oldest_to}
use Rattle.kp_rules.specs.Attempts.{to_node}
use Rattle.kp_rules.specs.Partitions.{is_empty}
use Rattle.kp_rules.specs.Records.{Core}

-- how many requests are in flight to the node
abbrev pub in_flight_to : ℕ → Core → ℕ
in_flight_to node s = length (to_node node s.requests)

-- as many are in flight to the node as may
abbrev pub is_full : Option ℕ → ℕ → Core → Bool
is_full None node s = false
is_full (Some window) node s = nat_le window (in_flight_to node s)

-- how many more there is room for in a round: 16, or those that the window has room for
abbrev pub room_in : Option ℕ → ℕ → Core → ℕ
room_in None node s = 16
room_in (Some window) node s = min 16 (window - in_flight_to node s)

-- how many more may go out in a round; none where nothing is queued or open
abbrev pub most_requests : Option ℕ → ℕ → Core → ℕ
most_requests window node s = if is_empty (busy_in s.partitions) then 0 else room_in window node s

-- the oldest one to the node has waited for half of request.timeout.ms
abbrev pub is_slow : (node now : ℕ) → Core → Bool
is_slow node now s = elim (oldest_to node s) [ None ↦ false | Some sent ↦ is_over sent (s.config.request_timeout_ms / 2) now ]

-- an answer in this round widens it: as many are in flight as may, and none of them has waited so long
abbrev pub may_widen : (node now : ℕ) → Option ℕ → Core → Bool
may_widen node now window s = is_full window node s && not (is_slow node now s)

-- one more; it is none any more where the core allows no more than that
abbrev pub wider : Option ℕ → Core → Option ℕ
wider None s = None
wider (Some window) s = if nat_le s.config.max_in_flight_requests_per_connection (window + 1) then None else Some (window + 1)

-- the window behind the replies of a round: wider, where an answer widens it and not as many are in flight any more as may
abbrev pub widened : Bool → ℕ → Core → Option ℕ → Option ℕ
widened widens node after window = if widens && not (is_full window node after) then wider window after else window

-- the window behind a round: wider, where one was answered that widens it
abbrev pub window_after : (node now : ℕ) → (before after : Core) → Option ℕ → Option ℕ
window_after node now before after window = widened (may_widen node now window before) node after window
