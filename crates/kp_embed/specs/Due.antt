-- When a producer is next to be looked at.
use Rattle.std.specs.Prelude.{◌≡◌, ℕ, ◌+◌, ◌-◌, ◌^◌, ◌≤◌, max, min, Option, Some, None, if◌then◌else◌}
use Rattle.std.specs.Option.{option_map}
use Rattle.kp_cluster.specs.Actions as cluster
use Rattle.kp_cluster.specs.Cluster.{Cluster}
use Rattle.kp_core.specs.Spent.{can_only_end}
use Rattle.kp_rules.specs.Due as core
use Rattle.kp_rules.specs.Records.{Core}

-- the next millisecond, in 64 bits
abbrev pub following : ℕ → ℕ
following now = min (now + 1) (2 ^ 64 - 1)

-- the moment, or this one where it was before
abbrev pub no_sooner : ℕ → Option ℕ → Option ℕ
no_sooner from due = option_map (max from) due

-- the core's earliest moment from this one on, which is this one where its end is all that is left for it
abbrev pub core_due : ℕ → Core → Option ℕ
core_due from s = if can_only_end s then Some from else core.next_due_from from s

-- The core's earliest moment after now, or the cluster's, which is told as the next millisecond where it has passed.
abbrev pub due_of : ℕ → Core → Cluster → Option ℕ
due_of now s c = cluster.earlier (core_due (following now) s) (no_sooner (following now) (cluster.next_due c))

-- There is a moment that is told, and it is not later than this one.
abbrev pub NotLater : (due told : Option ℕ) → Type 0
NotLater None told = Unit {0}
NotLater (Some due) told = (moment : ℕ) × (told ≡ Some moment) × (moment ≤ due)
