-- When Metadata is asked for, over which connection, and when its answer is late.
use Rattle.std.specs.Prelude.{ℕ, ◌+◌, Bool, true, false, Option, Some, None, nat_le, ◌&&◌, is_none, if◌then◌else◌}
use Rattle.std.specs.Option.{option_map_or}
use Rattle.kp_cluster.specs.declared.metadata.Metadata.{Metadata}
use Rattle.kp_cluster.specs.Cluster.{Cluster, is_open_at, with_given_up, asking_again, chart_refused}

-- Metadata is asked no more often, in milliseconds.
abbrev pub METADATA_PAUSE_MS : ℕ
METADATA_PAUSE_MS = 100

-- so much time has gone since that moment
abbrev pub is_past : ℕ → ℕ → ℕ → Bool
is_past wait now at = nat_le (at + wait) now

-- Metadata may be asked: it is wanted, none is awaited, and the pause since the last one is over.
abbrev pub is_to_be_asked : ℕ → Metadata → Bool
is_to_be_asked now m = m.wanted && is_none m.awaited && option_map_or (is_past METADATA_PAUSE_MS now) m.asked_at true

abbrev pub may_ask : ℕ → ℕ → Cluster → Bool
may_ask n now c = is_open_at n c.slots && is_to_be_asked now c.metadata

-- it was asked over this connection
abbrev pub asked : ℕ → ℕ → Cluster → Cluster
asked n now c = record c { metadata = record c.metadata { wanted = false; awaited = Some n; asked_at = Some now } }

-- ---- as time goes on

-- the answer was awaited for longer than request.timeout.ms
abbrev pub is_late : ℕ → Cluster → Bool
is_late now c = option_map_or (is_past c.config.request_timeout_ms now) c.metadata.asked_at false

-- the last chart is older than metadata.max.age.ms
abbrev pub is_aged : ℕ → Cluster → Bool
is_aged now c = option_map_or (is_past c.config.metadata_max_age_ms now) c.metadata.charted_at false

-- Where none is awaited, Metadata is wanted once the last chart is aged; an answer that is late gives its connection up,
-- and Metadata is wanted again.
abbrev pub heeded_with : ℕ → Cluster → Option ℕ → Cluster
heeded_with now c None = if is_aged now c then asking_again c else c
heeded_with now c (Some n) = if is_late now c then chart_refused (with_given_up n c) else c

abbrev pub heeded : ℕ → Cluster → Cluster
heeded now c = heeded_with now c c.metadata.awaited
