-- When a core is next to be looked at.
use Rattle.std.specs.Prelude.{ℕ, ◌+◌, ◌-◌, ◌^◌, min, Bool, not, List, [], ◌∷◌, ◌++◌, map, filter, flat_map, Option, Some, None, nat_le, ◌&&◌, if◌then◌else◌}
use Rattle.std.specs.List.{list_any, reduce}
use Rattle.kp_accum.specs.declared.config.Config.{Config}
use Rattle.kp_accum.specs.Queue.{Pending}
use Rattle.kp_rules.specs.declared.attempt.Attempt.TheVariants.{InFlight, Waiting}
use Rattle.kp_rules.specs.Records.{Open, Partition, Core}
use Rattle.kp_rules.specs.Attempts.{is_id_asked, lowest_waiting}
use Rattle.kp_rules.specs.MaySend.{wants_id}

-- ---- one partition

-- the front of its queue: its deadline, and the end of its linger
abbrev pub front_moments : Config → List Pending → List ℕ
front_moments c [] = []
front_moments c (front ∷ behind) =
    (front.begun + c.delivery_timeout_ms) ∷ (front.begun + c.linger_ms) ∷ []

-- its lowest batch that waits: the end of its backoff
abbrev pub retry_moments : Config → Option Open → List ℕ
retry_moments c None = []
retry_moments c (Some o) =
    elim o.attempt [ InFlight k ↦ [] | Waiting since ↦ (since + c.retry_backoff_ms) ∷ [] ]

-- with the deadlines of its open batches
unfoldable pub partition_moments : Config → Partition → List ℕ
partition_moments c t =
    map (λ o. o.begun + c.delivery_timeout_ms) t.open_batches
    ++ front_moments c t.queue
    ++ retry_moments c (lowest_waiting t)

-- ---- the core

-- Where a partition wants an id and none is asked for: when it may be.
abbrev pub id_moments : Core → List ℕ
id_moments s =
    if not (is_id_asked s) && list_any (wants_id s.config) s.partitions
    then elim s.id_waits [ None ↦ 0 | Some since ↦ since + s.config.retry_backoff_ms ] ∷ []
    else []

-- with timeouts of requests, and the moments of partitions
unfoldable pub moments : Core → List ℕ
moments s =
    map (λ r. r.sent + s.config.request_timeout_ms) s.requests
    ++ flat_map (partition_moments s.config) s.partitions
    ++ id_moments s

-- a moment that comes is not before this one, and a number of 64 bits
abbrev pub comes : ℕ → ℕ → Bool
comes from at = nat_le from at && nat_le at (2 ^ 64 - 1)

abbrev pub earliest : ℕ → List ℕ → Option ℕ
earliest from moments = reduce min (filter (comes from) moments)

unfoldable pub next_due_from : ℕ → Core → Option ℕ
next_due_from from s = earliest from (moments s)

-- whenever it was
abbrev pub next_due : Core → Option ℕ
next_due s = next_due_from 0 s
