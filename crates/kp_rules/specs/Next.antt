-- What the next request to a node asks for: a fresh producer id, or the batches of all its partitions
-- that may send.
use Rattle.std.specs.Prelude.{ℕ, ◌+◌, ◌-◌, true, not, List, [], ◌∷◌, ◌++◌, Option, Some, None, option_map, drop, take, find, filter_map, ◌==◌, ◌&&◌, nat_le, if◌then◌else◌}
use Rattle.std.specs.List.{enumerate_from}
use Rattle.kp_accum.specs.declared.config.Config.{Config}
use Rattle.kp_accum.specs.declared.flags.Flags.{Flags}
use Rattle.kp_accum.specs.Queue.{size_of}
use Rattle.kp_accum.specs.Ready.{is_over}
use Rattle.kp_rules.specs.Records.{HandedBatch, Partition, Demand, Produce, InitProducerId, Turn, Core}
use Rattle.kp_rules.specs.Attempts.{has_window, is_id_asked}
use Rattle.kp_rules.specs.Flush.{is_flushed}
use Rattle.kp_rules.specs.MaySend.{sends, wants_id}
use Rattle.kp_rules.specs.Partitions.{leads}

-- a partition's batch in a request
pub record Sending : Type 0 where
  pub partition : ℕ
  pub batch : HandedBatch

-- ---- the batches

abbrev pub flags_of : Core → Flags
flags_of s = record { exhausted = s.exhausted; closing = s.closing; flushing = not (is_flushed s) }

-- how many partitions stand up to the last one used for this node
abbrev pub used_up_to : ℕ → List Turn → ℕ
used_up_to node turns = elim (find (λ x. x.node == node) turns) [ None ↦ 0 | Some x ↦ x.last_used + 1 ]

-- the partitions with their numbers, cyclically after the last one used for this node
abbrev pub in_turn : ℕ → Core → List (ℕ × Partition)
in_turn node s =
    let n = used_up_to node s.turns in
    let all = enumerate_from 0 s.partitions in
    drop n all ++ take n all

-- up to the first with which the sizes would be above the room
unfoldable pub fitting : ℕ → List Sending → List Sending
fitting room [] = []
fitting room (x ∷ xs) =
    let size = size_of x.batch.items in
    if nat_le size room then x ∷ fitting (room - size) xs else []

-- ---- the id

-- The lowest of the node's partitions that wants an id, while none is asked for, and the last request
-- for one that was refused or dropped was so retry.backoff.ms ago.
abbrev pub next_asking : ℕ → ℕ → Core → Option ℕ
next_asking node now s =
    if not (is_id_asked s)
    && elim s.id_waits [ None ↦ true | Some since ↦ is_over since s.config.retry_backoff_ms now ]
    then option_map (λ x. x.0)
    (find (λ x. leads node x.1 && wants_id s.config x.1) (enumerate_from 0 s.partitions))
    else None

-- ---- the request, by any choice of what a partition sends: the producer's is `sends`, and others
-- show why its rules are needed

abbrev pub Choice : Type 0
Choice = Config → Flags → ℕ → Partition → Option HandedBatch

-- what a partition sends to this node: nothing, where another one leads it
abbrev pub sends_to : ℕ → Choice → Choice
sends_to node choice c flags now t = if leads node t then choice c flags now t else None

-- the same with the partition's number
abbrev pub sending_by : Choice → ℕ → Core → ℕ → (ℕ × Partition) → Option Sending
sending_by choice node s now x =
    option_map (λ b. record { partition = x.0; batch = b })
    (sends_to node choice s.config (flags_of s) now x.1)

-- The partitions that send, in turn, with their batches, as far as they fit into a request.
abbrev pub batches_by : Choice → ℕ → ℕ → Core → List Sending
batches_by choice node now s =
    fitting s.config.max_request_size (filter_map (sending_by choice node s now) (in_turn node s))

-- An id goes before any batches.
abbrev pub demand_with : List Sending → ℕ → ℕ → Core → Option (Demand Sending)
demand_with batches node now s =
    if not (has_window node s) then None
    else elim (next_asking node now s) [
      | Some p ↦ Some (InitProducerId p)
      | None ↦ elim batches [ [] ↦ None | x ∷ xs ↦ Some (Produce (x ∷ xs)) ]
    ]

-- ---- the request

unfoldable pub next_batches : ℕ → ℕ → Core → List Sending
next_batches node now s = batches_by sends node now s

unfoldable pub next_demand : ℕ → ℕ → Core → Option (Demand Sending)
next_demand node now s = demand_with (next_batches node now s) node now s
