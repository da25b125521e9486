-- Attempts: a batch in a request. An open batch is in flight while its last attempt awaits a reply,
-- else it waits for a retry.
use Rattle.std.specs.Prelude.{ℕ, Bool, true, false, List, [], length, Option, is_some, filter, find, ◌==◌, nat_lt}
use Rattle.std.specs.List.{list_any}
use Rattle.kp_rules.specs.declared.attempt.Attempt.TheVariants.{InFlight, Waiting}
use Rattle.kp_rules.specs.Records.{Open, Partition, Demand, Produce, InitProducerId, Request, Core}
use Rattle.kp_rules.specs.Partitions.{partition_at}

-- ---- of a batch

-- its last attempt is the one in request k
abbrev pub awaits : ℕ → Open → Bool
awaits k o = elim o.attempt [ InFlight c ↦ c == k | Waiting since ↦ false ]

abbrev pub is_waiting : Open → Bool
is_waiting o = elim o.attempt [ InFlight c ↦ false | Waiting since ↦ true ]

-- ---- of a partition

-- the batch that awaits the reply to request k
abbrev pub awaiting : ℕ → Partition → Option Open
awaiting k t = find (awaits k) t.open_batches

abbrev pub lowest_waiting : Partition → Option Open
lowest_waiting t = find is_waiting t.open_batches

-- ---- requests

-- the partitions whose batches a request has, in its order
abbrev pub partitions_of : Demand ℕ → List ℕ
partitions_of (Produce ps) = ps
partitions_of (InitProducerId p) = []

abbrev pub asks_for_id : Request → Bool
asks_for_id r = elim r.demand [ Produce ps ↦ false | InitProducerId p ↦ true ]

abbrev pub is_id_asked : Core → Bool
is_id_asked s = list_any asks_for_id s.requests

-- A request for batches is in flight while one of its attempts is, one for an id until it is
-- answered or dropped.
abbrev pub is_live : List Partition → Request → Bool
is_live ts r = elim r.demand [
  | Produce ps ↦ list_any (λ p. is_some (awaiting r.correlation (partition_at p ts))) ps
  | InitProducerId p ↦ true
]

-- it went to this node
abbrev pub goes_to : ℕ → Request → Bool
goes_to node r = r.node == node

-- those that are in flight to this node, of these
abbrev pub to_node : ℕ → List Request → List Request
to_node node requests = filter (goes_to node) requests

-- one request more may be in flight to this node
unfoldable pub has_window : ℕ → Core → Bool
has_window node s = nat_lt (length (to_node node s.requests)) s.config.max_in_flight_requests_per_connection
