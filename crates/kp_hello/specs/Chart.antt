-- What an answer to Metadata says of the cluster: its nodes, and who leads each partition of the topic.
use Rattle.std.specs.Prelude.{◌≡◌, ℕ, ◌^◌, ◌-◌, ◌||◌, Bool, List, [], length, map, pos, int_lt, nat_abs, ℤ, Option, Some, None, Result, Ok, Err, if◌then◌else◌}
use Rattle.std.specs.List.{filter_map, find, list_any, range_with_len}
use Rattle.std.specs.Option.{option_and_then}
use Rattle.std.specs.Ordering.{int_eq}
use Rattle.kp_wire.specs.Reading.{◌>>=◌}
use Rattle.kp_frames.specs.declared.api.Api.TheVariants as api
use Rattle.kp_frames.specs.declared.metadata.Broker.{Broker}
use Rattle.kp_frames.specs.declared.metadata.PartitionMetadata.{PartitionMetadata}
use Rattle.kp_frames.specs.declared.response.Response.{Response}
use Rattle.kp_frames.specs.declared.response.ResponseBody.{ResponseBody}
use Rattle.kp_frames.specs.declared.response.ResponseBody.TheVariants.{Produce, Metadata, InitProducerId}
use Rattle.kp_frames.specs.Response.{response_at}
use Rattle.kp_hello.specs.declared.chart.Chart.{Chart}
use Rattle.kp_hello.specs.declared.chart.Node.{Node}
use Rattle.kp_hello.specs.declared.fault.HandshakeFault.{HandshakeFault}
use Rattle.kp_hello.specs.declared.fault.HandshakeFault.TheVariants.{OutOfMemory}
use Rattle.kp_hello.specs.Hello.{has_number, in_handshake, partitions_judged}

-- ---- the nodes

abbrev pub brokers_of : ResponseBody → List Broker
brokers_of (Produce r) = []
brokers_of (Metadata r) = r.brokers
brokers_of (InitProducerId r) = []

-- a broker with a port that there may be
abbrev pub node_of : Broker → Option Node
node_of broker =
    if int_lt broker.port (pos 1) || int_lt (pos (2 ^ 16 - 1)) broker.port
    then None
    else Some (record { id = broker.node_id; host = broker.host; port = nat_abs broker.port })

abbrev pub nodes_of : List Broker → List Node
nodes_of brokers = filter_map node_of brokers

-- ---- the leaders

-- LEADER_NOT_AVAILABLE
abbrev pub NO_LEADER : ℤ
NO_LEADER = pos 5

-- one of the nodes has this id
abbrev pub is_listed : List Node → ℤ → Bool
is_listed nodes id = list_any (λ node. int_eq node.id id) nodes

-- the leader's id, where the partition has one that is listed
abbrev pub leader_of : List Node → PartitionMetadata → Option ℤ
leader_of nodes p =
    if int_eq p.error_code NO_LEADER || int_lt p.leader (pos 0) then None
    else if is_listed nodes p.leader then Some p.leader
    else None

-- the leader of partition k, by what bears its number
abbrev pub leader_at : List Node → List PartitionMetadata → ℕ → Option ℤ
leader_at nodes ps k = option_and_then (leader_of nodes) (find (has_number k) ps)

-- partition by partition
abbrev pub leaders_of : List Node → List PartitionMetadata → List (Option ℤ)
leaders_of nodes ps = map (leader_at nodes ps) (range_with_len 0 (length ps))

-- ---- the chart

pub record Charted : Type 0 where
  pub nodes : List Node
  pub leaders : List (Option ℤ)

abbrev pub seen : Chart → Charted
seen chart = record { nodes = chart.nodes.items; leaders = chart.leaders.items }

abbrev pub charted : List Node → List PartitionMetadata → Charted
charted nodes ps = record { nodes = nodes; leaders = leaders_of nodes ps }

-- by the answer to Metadata, or the first fault
unfoldable pub chart_judged : List ℕ → Response → Result Charted HandshakeFault
chart_judged topic r = do
  partitions ← partitions_judged topic r
  Ok (charted (nodes_of (brokers_of r.body)) partitions)

-- by its content
unfoldable pub chart_given : List ℕ → List ℕ → Result Charted HandshakeFault
chart_given topic content = in_handshake (response_at api.Metadata content) >>= chart_judged topic

-- What a function gave, seen by view, is what is given, unless memory was refused.
abbrev pub Gives : {X Y : Type 0} → (X → Y) → Result X HandshakeFault → Result Y HandshakeFault → Type 0
Gives view (Ok x) given = given ≡ Ok (view x)
Gives view (Err OutOfMemory) given = Unit {0}
Gives view (Err fault) given = given ≡ Err fault
