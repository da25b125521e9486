-- What a loopback broker has: it answers as each node of a cluster.
use Rattle.std.specs.Prelude.{◌≡◌, ℕ, ◌+◌, ◌-◌, ◌%◌, ◌^◌, ◌<◌, ◌≤◌, Bool, List, [], ◌∷◌, length, map, get_or, min, replicate, nat_eq, nat_lt, if◌then◌else◌, IsUtf8}
use Rattle.std.specs.List.{AllByRecursion, range_with_len}
use Rattle.kp_frames.specs.declared.request.RequestBody.{RequestBody}
use Rattle.kp_frames.specs.declared.request.RequestBody.TheVariants.{Produce, Metadata, InitProducerId}
use Rattle.kp_log.specs.Log.{Log, empty}

-- Its one topic, the ports where its nodes listen, the nodes that lead its partitions, the partitions' logs, the producer
-- id that it gives next, and how many Produce requests came to its nodes. A node is its place in the list of ports.
pub record Broker : Type 0 where
  pub topic : List ℕ
  pub ports : List ℕ
  pub leaders : List ℕ
  pub logs : List Log
  pub next_id : ℕ
  pub produced : ℕ

-- the first producer id that it gives
abbrev pub FIRST_PRODUCER_ID : ℕ
FIRST_PRODUCER_ID = 1000

-- the last: ids are int64s
abbrev pub LAST_PRODUCER_ID : ℕ
LAST_PRODUCER_ID = 2 ^ 63 - 1

-- the nodes lead the partitions in turn
abbrev pub first_leader : List ℕ → ℕ → ℕ
first_leader ports partition = partition % length ports

-- a broker of nodes at these ports, to which nothing came
abbrev pub clustered : List ℕ → ℕ → List ℕ → Broker
clustered topic partitions ports = record {
  topic = topic;
  ports = ports;
  leaders = map (first_leader ports) (range_with_len 0 partitions);
  logs = replicate partitions empty;
  next_id = FIRST_PRODUCER_ID;
  produced = 0;
}

-- a broker of one node
abbrev pub opened : List ℕ → ℕ → ℕ → Broker
opened topic partitions port = clustered topic partitions (port ∷ [])

-- ---- leaders

-- the node that leads a partition
abbrev pub leader_of : Broker → ℕ → ℕ
leader_of b partition = get_or b.leaders partition 0

abbrev pub leads : ℕ → Broker → ℕ → Bool
leads node b partition = nat_eq (leader_of b partition) node

-- the leader of a partition, once all that one node leads went to another
abbrev pub leader_after : ℕ → ℕ → ℕ → ℕ
leader_after node to leader = if nat_eq leader node then to else leader

abbrev pub with_leaders : List ℕ → Broker → Broker
with_leaders leaders b = record b { leaders = leaders }

-- All that a node leads goes to another, where there is such a node; else nothing moves.
abbrev pub moved : ℕ → ℕ → Broker → Broker
moved node to b = if nat_lt to (length b.ports) then with_leaders (map (leader_after node to) b.leaders) b else b

-- ---- the count of Produce requests

-- where it stops
abbrev pub COUNT_LIMIT : ℕ
COUNT_LIMIT = 2 ^ 64 - 1

-- the broker once such a request came, whatever is then done with it
abbrev pub counted : RequestBody → Broker → Broker
counted (Produce r) b = record b { produced = min (b.produced + 1) COUNT_LIMIT }
counted (Metadata r) b = b
counted (InitProducerId r) b = b

-- ---- what is true of each broker

-- the most bytes of a topic's name
abbrev pub TOPIC_LIMIT : ℕ
TOPIC_LIMIT = 249

abbrev pub PARTITION_LIMIT : ℕ
PARTITION_LIMIT = 1024

-- the most nodes of a cluster
abbrev pub NODE_LIMIT : ℕ
NODE_LIMIT = 64

-- Its topic has a name that a topic may have, and from 1 to 1024 partitions, each led by one of its 1 to 64 nodes.
pub record IsSound (topic ports leaders : List ℕ) (logs : List Log) : Type 0 where
  pub name : length topic ≤ TOPIC_LIMIT
  pub text : IsUtf8 topic
  pub some_partitions : 1 ≤ length logs
  pub few_partitions : length logs ≤ PARTITION_LIMIT
  pub some_nodes : 1 ≤ length ports
  pub few_nodes : length ports ≤ NODE_LIMIT
  pub led : length leaders ≡ length logs
  pub by_nodes : AllByRecursion (λ leader. leader < length ports) leaders
