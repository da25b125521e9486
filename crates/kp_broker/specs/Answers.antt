-- What a loopback broker answers to a request, and what becomes of it (protocol guide; KIP-98 on producer ids).
use Rattle.std.specs.Prelude.{ℕ, ◌+◌, List, [], ◌∷◌, length, map, fold, scan, flat_map, ℤ, pos, negsuc, Option, Some, None, is_none, Result, Bool, false, ◌&&◌, nat_abs, nat_le, get_or, slice_get, slice_set, codes, bytes_eq, if◌then◌else◌}
use Rattle.std.specs.List.{range_with_len}
use Rattle.std.specs.Ordering.{int_eq}
use Rattle.kp_batch.specs.declared.batch.Batch.{Batch}
use Rattle.kp_batch.specs.declared.fault.BatchFault.{BatchFault}
use Rattle.kp_batch.specs.Reading.{batch_at}
use Rattle.kp_frames.specs.declared.metadata.Broker.{Broker as Node}
use Rattle.kp_frames.specs.declared.metadata.MetadataRequest.{MetadataRequest}
use Rattle.kp_frames.specs.declared.metadata.MetadataResponse.{MetadataResponse}
use Rattle.kp_frames.specs.declared.metadata.PartitionMetadata.{PartitionMetadata}
use Rattle.kp_frames.specs.declared.metadata.TopicMetadata.{TopicMetadata}
use Rattle.kp_frames.specs.declared.produce.PartitionProduceData.{PartitionProduceData}
use Rattle.kp_frames.specs.declared.produce.PartitionProduceResponse.{PartitionProduceResponse}
use Rattle.kp_frames.specs.declared.produce.ProduceRequest.{ProduceRequest}
use Rattle.kp_frames.specs.declared.produce.ProduceResponse.{ProduceResponse}
use Rattle.kp_frames.specs.declared.produce.TopicProduceData.{TopicProduceData}
use Rattle.kp_frames.specs.declared.produce.TopicProduceResponse.{TopicProduceResponse}
use Rattle.kp_frames.specs.declared.producer_id.InitProducerIdResponse.{InitProducerIdResponse}
use Rattle.kp_frames.specs.declared.request.Request.{Request}
use Rattle.kp_frames.specs.declared.request.RequestBody.{RequestBody}
use Rattle.kp_frames.specs.declared.request.RequestBody.TheVariants as asked
use Rattle.kp_frames.specs.declared.response.Response.{Response}
use Rattle.kp_frames.specs.declared.response.ResponseBody.{ResponseBody}
use Rattle.kp_frames.specs.declared.response.ResponseBody.TheVariants as told
use Rattle.kp_log.specs.declared.whim.Whim.{Whim}
use Rattle.kp_log.specs.BrokerStep.{Answered, answered, error_of}
use Rattle.kp_log.specs.Log.{Log}
use Rattle.kp_log.specs.SequenceRule.{Judgement, offered, offered_then, code_told}
use Rattle.kp_broker.specs.Broker.{Broker, LAST_PRODUCER_ID, leader_of, leads}

-- ---- error codes, under their names in the protocol guide

abbrev pub NO_ERROR : ℤ
NO_ERROR = pos 0

abbrev pub UNKNOWN_SERVER_ERROR : ℤ
UNKNOWN_SERVER_ERROR = negsuc 0

abbrev pub UNKNOWN_TOPIC_OR_PARTITION : ℤ
UNKNOWN_TOPIC_OR_PARTITION = pos 3

abbrev pub NOT_LEADER_OR_FOLLOWER : ℤ
NOT_LEADER_OR_FOLLOWER = pos 6

abbrev pub INVALID_REQUEST : ℤ
INVALID_REQUEST = pos 42

-- ---- Metadata

-- the first node
abbrev pub CONTROLLER : ℤ
CONTROLLER = pos 0

-- the node at a place in the list of ports
abbrev pub node_metadata : List ℕ → ℕ → Node
node_metadata ports n = record { node_id = pos n; host = codes "127.0.0.1"; port = pos (get_or ports n 0); rack = None }

-- the nodes upwards
abbrev pub nodes_metadata : List ℕ → List Node
nodes_metadata ports = map (node_metadata ports) (range_with_len 0 (length ports))

-- its leader has the one replica
abbrev pub partition_metadata : Broker → ℕ → PartitionMetadata
partition_metadata b p =
    let leader = pos (leader_of b p) in
    record {
      error_code = NO_ERROR;
      partition = pos p;
      leader = leader;
      replicas = leader ∷ [];
      isr = leader ∷ [];
    }

-- its own topic, the partitions upwards
abbrev pub own_topic : Broker → TopicMetadata
own_topic b = record {
  error_code = NO_ERROR;
  name = b.topic;
  is_internal = false;
  partitions = map (partition_metadata b) (range_with_len 0 (length b.logs));
}

abbrev pub unknown_topic : List ℕ → TopicMetadata
unknown_topic name = record {
  error_code = UNKNOWN_TOPIC_OR_PARTITION;
  name = name;
  is_internal = false;
  partitions = [];
}

abbrev pub topic_metadata : Broker → List ℕ → TopicMetadata
topic_metadata b name = if bytes_eq name b.topic then own_topic b else unknown_topic name

-- the topics that are asked for, in their order, or all where none is named
abbrev pub topics_metadata : Broker → Option (List (List ℕ)) → List TopicMetadata
topics_metadata b None = own_topic b ∷ []
topics_metadata b (Some names) = map (topic_metadata b) names

abbrev pub metadata_answer : Broker → MetadataRequest → MetadataResponse
metadata_answer b r = record {
  brokers = nodes_metadata b.ports;
  controller_id = CONTROLLER;
  topics = topics_metadata b r.topics;
}

-- ---- InitProducerId

abbrev pub id_given : ℕ → InitProducerIdResponse
id_given id = record {
  throttle_time_ms = pos 0;
  error_code = NO_ERROR;
  producer_id = pos id;
  producer_epoch = pos 0;
}

-- no id and no epoch go with an error
abbrev pub no_id : ℤ → InitProducerIdResponse
no_id code = record {
  throttle_time_ms = pos 0;
  error_code = code;
  producer_id = negsuc 0;
  producer_epoch = negsuc 0;
}

-- whether one is left
abbrev pub has_id : Broker → Bool
has_id b = nat_le b.next_id LAST_PRODUCER_ID

-- The next id, upwards, and none behind the last; a producer of transactions has no place here.
abbrev pub id_answer : Broker → Option (List ℕ) → InitProducerIdResponse
id_answer b None = if has_id b then id_given b.next_id else no_id UNKNOWN_SERVER_ERROR
id_answer b (Some transactional_id) = no_id INVALID_REQUEST

-- an id that was given is not given again
abbrev pub after_id : Broker → Option (List ℕ) → Broker
after_id b None = if has_id b then record b { next_id = b.next_id + 1 } else b
after_id b (Some transactional_id) = b

-- ---- a Produce request's parts

-- A batch, or bytes that are none, and the partition for which they are.
pub record Part : Type 0 where
  pub topic : List ℕ
  pub partition : ℤ
  pub records : List ℕ

abbrev pub part_in : List ℕ → PartitionProduceData → Part
part_in topic d = record { topic = topic; partition = d.partition; records = d.records }

abbrev pub parts_in : TopicProduceData → List Part
parts_in t = map (part_in t.topic) t.partitions

-- in the request's order
abbrev pub parts_of : ProduceRequest → List Part
parts_of r = flat_map parts_in r.topics

-- ---- one part

abbrev pub log_at : ℤ → List Log → Option Log
log_at (pos p) logs = slice_get logs p
log_at (negsuc n) logs = None

-- the log of a topic's partition, where this is there
abbrev pub log_for : Broker → List ℕ → ℤ → Option Log
log_for b topic partition = if bytes_eq topic b.topic then log_at partition b.logs else None

abbrev pub with_log : Broker → Part → Log → Broker
with_log b part log = record b { logs = slice_set b.logs (nat_abs part.partition) log }

-- What is answered for a part, and the broker after it.
pub record Taken : Type 0 where
  pub answer : Answered
  pub broker : Broker

-- the code of a whim stands in the place of any other
abbrev pub code_by : Option Whim → ℤ → ℤ
code_by None code = code
code_by (Some whim) code = code_told whim

-- no log is asked
abbrev pub refused : Option Whim → ℤ → Broker → Taken
refused whim code b = record { answer = error_of (code_by whim code); broker = b }

-- what a log does with it
abbrev pub offered_by : Option Whim → Log → Result Batch BatchFault → Judgement
offered_by None log batch = offered log batch
offered_by (Some whim) log batch = offered_then log whim batch

-- by its log
abbrev pub stored : Option Whim → Log → Broker → Part → Taken
stored whim log b part =
    let j = offered_by whim log (batch_at part.records) in
    record { answer = answered j.answer; broker = with_log b part j.log }

-- by no log, since another node leads the partition, whatever the whim
abbrev pub not_led : Broker → Taken
not_led b = record { answer = error_of NOT_LEADER_OR_FOLLOWER; broker = b }

-- by its log, if there is one, where the node that is asked leads the partition
abbrev pub taken_by : Option Log → Option Whim → ℕ → Broker → Part → Taken
taken_by None whim node b part = refused whim UNKNOWN_TOPIC_OR_PARTITION b
taken_by (Some log) whim node b part =
    if leads node b (nat_abs part.partition) then stored whim log b part else not_led b

-- the acks of a request that waits for all replicas
abbrev pub ALL_REPLICAS : ℤ
ALL_REPLICAS = negsuc 0

-- it is one of an idempotent producer without transactions
abbrev pub is_idempotent : ProduceRequest → Bool
is_idempotent r = is_none r.transactional_id && int_eq r.acks ALL_REPLICAS

abbrev pub taken : Option Whim → ℕ → ProduceRequest → Broker → Part → Taken
taken whim node r b part =
    if is_idempotent r
    then taken_by (log_for b part.topic part.partition) whim node b part
    else refused whim INVALID_REQUEST b

-- ---- all parts, one after the other

-- the broker after some of them
abbrev pub after_parts : Option Whim → ℕ → ProduceRequest → Broker → List Part → Broker
after_parts whim node r b parts = fold (λ b part. (taken whim node r b part).broker) b parts

-- the records keep their own timestamps
abbrev pub NO_APPEND_TIME : ℤ
NO_APPEND_TIME = negsuc 0

abbrev pub entry_of : ℤ → Answered → PartitionProduceResponse
entry_of partition a = record {
  partition = partition;
  error_code = a.code;
  base_offset = a.base;
  log_append_time_ms = NO_APPEND_TIME;
}

abbrev pub part_answer : Option Whim → ℕ → ProduceRequest → Broker → Part → PartitionProduceResponse
part_answer whim node r b part = entry_of part.partition (taken whim node r b part).answer

-- each by the broker as the parts before it left it
abbrev pub part_answers : Option Whim → ℕ → ProduceRequest → Broker → List Part → List PartitionProduceResponse
part_answers whim node r b parts = scan (λ b part. (taken whim node r b part).broker) (part_answer whim node r) b parts

abbrev pub topic_answer : Option Whim → ℕ → ProduceRequest → Broker → TopicProduceData → TopicProduceResponse
topic_answer whim node r b t = record { topic = t.topic; partitions = part_answers whim node r b (parts_in t) }

abbrev pub topic_answers : Option Whim → ℕ → ProduceRequest → Broker → List TopicProduceData → List TopicProduceResponse
topic_answers whim node r b topics =
    scan (λ b t. after_parts whim node r b (parts_in t)) (topic_answer whim node r) b topics

abbrev pub produce_answer : Option Whim → ℕ → ProduceRequest → Broker → ProduceResponse
produce_answer whim node r b = record { topics = topic_answers whim node r b r.topics; throttle_time_ms = pos 0 }

-- ---- any request, to a node

-- A whim says nothing of a request that has no parts.
abbrev pub body_answer : Option Whim → ℕ → Broker → RequestBody → ResponseBody
body_answer whim node b (asked.Produce r) = told.Produce (produce_answer whim node r b)
body_answer whim node b (asked.Metadata r) = told.Metadata (metadata_answer b r)
body_answer whim node b (asked.InitProducerId r) = told.InitProducerId (id_answer b r.transactional_id)

abbrev pub answer_to : Option Whim → ℕ → Broker → Request → Response
answer_to whim node b request = record { correlation = request.correlation; body = body_answer whim node b request.body }

-- the broker once the answer goes out
abbrev pub after_answer : Option Whim → ℕ → Broker → RequestBody → Broker
after_answer whim node b (asked.Produce r) = after_parts whim node r b (parts_of r)
after_answer whim node b (asked.Metadata r) = b
after_answer whim node b (asked.InitProducerId r) = after_id b r.transactional_id
