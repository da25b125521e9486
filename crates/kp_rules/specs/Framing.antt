-- A request as bytes: the whole frame of the message (protocol guide, "Produce API" and
-- "InitProducerId API"; acks -1 asks for an answer once all replicas in sync have the batches).
use Rattle.std.specs.Prelude.{ℕ, ◌-◌, ◌^◌, ◌≤◌, List, [], ◌∷◌, length, map, pos, negsuc, Some, None}
use Rattle.std.specs.List.{AllByRecursion}
use Rattle.kp_batch.specs.declared.batch.Batch.{Batch}
use Rattle.kp_batch.specs.declared.batch.BatchHead.{BatchHead}
use Rattle.kp_batch.specs.Spelling as batch
use Rattle.kp_batch.specs.Spelling.{written, HasSpelling}
use Rattle.kp_accum.specs.declared.config.Config.{Config}
use Rattle.kp_accum.specs.Queue.{body_of}
use Rattle.kp_frames.specs.declared.frame.TheConstants.{CONTENT_LIMIT}
use Rattle.kp_frames.specs.declared.produce.PartitionProduceData.{PartitionProduceData}
use Rattle.kp_frames.specs.declared.request.Request.{Request as Message}
use Rattle.kp_frames.specs.declared.request.RequestBody.{RequestBody}
use Rattle.kp_frames.specs.declared.request.RequestBody.TheVariants as body
use Rattle.kp_frames.specs.Request as message
use Rattle.kp_frames.specs.Request.{FitsRequest}
use Rattle.kp_frames.specs.Stream.{frame}
use Rattle.kp_rules.specs.declared.names.Names.{Names}
use Rattle.kp_rules.specs.Records.{HandedBatch, Demand, Produce, InitProducerId}
use Rattle.kp_rules.specs.Next.{Sending}
use Rattle.kp_rules.specs.Requesting.{Packet}

-- ---- a batch

abbrev pub head_of : HandedBatch → BatchHead
head_of b = record { producer_id = pos b.id; epoch = pos 0; base_sequence = pos b.sequence }

-- the record batch that it is sent as
abbrev pub batch_of : HandedBatch → Batch
batch_of b = written (head_of b) (map body_of b.items)

abbrev pub data_of : Sending → PartitionProduceData
data_of x = record { partition = pos x.partition; records = batch.spelling (batch_of x.batch) }

-- ---- the message

abbrev pub body_for : Config → Names → Demand Sending → RequestBody
body_for c names (Produce xs) = body.Produce (record {
  transactional_id = None;
  acks = negsuc 0;
  timeout_ms = pos c.request_timeout_ms;
  topics = (record { topic = names.topic; partitions = map data_of xs }) ∷ [];
})
body_for c names (InitProducerId p) = body.InitProducerId (record {
  transactional_id = None;
  transaction_timeout_ms = pos (2 ^ 31 - 1);
})

unfoldable pub message_of : Config → Names → Packet → Message
message_of c names packet = record {
  correlation = pos packet.correlation;
  client = Some names.client;
  body = body_for c names packet.demand;
}

-- what stands in the frame
abbrev pub content_of : Config → Names → Packet → List ℕ
content_of c names packet = message.spelling (message_of c names packet)

abbrev pub frame_of : Config → Names → Packet → List ℕ
frame_of c names packet = frame.spell (content_of c names packet)

-- ---- what can be written

abbrev pub FitBatches : Demand Sending → Type 0
FitBatches (Produce xs) = AllByRecursion (λ x. HasSpelling (batch_of x.batch)) xs
FitBatches (InitProducerId p) = Unit {0}

-- The message has a spelling, its content fits a frame, and each batch in it has a spelling.
pub record FitsPacket (c : Config) (names : Names) (packet : Packet) : Type 0 where
  pub message : FitsRequest (message_of c names packet)
  pub content : length (content_of c names packet) ≤ CONTENT_LIMIT
  pub batches : FitBatches packet.demand
