-- What the bytes of a packet say, and what is told of it.
use Rattle.std.specs.Prelude.{◌≡◌, ℕ, List, [], ◌∷◌, length, map, drop, nat_abs, Ok}
use Rattle.kp_batch.specs.Reading.{batch_at}
use Rattle.kp_batch.specs.declared.batch.Batch.{Batch}
use Rattle.kp_frames.specs.Request.{request_at}
use Rattle.kp_frames.specs.declared.produce.PartitionProduceData.{PartitionProduceData}
use Rattle.kp_frames.specs.declared.produce.TopicProduceData.{TopicProduceData}
use Rattle.kp_frames.specs.declared.request.Request.{Request}
use Rattle.kp_frames.specs.declared.request.RequestBody.{RequestBody}
use Rattle.kp_frames.specs.declared.request.RequestBody.TheVariants.{Produce, Metadata, InitProducerId}
use Rattle.kp_rules.specs.declared.fault.CoreFault.{CoreFault}
use Rattle.kp_rules.specs.declared.fault.CoreFault.TheVariants.{Ended}
use Rattle.kp_world.specs.Line as line
use Rattle.kp_replay.specs.Line.{sent_part}
use Rattle.kp_replay.specs.Shown.{Each}
use Rattle.kp_replay.specs.declared.line.SentPart.{SentPart}

-- The request in the frame has this body.
pub record IsAsked (frame : List ℕ) (body : RequestBody) : Type 0 where
  pub request : Request
  pub read : request_at (drop 4 frame) ≡ Ok request
  pub is : body ≡ request.body

-- The part is what the batch for a partition says of itself.
pub record IsPart (d : PartitionProduceData) (part : SentPart) : Type 0 where
  pub batch : Batch
  pub read : batch_at d.records ≡ Ok batch
  pub partition : part.partition ≡ nat_abs d.partition
  pub sequence : part.sequence ≡ nat_abs batch.head.base_sequence
  pub count : part.count ≡ length batch.records

-- These are the parts of the request's one topic.
pub record AreParts (topics : List TopicProduceData) (parts : List SentPart) : Type 0 where
  pub topic : TopicProduceData
  pub one : topics ≡ topic ∷ []
  pub each : Each IsPart topic.partitions parts

-- The line of a packet with this number tells what its request is.
abbrev pub Tells : ℕ → RequestBody → line.Line → Type 0
Tells k (Produce r) l =
    (parts : List SentPart) × AreParts r.topics parts × (l ≡ line.SentBatches k (map sent_part parts))
Tells k (InitProducerId r) l = l ≡ line.SentInit k
Tells k (Metadata r) l = l ≡ line.SentInit k

-- what is told where a fault is why no packet goes out
abbrev pub fault_line : CoreFault → line.Line
fault_line Ended = line.Ended
fault_line fault = line.Idle
