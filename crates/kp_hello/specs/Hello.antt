-- What a broker's answers to Metadata and InitProducerId give (protocol guide, "Metadata API (Key: 3)" and
-- "InitProducerId API (Key: 22)"; KIP-98).
use Rattle.std.specs.Prelude.{◌≡◌, ℕ, zero, suc, Bool, true, ◌&&◌, ◌||◌, not, ◌==◌, nat_le, List, [], ◌∷◌, length, count_by, pos, int_lt, nat_abs, Result, Ok, Err, if◌then◌else◌}
use Rattle.std.specs.Ordering.{int_eq}
use Rattle.std.specs.Str.{bytes_eq}
use Rattle.kp_wire.specs.Reading.{◌>>=◌, refuse, or_else}
use Rattle.kp_frames.specs.declared.api.Api.TheVariants as api
use Rattle.kp_frames.specs.declared.metadata.PartitionMetadata.{PartitionMetadata}
use Rattle.kp_frames.specs.declared.metadata.TopicMetadata.{TopicMetadata}
use Rattle.kp_frames.specs.declared.producer_id.InitProducerIdResponse.{InitProducerIdResponse}
use Rattle.kp_frames.specs.declared.response.Response.{Response}
use Rattle.kp_frames.specs.declared.response.ResponseBody.{ResponseBody}
use Rattle.kp_frames.specs.declared.response.ResponseBody.TheVariants.{Produce, Metadata, InitProducerId}
use Rattle.kp_frames.specs.declared.fault.FrameFault.{FrameFault}
use Rattle.kp_frames.specs.Response.{response_at}
use Rattle.kp_hello.specs.declared.fault.HandshakeFault.{HandshakeFault}
use Rattle.kp_hello.specs.declared.fault.HandshakeFault.TheVariants.{BadAnswer, Refused, OutOfMemory}
use Rattle.kp_hello.specs.declared.hello.TheConstants.{PARTITION_LIMIT}
use Rattle.kp_hello.specs.Fault.{of_frame}

-- ---- the partitions of a topic

abbrev pub has_number : ℕ → PartitionMetadata → Bool
has_number k p = int_eq p.partition (pos k)

-- Each number below n stands once among the partitions.
unfoldable pub each_once : ℕ → List PartitionMetadata → Bool
each_once zero ps = true
each_once (suc n) ps = count_by (has_number n) ps == 1 && each_once n ps

-- There are from 1 to PARTITION_LIMIT, and each number below how many there are stands once among them.
abbrev pub are_numbered : List PartitionMetadata → Bool
are_numbered ps = nat_le 1 (length ps) && nat_le (length ps) PARTITION_LIMIT && each_once (length ps) ps

-- ---- the answer to Metadata, whose correlation id is 0

abbrev pub topics_of : ResponseBody → List TopicMetadata
topics_of (Produce r) = []
topics_of (Metadata r) = r.topics
topics_of (InitProducerId r) = []

-- the one topic, which has this name
abbrev pub only_topic : List ℕ → List TopicMetadata → Result TopicMetadata HandshakeFault
only_topic name (topic ∷ []) = if bytes_eq topic.name name then Ok topic else Err BadAnswer
only_topic name topics = Err BadAnswer

-- the topic's partitions, or the first fault
unfoldable pub partitions_judged : List ℕ → Response → Result (List PartitionMetadata) HandshakeFault
partitions_judged name r = do
  _ ← refuse (not (int_eq r.correlation (pos 0))) BadAnswer
  topic ← only_topic name (topics_of r.body)
  _ ← refuse (not (int_eq topic.error_code (pos 0))) (Refused topic.error_code)
  _ ← refuse (not (are_numbered topic.partitions)) BadAnswer
  Ok topic.partitions

-- how many partitions it has
unfoldable pub metadata_judged : List ℕ → Response → Result ℕ HandshakeFault
metadata_judged name r = do
  partitions ← partitions_judged name r
  Ok (length partitions)

-- ---- the answer to InitProducerId, whose correlation id is 1

abbrev pub given_id : ResponseBody → Result InitProducerIdResponse HandshakeFault
given_id (Produce r) = Err BadAnswer
given_id (Metadata r) = Err BadAnswer
given_id (InitProducerId r) = Ok r

-- the producer id, or the first fault
unfoldable pub producer_id_judged : Response → Result ℕ HandshakeFault
producer_id_judged r = do
  _ ← refuse (not (int_eq r.correlation (pos 1))) BadAnswer
  given ← given_id r.body
  _ ← refuse (not (int_eq given.error_code (pos 0))) (Refused given.error_code)
  _ ← refuse (int_lt given.producer_id (pos 0) || not (int_eq given.producer_epoch (pos 0))) BadAnswer
  Ok (nat_abs given.producer_id)

-- ---- the contents of the two answers

abbrev pub in_handshake : {A : Type 0} → Result A FrameFault → Result A HandshakeFault
in_handshake read = or_else of_frame read

unfoldable pub metadata_given : List ℕ → List ℕ → Result ℕ HandshakeFault
metadata_given topic content = in_handshake (response_at api.Metadata content) >>= metadata_judged topic

unfoldable pub producer_id_given : List ℕ → Result ℕ HandshakeFault
producer_id_given content = in_handshake (response_at api.InitProducerId content) >>= producer_id_judged

-- What a function gave is what is given, unless memory was refused.
abbrev pub UnlessMemory : {A : Type 0} → Result A HandshakeFault → Result A HandshakeFault → Type 0
UnlessMemory (Err OutOfMemory) given = Unit {0}
UnlessMemory got given = got ≡ given
