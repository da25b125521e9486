-- Whether a response is one to its request: tables of which each row must hold.
use Rattle.std.specs.Prelude.{ℕ, ◌-◌, ◌^◌, pos, ◌+ℤ◌, int_le, Bool, true, false, List, [], ◌∷◌, length, filter, flat_map, Option, Some, None, ◌==◌, ◌&&◌, ◌||◌, not}
use Rattle.std.specs.List.{list_all}
use Rattle.std.specs.Ordering.{int_eq}
use Rattle.std.specs.Str.{bytes_eq}
use Rattle.kp_frames.specs.declared.produce.PartitionProduceResponse.{PartitionProduceResponse}
use Rattle.kp_frames.specs.declared.produce.ProduceResponse.{ProduceResponse}
use Rattle.kp_frames.specs.declared.produce.TopicProduceResponse.{TopicProduceResponse}
use Rattle.kp_frames.specs.declared.producer_id.InitProducerIdResponse.{InitProducerIdResponse}
use Rattle.kp_rules.specs.Records.{Open, Core}
use Rattle.kp_rules.specs.Partitions.{partition_at}
use Rattle.kp_rules.specs.Attempts.{awaiting}

-- ---- a response to a Produce request, and its entries, which answer one partition each

abbrev pub is_one_topic : List ℕ → List TopicProduceResponse → Bool
is_one_topic name (topic ∷ []) = bytes_eq topic.topic name
is_one_topic name topics = false

abbrev pub entries_of : ProduceResponse → List PartitionProduceResponse
entries_of response = flat_map (λ topic. topic.partitions) response.topics

abbrev pub is_for : ℕ → PartitionProduceResponse → Bool
is_for p entry = int_eq entry.partition (pos p)

abbrev pub entries_for : ℕ → ProduceResponse → List PartitionProduceResponse
entries_for p response = filter (is_for p) (entries_of response)

-- where the entry stores a batch whose attempt is still in flight, each of its records has an
-- offset that is not below 0, and the offset behind the last one is an int64 too
abbrev pub has_offsets : Option Open → PartitionProduceResponse → Bool
has_offsets attempt entry = elim attempt [
  | None ↦ true
  | Some o ↦ not (int_eq entry.error_code (pos 0))
      || (int_le (pos 0) entry.base_offset
      && int_le (entry.base_offset +ℤ pos (length o.batch.items)) (pos (2 ^ 63 - 1)))
]

-- One topic, of the producer's name, in which each partition of request k has one entry, and there
-- are no others, and its offsets.
unfoldable pub answers_batches : ℕ → List ℕ → Core → ProduceResponse → Bool
answers_batches k ps s response =
    is_one_topic s.names.topic response.topics
    && length (entries_of response) == length ps
    && list_all (λ p. length (entries_for p response) == 1) ps
    && list_all
    (λ p. list_all (has_offsets (awaiting k (partition_at p s.partitions))) (entries_for p response))
    ps

-- ---- a response to an InitProducerId request

abbrev pub is_given : InitProducerIdResponse → Bool
is_given response = int_eq response.error_code (pos 0)

-- an id that is given is not below 0, and its epoch is 0
unfoldable pub answers_id : InitProducerIdResponse → Bool
answers_id response =
    not (is_given response)
    || (int_le (pos 0) response.producer_id && int_eq response.producer_epoch (pos 0))
