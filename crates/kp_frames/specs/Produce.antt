-- Produce, version 3 (protocol guide, "Produce API (Key: 0)").
use Rattle.kp_wire.specs.Codec.{Codec, pair, made}
use Rattle.kp_wire.specs.Fields.{int16, int32, int64, records, array_of}
use Rattle.kp_wire.specs.Strings.{string, nullable_string}
use Rattle.kp_frames.specs.declared.produce.ProduceRequest.{ProduceRequest}
use Rattle.kp_frames.specs.declared.produce.TopicProduceData.{TopicProduceData}
use Rattle.kp_frames.specs.declared.produce.PartitionProduceData.{PartitionProduceData}
use Rattle.kp_frames.specs.declared.produce.ProduceResponse.{ProduceResponse}
use Rattle.kp_frames.specs.declared.produce.TopicProduceResponse.{TopicProduceResponse}
use Rattle.kp_frames.specs.declared.produce.PartitionProduceResponse.{PartitionProduceResponse}

-- ---- the request

unfoldable pub partition_data : Codec PartitionProduceData
partition_data = made
    (λ (partition, records). record { partition = partition; records = records })
    (λ d. (d.partition, d.records))
    (pair int32 records)

unfoldable pub topic_data : Codec TopicProduceData
topic_data = made
    (λ (topic, partitions). record { topic = topic; partitions = partitions })
    (λ d. (d.topic, d.partitions))
    (pair string (array_of partition_data))

unfoldable pub produce_request : Codec ProduceRequest
produce_request = made
    (λ (transactional_id, (acks, (timeout_ms, topics))). record { transactional_id = transactional_id; acks = acks; timeout_ms = timeout_ms; topics = topics })
    (λ r. (r.transactional_id, (r.acks, (r.timeout_ms, r.topics))))
    (pair nullable_string (pair int16 (pair int32 (array_of topic_data))))

-- ---- the response

unfoldable pub partition_response : Codec PartitionProduceResponse
partition_response = made
    (λ (partition, (error_code, (base_offset, log_append_time_ms))). record { partition = partition; error_code = error_code; base_offset = base_offset; log_append_time_ms = log_append_time_ms })
    (λ r. (r.partition, (r.error_code, (r.base_offset, r.log_append_time_ms))))
    (pair int32 (pair int16 (pair int64 int64)))

unfoldable pub topic_response : Codec TopicProduceResponse
topic_response = made
    (λ (topic, partitions). record { topic = topic; partitions = partitions })
    (λ r. (r.topic, r.partitions))
    (pair string (array_of partition_response))

unfoldable pub produce_response : Codec ProduceResponse
produce_response = made
    (λ (topics, throttle_time_ms). record { topics = topics; throttle_time_ms = throttle_time_ms })
    (λ r. (r.topics, r.throttle_time_ms))
    (pair (array_of topic_response) int32)
