-- Metadata, version 1 (protocol guide, "Metadata API (Key: 3)").
use Rattle.kp_wire.specs.Codec.{Codec, pair, made}
use Rattle.kp_wire.specs.Fields.{int16, int32, boolean, array_of, nullable_array_of}
use Rattle.kp_wire.specs.Strings.{string, nullable_string}
use Rattle.kp_frames.specs.declared.metadata.MetadataRequest.{MetadataRequest}
use Rattle.kp_frames.specs.declared.metadata.MetadataResponse.{MetadataResponse}
use Rattle.kp_frames.specs.declared.metadata.Broker.{Broker}
use Rattle.kp_frames.specs.declared.metadata.TopicMetadata.{TopicMetadata}
use Rattle.kp_frames.specs.declared.metadata.PartitionMetadata.{PartitionMetadata}

-- ---- the request

unfoldable pub metadata_request : Codec MetadataRequest
metadata_request = made (λ p. record { topics = p }) (λ r. r.topics) (nullable_array_of string)

-- ---- the response

unfoldable pub broker : Codec Broker
broker = made
    (λ (node_id, (host, (port, rack))). record { node_id = node_id; host = host; port = port; rack = rack })
    (λ b. (b.node_id, (b.host, (b.port, b.rack))))
    (pair int32 (pair string (pair int32 nullable_string)))

unfoldable pub partition_metadata : Codec PartitionMetadata
partition_metadata = made
    (λ (error_code, (partition, (leader, (replicas, isr)))). record { error_code = error_code; partition = partition; leader = leader; replicas = replicas; isr = isr })
    (λ m. (m.error_code, (m.partition, (m.leader, (m.replicas, m.isr)))))
    (pair int16 (pair int32 (pair int32 (pair (array_of int32) (array_of int32)))))

unfoldable pub topic_metadata : Codec TopicMetadata
topic_metadata = made
    (λ (error_code, (name, (is_internal, partitions))). record { error_code = error_code; name = name; is_internal = is_internal; partitions = partitions })
    (λ m. (m.error_code, (m.name, (m.is_internal, m.partitions))))
    (pair int16 (pair string (pair boolean (array_of partition_metadata))))

unfoldable pub metadata_response : Codec MetadataResponse
metadata_response = made
    (λ (brokers, (controller_id, topics)). record { brokers = brokers; controller_id = controller_id; topics = topics })
    (λ r. (r.brokers, (r.controller_id, r.topics)))
    (pair (array_of broker) (pair int32 (array_of topic_metadata)))
