-- InitProducerId, version 0 (protocol guide, "InitProducerId API (Key: 22)").
use Rattle.kp_wire.specs.Codec.{Codec, pair, made}
use Rattle.kp_wire.specs.Fields.{int16, int32, int64}
use Rattle.kp_wire.specs.Strings.{nullable_string}
use Rattle.kp_frames.specs.declared.producer_id.InitProducerIdRequest.{InitProducerIdRequest}
use Rattle.kp_frames.specs.declared.producer_id.InitProducerIdResponse.{InitProducerIdResponse}

unfoldable pub init_producer_id_request : Codec InitProducerIdRequest
init_producer_id_request = made
    (λ (transactional_id, transaction_timeout_ms). record { transactional_id = transactional_id; transaction_timeout_ms = transaction_timeout_ms })
    (λ r. (r.transactional_id, r.transaction_timeout_ms))
    (pair nullable_string int32)

unfoldable pub init_producer_id_response : Codec InitProducerIdResponse
init_producer_id_response = made
    (λ (throttle_time_ms, (error_code, (producer_id, producer_epoch))). record { throttle_time_ms = throttle_time_ms; error_code = error_code; producer_id = producer_id; producer_epoch = producer_epoch })
    (λ r. (r.throttle_time_ms, (r.error_code, (r.producer_id, r.producer_epoch))))
    (pair int32 (pair int16 (pair int64 int16)))
