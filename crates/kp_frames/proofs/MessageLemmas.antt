-- Messages are read as they are written.
use Rattle.std.proofs.Common.{◌≡◌, ℕ, List, ◌++◌, Ok, refl, subst}
use Rattle.kp_wire.specs.Reading.{Read}
use Rattle.kp_wire.specs.Fields.{int32}
use Rattle.kp_wire.specs.Strings.{string}
use Rattle.kp_wire.proofs.ReadLemmas.{IsBytes, Takes}
use Rattle.kp_wire.proofs.CodecLemmas.{IsExact, pair_exact, made_exact}
use Rattle.kp_wire.proofs.StringLemmas.{string_exact, nullable_string_exact}
use Rattle.kp_wire.proofs.FieldLemmas.{int16_exact, int32_exact, int64_exact, boolean_exact, records_exact, array_of_exact, nullable_array_of_exact}
use Rattle.kp_wire.proofs.FieldFaultLemmas.{HasFieldFaults, made_faults, pair_faults, int16_faults, int32_faults, int64_faults, string_faults, nullable_string_faults, boolean_faults, records_faults, array_faults, nullable_array_faults}
use Rattle.kp_frames.specs.declared.api.Api.{Api}
use Rattle.kp_frames.specs.Produce.{partition_data, topic_data, produce_request, partition_response, topic_response, produce_response}
use Rattle.kp_frames.specs.Metadata.{metadata_request, broker, partition_metadata, topic_metadata, metadata_response}
use Rattle.kp_frames.specs.ProducerId.{init_producer_id_request, init_producer_id_response}

-- ---- the body of an api

-- a body that is read by its api, where each api's is exact
pub of_api_exact : {B : Type 0} (api_of : B → Api) (fits : B → Type 0) (spell : B → List ℕ) (read : Api → List ℕ → Read B)
    → ((a : Api) (bytes : List ℕ) (x : B × List ℕ) → IsBytes bytes → read a bytes ≡ Ok x → Takes bytes (spell x.0) x.1 × ((api_of x.0 ≡ a) × fits x.0))
    → ((b : B) (rest : List ℕ) → fits b → read (api_of b) (spell b ++ rest) ≡ Ok (b, rest))
    → (a : Api) → IsExact 0 (record { Fits = λ b. (api_of b ≡ a) × fits b; spell = spell; read = read a })
of_api_exact api_of fits spell read takes again a = record {
  takes = takes a;
  again = λ b rest fit behind.
      let R : Api → Type 0 = λ k. read k (spell b ++ rest) ≡ Ok (b, rest) in
      subst R fit.0 (again b rest fit.1);
}

-- ---- Produce

partition_data_exact : IsExact 0 partition_data
unfolding partition_data
partition_data_exact = made_exact 0 _ _ _ (λ _. refl) (λ _. refl) (pair_exact 0 _ _ int32_exact records_exact)

topic_data_exact : IsExact 0 topic_data
unfolding topic_data
topic_data_exact = made_exact 0 _ _ _ (λ _. refl) (λ _. refl) (pair_exact 0 _ _ string_exact (array_of_exact _ partition_data_exact))

pub produce_request_exact : IsExact 0 produce_request
unfolding produce_request
produce_request_exact = made_exact 0 _ _ _ (λ _. refl) (λ _. refl) (pair_exact 0 _ _ nullable_string_exact (pair_exact 0 _ _ int16_exact (pair_exact 0 _ _ int32_exact (array_of_exact _ topic_data_exact))))

partition_response_exact : IsExact 0 partition_response
unfolding partition_response
partition_response_exact = made_exact 0 _ _ _ (λ _. refl) (λ _. refl) (pair_exact 0 _ _ int32_exact (pair_exact 0 _ _ int16_exact (pair_exact 0 _ _ int64_exact int64_exact)))

topic_response_exact : IsExact 0 topic_response
unfolding topic_response
topic_response_exact = made_exact 0 _ _ _ (λ _. refl) (λ _. refl) (pair_exact 0 _ _ string_exact (array_of_exact _ partition_response_exact))

pub produce_response_exact : IsExact 0 produce_response
unfolding produce_response
produce_response_exact = made_exact 0 _ _ _ (λ _. refl) (λ _. refl) (pair_exact 0 _ _ (array_of_exact _ topic_response_exact) int32_exact)

-- ---- Metadata

pub metadata_request_exact : IsExact 0 metadata_request
unfolding metadata_request
metadata_request_exact = made_exact 0 _ _ _ (λ _. refl) (λ _. refl) (nullable_array_of_exact string string_exact)

broker_exact : IsExact 0 broker
unfolding broker
broker_exact = made_exact 0 _ _ _ (λ _. refl) (λ _. refl) (pair_exact 0 _ _ int32_exact (pair_exact 0 _ _ string_exact (pair_exact 0 _ _ int32_exact nullable_string_exact)))

partition_metadata_exact : IsExact 0 partition_metadata
unfolding partition_metadata
partition_metadata_exact =
    let ids = array_of_exact int32 int32_exact in
    made_exact 0 _ _ _ (λ _. refl) (λ _. refl) (pair_exact 0 _ _ int16_exact (pair_exact 0 _ _ int32_exact (pair_exact 0 _ _ int32_exact (pair_exact 0 _ _ ids ids))))

topic_metadata_exact : IsExact 0 topic_metadata
unfolding topic_metadata
topic_metadata_exact = made_exact 0 _ _ _ (λ _. refl) (λ _. refl) (pair_exact 0 _ _ int16_exact (pair_exact 0 _ _ string_exact (pair_exact 0 _ _ boolean_exact (array_of_exact _ partition_metadata_exact))))

pub metadata_response_exact : IsExact 0 metadata_response
unfolding metadata_response
metadata_response_exact = made_exact 0 _ _ _ (λ _. refl) (λ _. refl) (pair_exact 0 _ _ (array_of_exact _ broker_exact) (pair_exact 0 _ _ int32_exact (array_of_exact _ topic_metadata_exact)))

-- ---- InitProducerId

pub init_producer_id_request_exact : IsExact 0 init_producer_id_request
unfolding init_producer_id_request
init_producer_id_request_exact = made_exact 0 _ _ _ (λ _. refl) (λ _. refl) (pair_exact 0 _ _ nullable_string_exact int32_exact)

pub init_producer_id_response_exact : IsExact 0 init_producer_id_response
unfolding init_producer_id_response
init_producer_id_response_exact = made_exact 0 _ _ _ (λ _. refl) (λ _. refl) (pair_exact 0 _ _ int32_exact (pair_exact 0 _ _ int16_exact (pair_exact 0 _ _ int64_exact int16_exact)))

-- ---- which faults come

partition_data_faults : HasFieldFaults partition_data.read
unfolding partition_data
partition_data_faults = made_faults _ _ (pair_faults int32_faults records_faults)

topic_data_faults : HasFieldFaults topic_data.read
unfolding topic_data
topic_data_faults = made_faults _ _ (pair_faults string_faults (array_faults partition_data_faults))

pub produce_request_faults : HasFieldFaults produce_request.read
unfolding produce_request
produce_request_faults = made_faults _ _ (pair_faults nullable_string_faults (pair_faults int16_faults (pair_faults int32_faults (array_faults topic_data_faults))))

partition_response_faults : HasFieldFaults partition_response.read
unfolding partition_response
partition_response_faults = made_faults _ _ (pair_faults int32_faults (pair_faults int16_faults (pair_faults int64_faults int64_faults)))

topic_response_faults : HasFieldFaults topic_response.read
unfolding topic_response
topic_response_faults = made_faults _ _ (pair_faults string_faults (array_faults partition_response_faults))

pub produce_response_faults : HasFieldFaults produce_response.read
unfolding produce_response
produce_response_faults = made_faults _ _ (pair_faults (array_faults topic_response_faults) int32_faults)

pub metadata_request_faults : HasFieldFaults metadata_request.read
unfolding metadata_request
metadata_request_faults = made_faults _ _ (nullable_array_faults string_faults)

broker_faults : HasFieldFaults broker.read
unfolding broker
broker_faults = made_faults _ _ (pair_faults int32_faults (pair_faults string_faults (pair_faults int32_faults nullable_string_faults)))

partition_metadata_faults : HasFieldFaults partition_metadata.read
unfolding partition_metadata
partition_metadata_faults = made_faults _ _ (pair_faults int16_faults (pair_faults int32_faults (pair_faults int32_faults (pair_faults (array_faults int32_faults) (array_faults int32_faults)))))

topic_metadata_faults : HasFieldFaults topic_metadata.read
unfolding topic_metadata
topic_metadata_faults = made_faults _ _ (pair_faults int16_faults (pair_faults string_faults (pair_faults boolean_faults (array_faults partition_metadata_faults))))

pub metadata_response_faults : HasFieldFaults metadata_response.read
unfolding metadata_response
metadata_response_faults = made_faults _ _ (pair_faults (array_faults broker_faults) (pair_faults int32_faults (array_faults topic_metadata_faults)))

pub init_producer_id_request_faults : HasFieldFaults init_producer_id_request.read
unfolding init_producer_id_request
init_producer_id_request_faults = made_faults _ _ (pair_faults nullable_string_faults int32_faults)

pub init_producer_id_response_faults : HasFieldFaults init_producer_id_response.read
unfolding init_producer_id_response
init_producer_id_response_faults = made_faults _ _ (pair_faults int32_faults (pair_faults int16_faults (pair_faults int64_faults int16_faults)))
