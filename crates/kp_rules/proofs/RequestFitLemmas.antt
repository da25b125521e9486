-- A request of a producer fits, and its content is no longer than a frame may be.
use Rattle.std.proofs.Common.{◌≡◌, ℕ, ◌+◌, ◌*◌, ◌^◌, ◌-◌, ◌<◌, ◌≤◌, List, [], ◌∷◌, length, Some, None, pos, negsuc, sum_by, refl, arith}
use Rattle.std.specs.List.{flat_map, AllByRecursion}
use Rattle.std.specs.Str.{IsUtf8}
use Rattle.std.proofs.lemmas.List.{length-append}
use Rattle.std.proofs.lemmas.List.Sums.{sum_by-cons}
use Rattle.kp_wire.specs.Fields.{records, spell_array, FitsArray}
use Rattle.kp_wire.specs.Strings.{string}
use Rattle.kp_wire.proofs.ListLemmas.{length-flat_map-cons}
use Rattle.kp_frames.specs.declared.produce.PartitionProduceData.{PartitionProduceData}
use Rattle.kp_frames.specs.declared.produce.ProduceRequest.{ProduceRequest}
use Rattle.kp_frames.specs.declared.request.Request.{Request}
use Rattle.kp_frames.specs.declared.request.RequestBody.TheVariants as body
use Rattle.kp_frames.specs.Produce.{partition_data, topic_data, produce_request}
use Rattle.kp_frames.specs.ProducerId.{init_producer_id_request}
use Rattle.kp_frames.specs.Request.{body as body_codec, known, FitsRequest, spelling}
use Rattle.kp_rules.proofs.BatchFitLemmas.{int32_fits}

-- ---- the requests

abbrev pub produce_request_of : ℕ → List ℕ → List PartitionProduceData → ProduceRequest
produce_request_of timeout topic ds =
    record { transactional_id = None; acks = negsuc 0; timeout_ms = pos timeout; topics = (record { topic = topic; partitions = ds }) ∷ [] }

abbrev pub produce_message : ℕ → ℕ → List ℕ → List ℕ → List PartitionProduceData → Request
produce_message correlation timeout client topic ds =
    record { correlation = pos correlation; client = Some client; body = body.Produce (produce_request_of timeout topic ds) }

abbrev pub id_message : ℕ → List ℕ → Request
id_message correlation client = record {
  correlation = pos correlation;
  client = Some client;
  body = body.InitProducerId (record { transactional_id = None; transaction_timeout_ms = pos (2 ^ 31 - 1) });
}

-- ---- fields

string_fits : (s : List ℕ) → length s ≤ 249 → IsUtf8 s → string.Fits s
string_fits s small text = (record { sfits = omega arith }, (refl, text))

-- ---- the partitions' data

abbrev HasPlace : PartitionProduceData → Type 0
HasPlace d = (p : ℕ) × (p < 1024) × (d.partition ≡ pos p)

abbrev bytes_in : List PartitionProduceData → ℕ
bytes_in ds = sum_by (λ d. length d.records) ds

length-data : (d : PartitionProduceData) → length (partition_data.spell d) ≡ 8 + length d.records
unfolding partition_data records
length-data d = omega arith

length-each : (ds : List PartitionProduceData) → length (flat_map partition_data.spell ds) ≡ 8 * length ds + bytes_in ds
length-each [] = omega arith
length-each (d ∷ ds) = omega (arith, length-flat_map-cons partition_data.spell d ds, sum_by-cons (λ d. length d.records) d ds, length-data d, length-each ds)

data_fits : (d : PartitionProduceData) → HasPlace d → length d.records ≤ 8388608 → partition_data.Fits d
unfolding partition_data records
data_fits d place small = (rw place.2 (int32_fits place.0 (omega arith)), (int32_fits (length d.records) (omega arith), refl))

each_fits : (ds : List PartitionProduceData) → AllByRecursion HasPlace ds → bytes_in ds ≤ 8388608 → AllByRecursion partition_data.Fits ds
each_fits [] places small = tt
each_fits (d ∷ ds) places small =
    let parts = sum_by-cons (λ (d : PartitionProduceData). length d.records) d ds in
    (data_fits d places.0 (omega (arith, parts)), each_fits ds places.1 (omega (arith, parts)))

-- ---- a Produce request

produce_request_fits : (timeout : ℕ) (topic : List ℕ) (ds : List PartitionProduceData)
    → timeout < 2 ^ 31 → string.Fits topic → length ds ≤ 1024 → AllByRecursion partition_data.Fits ds
    → produce_request.Fits (produce_request_of timeout topic ds)
unfolding produce_request topic_data FitsArray
produce_request_fits timeout topic ds small name few each = (
  omega arith,
  (
    omega arith,
    (
      int32_fits timeout small,
      (int32_fits 1 (omega arith), ((name, (int32_fits (length ds) (omega arith), each)), tt)),
    ),
  ),
)

length-produce_request : (timeout : ℕ) (topic : List ℕ) (ds : List PartitionProduceData)
    → length (produce_request.spell (produce_request_of timeout topic ds)) ≡ 18 + length topic + 8 * length ds + bytes_in ds
unfolding produce_request topic_data spell_array
length-produce_request timeout topic ds = simp length-append (omega (arith, length-each ds))

length-produce_message : (correlation timeout : ℕ) (client topic : List ℕ) (ds : List PartitionProduceData)
    → length (spelling (produce_message correlation timeout client topic ds)) ≡ 28 + length client + length topic + 8 * length ds + bytes_in ds
unfolding known body_codec spelling
length-produce_message correlation timeout client topic ds = simp length-append (omega (arith, length-produce_request timeout topic ds))

pub produce_fits : (correlation timeout : ℕ) (client topic : List ℕ) (ds : List PartitionProduceData)
    → correlation < 2 ^ 31 → timeout < 2 ^ 31 → length client ≤ 249 → IsUtf8 client → length topic ≤ 249 → IsUtf8 topic → length ds ≤ 1024
    → AllByRecursion (λ d. (p : ℕ) × (p < 1024) × (d.partition ≡ pos p)) ds
    → sum_by (λ d. length d.records) ds ≤ 8388608
    → FitsRequest (produce_message correlation timeout client topic ds)
    × (length (spelling (produce_message correlation timeout client topic ds)) ≤ 16777216)
unfolding FitsRequest known body_codec
produce_fits correlation timeout client topic ds small time_small client_short client_text topic_short topic_text few places room =
    let fits = produce_request_fits timeout topic ds time_small (string_fits topic topic_short topic_text) few (each_fits ds places room) in (
      (int32_fits correlation small, (string_fits client client_short client_text, (refl, fits))),
      omega (arith, length-produce_message correlation timeout client topic ds),
    )

-- ---- a request for an id

length-id_message : (correlation : ℕ) (client : List ℕ) → length (spelling (id_message correlation client)) ≡ 16 + length client
unfolding known body_codec spelling init_producer_id_request
length-id_message correlation client = simp length-append (omega arith)

pub id_request_fits : (correlation : ℕ) (client : List ℕ) → correlation < 2 ^ 31 → length client ≤ 249 → IsUtf8 client
    → FitsRequest (id_message correlation client) × (length (spelling (id_message correlation client)) ≤ 16777216)
unfolding FitsRequest known body_codec init_producer_id_request
id_request_fits correlation client small short text = (
  (int32_fits correlation small, (string_fits client short text, (refl, (omega arith, int32_fits (2 ^ 31 - 1) (omega arith))))),
  omega (arith, length-id_message correlation client),
)
