-- A request's content: the key and the version of its api, the correlation id, the client's name, and the body (protocol
-- guide, "Request Header v1").
use Rattle.std.specs.Prelude.{◌≡◌, ℕ, List, ◌++◌, Result, Ok, not}
use Rattle.std.specs.Ordering.{int_eq}
use Rattle.kp_wire.specs.Reading.{Read, ◌>>=◌, refuse}
use Rattle.kp_wire.specs.Codec.{Codec, pair, made}
use Rattle.kp_wire.specs.Fields.{int16, int32}
use Rattle.kp_wire.specs.Strings.{nullable_string}
use Rattle.kp_frames.specs.declared.api.Api.{Api}
use Rattle.kp_frames.specs.declared.api.Api.TheVariants as api
use Rattle.kp_frames.specs.declared.request.Request.{Request}
use Rattle.kp_frames.specs.declared.request.RequestBody.{RequestBody}
use Rattle.kp_frames.specs.declared.request.RequestBody.TheVariants.{Produce, Metadata, InitProducerId}
use Rattle.kp_frames.specs.declared.fault.FrameFault.{FrameFault}
use Rattle.kp_frames.specs.declared.fault.FrameFault.TheVariants.{UnknownVersion}
use Rattle.kp_frames.specs.Fault.{in_message, whole}
use Rattle.kp_frames.specs.Api.{key_of, version_of, api_with}
use Rattle.kp_frames.specs.Produce.{produce_request}
use Rattle.kp_frames.specs.Metadata.{metadata_request}
use Rattle.kp_frames.specs.ProducerId.{init_producer_id_request}

-- ---- the body

abbrev pub api_of : RequestBody → Api
api_of (Produce r) = api.Produce
api_of (Metadata r) = api.Metadata
api_of (InitProducerId r) = api.InitProducerId

abbrev pub FitsBody : RequestBody → Type 0
FitsBody (Produce r) = produce_request.Fits r
FitsBody (Metadata r) = metadata_request.Fits r
FitsBody (InitProducerId r) = init_producer_id_request.Fits r

abbrev pub spell_body : RequestBody → List ℕ
spell_body (Produce r) = produce_request.spell r
spell_body (Metadata r) = metadata_request.spell r
spell_body (InitProducerId r) = init_producer_id_request.spell r

abbrev pub read_body : Api → List ℕ → Read RequestBody
read_body api.Produce bytes = produce_request.read bytes >>= λ x. Ok (Produce x.0, x.1)
read_body api.Metadata bytes = metadata_request.read bytes >>= λ x. Ok (Metadata x.0, x.1)
read_body api.InitProducerId bytes = init_producer_id_request.read bytes >>= λ x. Ok (InitProducerId x.0, x.1)

unfoldable pub body : Api → Codec RequestBody
body a = record { Fits = λ b. (api_of b ≡ a) × FitsBody b; spell = spell_body; read = read_body a }

-- ---- the content

-- what stands behind the version
unfoldable pub known : Api → Codec Request
known a = made
    (λ (correlation, (client, body)). record { correlation = correlation; client = client; body = body })
    (λ r. (r.correlation, (r.client, r.body)))
    (pair int32 (pair nullable_string (body a)))

unfoldable pub FitsRequest : Request → Type 0
FitsRequest r = (known (api_of r.body)).Fits r

unfoldable pub spelling : Request → List ℕ
spelling r = int16.spell (key_of (api_of r.body)) ++ (int16.spell (version_of (api_of r.body)) ++ (known (api_of r.body)).spell r)

pub record Spells (bytes : List ℕ) (r : Request) : Type 0 where
  pub fits : FitsRequest r
  pub is_spelling : bytes ≡ spelling r

-- ---- reading

-- the api, in the version that is spoken, and the bytes behind it
unfoldable pub announced : List ℕ → Result (Api × List ℕ) FrameFault
announced bytes = do
  key ← in_message (int16.read bytes)
  a ← api_with key.0
  version ← in_message (int16.read key.1)
  _ ← refuse (not (int_eq version.0 (version_of a))) UnknownVersion
  Ok (a, version.1)

-- the request that is all of the bytes, or the first fault
unfoldable pub request_at : List ℕ → Result Request FrameFault
request_at bytes = do
  a ← announced bytes
  r ← in_message ((known a.0).read a.1)
  whole r.0 r.1
