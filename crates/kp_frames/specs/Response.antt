-- A response's content: the correlation id of its request, and the body of its api (protocol guide, "Response Header
-- v0").
use Rattle.std.specs.Prelude.{◌≡◌, ℕ, List, Result, Ok}
use Rattle.kp_wire.specs.Reading.{Read, ◌>>=◌}
use Rattle.kp_wire.specs.Codec.{Codec, pair, made}
use Rattle.kp_wire.specs.Fields.{int32}
use Rattle.kp_frames.specs.declared.api.Api.{Api}
use Rattle.kp_frames.specs.declared.api.Api.TheVariants as api
use Rattle.kp_frames.specs.declared.response.Response.{Response}
use Rattle.kp_frames.specs.declared.response.ResponseBody.{ResponseBody}
use Rattle.kp_frames.specs.declared.response.ResponseBody.TheVariants.{Produce, Metadata, InitProducerId}
use Rattle.kp_frames.specs.declared.fault.FrameFault.{FrameFault}
use Rattle.kp_frames.specs.Fault.{in_message, whole}
use Rattle.kp_frames.specs.Produce.{produce_response}
use Rattle.kp_frames.specs.Metadata.{metadata_response}
use Rattle.kp_frames.specs.ProducerId.{init_producer_id_response}

-- ---- the body

abbrev pub api_of : ResponseBody → Api
api_of (Produce r) = api.Produce
api_of (Metadata r) = api.Metadata
api_of (InitProducerId r) = api.InitProducerId

abbrev pub FitsBody : ResponseBody → Type 0
FitsBody (Produce r) = produce_response.Fits r
FitsBody (Metadata r) = metadata_response.Fits r
FitsBody (InitProducerId r) = init_producer_id_response.Fits r

abbrev pub spell_body : ResponseBody → List ℕ
spell_body (Produce r) = produce_response.spell r
spell_body (Metadata r) = metadata_response.spell r
spell_body (InitProducerId r) = init_producer_id_response.spell r

abbrev pub read_body : Api → List ℕ → Read ResponseBody
read_body api.Produce bytes = produce_response.read bytes >>= λ x. Ok (Produce x.0, x.1)
read_body api.Metadata bytes = metadata_response.read bytes >>= λ x. Ok (Metadata x.0, x.1)
read_body api.InitProducerId bytes = init_producer_id_response.read bytes >>= λ x. Ok (InitProducerId x.0, x.1)

unfoldable pub body : Api → Codec ResponseBody
body a = record { Fits = λ b. (api_of b ≡ a) × FitsBody b; spell = spell_body; read = read_body a }

-- ---- the content

-- the response to a request of an api
unfoldable pub answer : Api → Codec Response
answer a = made
    (λ (correlation, body). record { correlation = correlation; body = body })
    (λ r. (r.correlation, r.body))
    (pair int32 (body a))

unfoldable pub FitsResponse : Response → Type 0
FitsResponse r = (answer (api_of r.body)).Fits r

unfoldable pub spelling : Response → List ℕ
spelling r = (answer (api_of r.body)).spell r

-- The bytes are the response, which is one of the api.
pub record Spells (a : Api) (bytes : List ℕ) (r : Response) : Type 0 where
  pub is_of : api_of r.body ≡ a
  pub fits : FitsResponse r
  pub is_spelling : bytes ≡ spelling r

-- ---- reading

-- the response that is all of the bytes, or the first fault
unfoldable pub response_at : Api → List ℕ → Result Response FrameFault
response_at a bytes = in_message ((answer a).read bytes) >>= λ r. whole r.0 r.1
