-- Responses are read as they are written.
use Rattle.std.proofs.Common.{◌≡◌, ℕ, List, [], ◌++◌, Ok, Err, refl, sym, ap, subst, ◌∙◌, arith}
use Rattle.std.proofs.lemmas.List.{append-nil}
use Rattle.kp_wire.proofs.ReadLemmas.{IsBytes, Takes, or_else_ok}
use Rattle.kp_wire.proofs.CodecLemmas.{IsExact, pair_exact, made_exact, made_takes, one_spelling}
use Rattle.kp_wire.proofs.FieldLemmas.{int32_exact}
use Rattle.kp_frames.specs.declared.api.Api.{Api}
use Rattle.kp_frames.specs.declared.api.Api.TheVariants as api
use Rattle.kp_frames.specs.declared.response.Response.{Response}
use Rattle.kp_frames.specs.declared.response.ResponseBody.{ResponseBody}
use Rattle.kp_frames.specs.declared.response.ResponseBody.TheVariants.{Produce, Metadata, InitProducerId}
use Rattle.kp_frames.specs.Produce.{produce_response}
use Rattle.kp_frames.specs.Metadata.{metadata_response}
use Rattle.kp_frames.specs.ProducerId.{init_producer_id_response}
use Rattle.kp_frames.specs.Response.{api_of, FitsBody, spell_body, read_body, body, answer, FitsResponse, spelling, Spells, response_at}
use Rattle.kp_frames.proofs.MessageLemmas.{of_api_exact, produce_response_exact, metadata_response_exact, init_producer_id_response_exact}
use Rattle.kp_frames.specs.declared.fault.FrameFault.{FrameFault}
use Rattle.kp_frames.specs.Fault.{of_wire, IsContentFault}
use Rattle.kp_wire.proofs.FieldFaultLemmas.{HasFieldFaults, made_faults, pair_faults, int32_faults}
use Rattle.kp_frames.proofs.MessageLemmas.{produce_response_faults, metadata_response_faults, init_producer_id_response_faults}
use Rattle.kp_frames.proofs.FaultLemmas.{in_message_err, whole_err, whole_ok}

-- ---- the body

-- b was read off the bytes, as the body of this api
abbrev WasRead : Api → List ℕ → ResponseBody → List ℕ → Type 0
WasRead a bytes b rest = Takes bytes (spell_body b) rest × ((api_of b ≡ a) × FitsBody b)

body_takes : (a : Api) (bytes : List ℕ) (x : ResponseBody × List ℕ) → IsBytes bytes → read_body a bytes ≡ Ok x → WasRead a bytes x.0 x.1
body_takes api.Produce bytes x fits e = made_takes 0 produce_response Produce (WasRead api.Produce bytes) bytes x produce_response_exact fits (λ r rest t f. (t, (refl, f))) e
body_takes api.Metadata bytes x fits e = made_takes 0 metadata_response Metadata (WasRead api.Metadata bytes) bytes x metadata_response_exact fits (λ r rest t f. (t, (refl, f))) e
body_takes api.InitProducerId bytes x fits e = made_takes 0 init_producer_id_response InitProducerId (WasRead api.InitProducerId bytes) bytes x init_producer_id_response_exact fits (λ r rest t f. (t, (refl, f))) e

body_again : (b : ResponseBody) (rest : List ℕ) → FitsBody b → read_body (api_of b) (spell_body b ++ rest) ≡ Ok (b, rest)
body_again (Produce r) rest fits = rw (produce_response_exact.again r rest fits (omega arith)) refl
body_again (Metadata r) rest fits = rw (metadata_response_exact.again r rest fits (omega arith)) refl
body_again (InitProducerId r) rest fits = rw (init_producer_id_response_exact.again r rest fits (omega arith)) refl

body_exact : (a : Api) → IsExact 0 (body a)
unfolding body
body_exact a = of_api_exact api_of FitsBody spell_body read_body body_takes body_again a

answer_exact : (a : Api) → IsExact 0 (answer a)
unfolding answer
answer_exact a = made_exact 0 _ _ _ (λ _. refl) (λ _. refl) (pair_exact 0 _ _ int32_exact (body_exact a))

-- ---- the response

-- the body is one of the api
is_of : (a : Api) (r : Response) → (answer a).Fits r → api_of r.body ≡ a
unfolding answer body
is_of a r fits = fits.1.0

-- the response as one of this api
of_api : (a : Api) (bytes : List ℕ) (r : Response) → Spells a bytes r → (answer a).Fits r × (bytes ≡ (answer a).spell r)
unfolding FitsResponse spelling
of_api a bytes r p =
    let P : Api → Type 0 = λ k. (answer k).Fits r × (bytes ≡ (answer k).spell r) in
    subst P p.is_of (p.fits, p.is_spelling)

pub response_found : (a : Api) (bytes : List ℕ) (r : Response) → IsBytes bytes → response_at a bytes ≡ Ok r → Spells a bytes r
unfolding response_at FitsResponse spelling
response_found a bytes r fits e =
    let m = or_else_ok of_wire ((answer a).read bytes) _ r e in
    let w = whole_ok m.0.0 m.0.1 r m.2 in
    let t = (answer_exact a).takes bytes m.0 fits m.1 in
    let same : api_of m.0.0.body ≡ a = is_of a m.0.0 t.1 in
    let parts : bytes ≡ (answer a).spell m.0.0 = t.0.parts ∙ ap (λ (s : List ℕ). (answer a).spell m.0.0 ++ s) w.0 ∙ append-nil ((answer a).spell m.0.0) in
    let P : Api → Type 0 = λ k. (answer k).Fits m.0.0 × (bytes ≡ (answer k).spell m.0.0) in
    let both : P (api_of m.0.0.body) = subst P (sym same) (t.1, parts) in
    subst (Spells a bytes) w.1 (record { is_of = same; fits = both.0; is_spelling = both.1 })

pub response_only : (a : Api) (bytes : List ℕ) (r : Response) → Spells a bytes r → response_at a bytes ≡ Ok r
unfolding response_at
response_only a bytes r p =
    let q = of_api a bytes r p in
    let all : bytes ≡ (answer a).spell r ++ [] = q.1 ∙ sym (append-nil ((answer a).spell r)) in
    ap (response_at a) all ∙ rw ((answer_exact a).again r [] q.0 (omega arith)) refl

pub response_one_spelling : (k : Api) (a b : Response) (x y rest : List ℕ) → Spells k x a → Spells k y b → y ≡ x ++ rest → (a ≡ b) × (rest ≡ [])
response_one_spelling k a b x y rest p q e =
    let f = of_api k x a p in
    let g = of_api k y b q in
    one_spelling (answer k) (answer_exact k) a b rest [] f.0 g.0 (ap (λ (s : List ℕ). s ++ rest) (sym f.1) ∙ sym e ∙ g.1 ∙ sym (append-nil ((answer k).spell b)))

-- ---- which faults come

body_faults : (a : Api) → HasFieldFaults (read_body a)
body_faults api.Produce = made_faults produce_response.read Produce produce_response_faults
body_faults api.Metadata = made_faults metadata_response.read Metadata metadata_response_faults
body_faults api.InitProducerId = made_faults init_producer_id_response.read InitProducerId init_producer_id_response_faults

answer_faults : (a : Api) → HasFieldFaults (answer a).read
unfolding answer body
answer_faults a = made_faults _ _ (pair_faults int32_faults (body_faults a))

pub response_fault : (a : Api) (bytes : List ℕ) (f : FrameFault) → response_at a bytes ≡ Err f → IsContentFault f
unfolding response_at
response_fault a bytes f e =
    in_message_err IsContentFault ((answer a).read bytes) _ f (λ g h. h) (answer_faults a bytes)
    (λ r e. whole_err IsContentFault r.0 r.1 f tt e) e
