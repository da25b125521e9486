-- Requests are read as they are written.
use Rattle.std.proofs.Common.{◌≡◌, ℕ, true, not, List, [], ◌++◌, ℤ, pos, Ok, Err, refl, sym, ap, subst, ◌∙◌, append_assoc, ◌⊎◌, inl, inr, arith}
use Rattle.std.specs.Prelude.{FitsSigned}
use Rattle.std.specs.Int.{w16}
use Rattle.std.specs.Ordering.{int_eq}
use Rattle.std.proofs.lemmas.Bool.{cases_Bool, not-false}
use Rattle.std.proofs.lemmas.Bool.Decides.{Decides-int_eq}
use Rattle.std.proofs.lemmas.List.{append-nil}
use Rattle.kp_wire.specs.Fields.{int16}
use Rattle.kp_wire.proofs.ReadLemmas.{IsBytes, Takes, Takes-then, bind_ok, ok_is, no_fault, is_error, refuse_ok, or_else_ok}
use Rattle.kp_wire.proofs.CodecLemmas.{IsExact, pair_exact, made_exact, made_takes, one_spelling}
use Rattle.kp_wire.proofs.StringLemmas.{nullable_string_exact}
use Rattle.kp_wire.proofs.FieldLemmas.{int16_exact, int32_exact}
use Rattle.kp_frames.specs.declared.api.Api.{Api}
use Rattle.kp_frames.specs.declared.api.Api.TheVariants as api
use Rattle.kp_frames.specs.declared.request.Request.{Request}
use Rattle.kp_frames.specs.declared.request.RequestBody.{RequestBody}
use Rattle.kp_frames.specs.declared.request.RequestBody.TheVariants.{Produce, Metadata, InitProducerId}
use Rattle.kp_frames.specs.declared.fault.FrameFault.{FrameFault}
use Rattle.kp_frames.specs.declared.fault.FrameFault.TheVariants.{Short, Trailing, UnknownApi, UnknownVersion, Wire, TooLarge, OutOfMemory, Mismatch}
use Rattle.kp_frames.specs.Api.{key_of, version_of, api_with}
use Rattle.kp_frames.specs.Produce.{produce_request}
use Rattle.kp_frames.specs.Metadata.{metadata_request}
use Rattle.kp_frames.specs.ProducerId.{init_producer_id_request}
use Rattle.kp_frames.specs.Request.{api_of, FitsBody, spell_body, read_body, body, known, FitsRequest, spelling, Spells, announced, request_at}
use Rattle.kp_frames.proofs.MessageLemmas.{of_api_exact, produce_request_exact, metadata_request_exact, init_producer_id_request_exact}
use Rattle.kp_frames.specs.Fault.{of_wire, IsContentFault, IsRequestFault}
use Rattle.kp_wire.proofs.FieldFaultLemmas.{HasFieldFaults, made_faults, pair_faults, int16_faults, int32_faults, nullable_string_faults}
use Rattle.kp_frames.proofs.MessageLemmas.{produce_request_faults, metadata_request_faults, init_producer_id_request_faults}
use Rattle.kp_frames.proofs.FaultLemmas.{step_err, in_message_err, refuse_err, whole_err, whole_ok}

-- ---- the body

-- b was read off the bytes, as the body of this api
abbrev WasRead : Api → List ℕ → RequestBody → List ℕ → Type 0
WasRead a bytes b rest = Takes bytes (spell_body b) rest × ((api_of b ≡ a) × FitsBody b)

body_takes : (a : Api) (bytes : List ℕ) (x : RequestBody × List ℕ) → IsBytes bytes → read_body a bytes ≡ Ok x → WasRead a bytes x.0 x.1
body_takes api.Produce bytes x fits e = made_takes 0 produce_request Produce (WasRead api.Produce bytes) bytes x produce_request_exact fits (λ r rest t f. (t, (refl, f))) e
body_takes api.Metadata bytes x fits e = made_takes 0 metadata_request Metadata (WasRead api.Metadata bytes) bytes x metadata_request_exact fits (λ r rest t f. (t, (refl, f))) e
body_takes api.InitProducerId bytes x fits e = made_takes 0 init_producer_id_request InitProducerId (WasRead api.InitProducerId bytes) bytes x init_producer_id_request_exact fits (λ r rest t f. (t, (refl, f))) e

body_again : (b : RequestBody) (rest : List ℕ) → FitsBody b → read_body (api_of b) (spell_body b ++ rest) ≡ Ok (b, rest)
body_again (Produce r) rest fits = rw (produce_request_exact.again r rest fits (omega arith)) refl
body_again (Metadata r) rest fits = rw (metadata_request_exact.again r rest fits (omega arith)) refl
body_again (InitProducerId r) rest fits = rw (init_producer_id_request_exact.again r rest fits (omega arith)) refl

body_exact : (a : Api) → IsExact 0 (body a)
unfolding body
body_exact a = of_api_exact api_of FitsBody spell_body read_body body_takes body_again a

known_exact : (a : Api) → IsExact 0 (known a)
unfolding known
known_exact a = made_exact 0 _ _ _ (λ _. refl) (λ _. refl) (pair_exact 0 _ _ int32_exact (pair_exact 0 _ _ nullable_string_exact (body_exact a)))

-- the body is one of the api
is_of : (a : Api) (r : Request) → (known a).Fits r → api_of r.body ≡ a
unfolding known body
is_of a r fits = fits.1.1.0

-- ---- the api and its version

-- a key is that of an api, or of none
known_key : (key : ℤ) → ((a : Api) × (key ≡ key_of a) × (api_with key ≡ Ok a)) ⊎ (api_with key ≡ Err UnknownApi)
unfolding api_with
known_key key =
    elim (cases_Bool (int_eq key (pos 0))) [
      | inl is ↦ inl (api.Produce, (Decides-int_eq _ _).0 is, rw is refl)
      | inr other ↦ elim (cases_Bool (int_eq key (pos 3))) [
        | inl is ↦ inl (api.Metadata, (Decides-int_eq _ _).0 is, rw (other, is) refl)
        | inr another ↦ elim (cases_Bool (int_eq key (pos 22))) [
          | inl is ↦ inl (api.InitProducerId, (Decides-int_eq _ _).0 is, rw (other, another, is) refl)
          | inr none ↦ inr (rw (other, another, none) refl)
        ]
      ]
    ]

api_is : (key : ℤ) (a : Api) → api_with key ≡ Ok a → key ≡ key_of a
api_is key a e =
    elim (known_key key) [
      | inl found ↦ found.1 ∙ ap key_of (ok_is found.0 a (sym found.2 ∙ e))
      | inr none ↦ absurd (no_fault UnknownApi a (sym none ∙ e))
    ]

api_again : (a : Api) → api_with (key_of a) ≡ Ok a
unfolding api_with
api_again api.Produce = refl
api_again api.Metadata = refl
api_again api.InitProducerId = refl

key_fits : (a : Api) → FitsSigned w16 (key_of a)
key_fits api.Produce = omega arith
key_fits api.Metadata = omega arith
key_fits api.InitProducerId = omega arith

version_fits : (a : Api) → FitsSigned w16 (version_of a)
version_fits api.Produce = omega arith
version_fits api.Metadata = omega arith
version_fits api.InitProducerId = omega arith

abbrev announcement : Api → List ℕ
announcement a = int16.spell (key_of a) ++ int16.spell (version_of a)

announced_takes : (bytes : List ℕ) (x : Api × List ℕ) → IsBytes bytes → announced bytes ≡ Ok x → Takes bytes (announcement x.0) x.1
unfolding announced
announced_takes bytes x fits e =
    let key = or_else_ok of_wire (int16.read bytes) _ x e in
    let a = bind_ok (api_with key.0.0) _ x key.2 in
    let version = or_else_ok of_wire (int16.read key.0.1) _ x a.2 in
    let known = refuse_ok (not (int_eq version.0.0 (version_of a.0))) UnknownVersion _ x version.2 in
    let t = (int16_exact.takes bytes key.0 fits key.1).0 in
    let u = (int16_exact.takes key.0.1 version.0 t.rest_fits version.1).0 in
    let same : version.0.0 ≡ version_of a.0 = (Decides-int_eq _ _).0 (not-false _ known.0) in
    let T : ℤ → ℤ → Type 0 = λ k v. Takes bytes (int16.spell k ++ int16.spell v) version.0.1 in
    let R : Api × List ℕ → Type 0 = λ y. Takes bytes (announcement y.0) y.1 in
    let both = subst (λ (v : ℤ). T (key_of a.0) v) same (subst (λ (k : ℤ). T k version.0.0) (api_is key.0.0 a.0 a.1) (Takes-then bytes (int16.spell key.0.0) key.0.1 (int16.spell version.0.0) version.0.1 t u)) in
    subst R (ok_is (a.0, version.0.1) x known.1) both

announced_again : (a : Api) (rest : List ℕ) → announced (int16.spell (key_of a) ++ (int16.spell (version_of a) ++ rest)) ≡ Ok (a, rest)
unfolding announced
announced_again a rest =
    let same : int_eq (version_of a) (version_of a) ≡ true = (Decides-int_eq (version_of a) (version_of a)).1 refl in
    rw (int16_exact.again (key_of a) (int16.spell (version_of a) ++ rest) (key_fits a) (omega arith), api_again a, int16_exact.again (version_of a) rest (version_fits a) (omega arith), same) refl

-- ---- the request

pub request_found : (bytes : List ℕ) (r : Request) → IsBytes bytes → request_at bytes ≡ Ok r → Spells bytes r
unfolding request_at FitsRequest spelling
request_found bytes r fits e =
    let a = bind_ok (announced bytes) _ r e in
    let m = or_else_ok of_wire ((known a.0.0).read a.0.1) _ r a.2 in
    let w = whole_ok m.0.0 m.0.1 r m.2 in
    let t = announced_takes bytes a.0 fits a.1 in
    let u = (known_exact a.0.0).takes a.0.1 m.0 t.rest_fits m.1 in
    let same : api_of m.0.0.body ≡ a.0.0 = is_of a.0.0 m.0.0 u.1 in
    let parts : bytes ≡ announcement a.0.0 ++ (known a.0.0).spell m.0.0 =
    t.parts ∙ ap (λ (s : List ℕ). announcement a.0.0 ++ s) (u.0.parts ∙ ap (λ (s : List ℕ). (known a.0.0).spell m.0.0 ++ s) w.0 ∙ append-nil ((known a.0.0).spell m.0.0)) in
    let P : Api → Type 0 = λ k. (known k).Fits m.0.0 × (bytes ≡ int16.spell (key_of k) ++ (int16.spell (version_of k) ++ (known k).spell m.0.0)) in
    let both : P (api_of m.0.0.body) = subst P (sym same) (u.1, parts ∙ append_assoc (int16.spell (key_of a.0.0)) (int16.spell (version_of a.0.0)) ((known a.0.0).spell m.0.0)) in
    subst (Spells bytes) w.1 (record { fits = both.0; is_spelling = both.1 })

-- behind the announcement stands the request
spelled_behind : (r : Request) (rest : List ℕ) → spelling r ++ rest ≡ int16.spell (key_of (api_of r.body)) ++ (int16.spell (version_of (api_of r.body)) ++ ((known (api_of r.body)).spell r ++ rest))
unfolding spelling
spelled_behind r rest =
    let a = api_of r.body in
    append_assoc (int16.spell (key_of a)) (int16.spell (version_of a) ++ (known a).spell r) rest
    ∙ ap (λ (s : List ℕ). int16.spell (key_of a) ++ s) (append_assoc (int16.spell (version_of a)) ((known a).spell r) rest)

pub request_only : (bytes : List ℕ) (r : Request) → Spells bytes r → request_at bytes ≡ Ok r
unfolding request_at FitsRequest
request_only bytes r p =
    let a = api_of r.body in
    let all : bytes ≡ int16.spell (key_of a) ++ (int16.spell (version_of a) ++ ((known a).spell r ++ [])) = p.is_spelling ∙ sym (append-nil (spelling r)) ∙ spelled_behind r [] in
    ap request_at all ∙ rw (announced_again a ((known a).spell r ++ []), (known_exact a).again r [] p.fits (omega arith)) refl

pub request_one_spelling : (a b : Request) (x y rest : List ℕ) → Spells x a → Spells y b → y ≡ x ++ rest → (a ≡ b) × (rest ≡ [])
unfolding FitsRequest
request_one_spelling a b x y rest p q e =
    let j = api_of a.body in
    let k = api_of b.body in
    let front : y ≡ int16.spell (key_of j) ++ (int16.spell (version_of j) ++ ((known j).spell a ++ rest)) = e ∙ ap (λ (s : List ℕ). s ++ rest) p.is_spelling ∙ spelled_behind a rest in
    let back : y ≡ int16.spell (key_of k) ++ (int16.spell (version_of k) ++ ((known k).spell b ++ [])) = q.is_spelling ∙ sym (append-nil (spelling b)) ∙ spelled_behind b [] in
    let both = ok_is (j, (known j).spell a ++ rest) (k, (known k).spell b ++ []) (sym (announced_again j ((known j).spell a ++ rest)) ∙ ap announced (sym front ∙ back) ∙ announced_again k ((known k).spell b ++ [])) in
    let same : j ≡ k = ap (λ (z : Api × List ℕ). z.0) both in
    let P : Api → Type 0 = λ i. (known i).Fits b × ((known j).spell a ++ rest ≡ (known i).spell b ++ []) in
    let there : P j = subst P (sym same) (q.fits, ap (λ (z : Api × List ℕ). z.1) both) in
    one_spelling (known j) (known_exact j) a b rest [] p.fits there.0 there.1

-- ---- which faults come

body_faults : (a : Api) → HasFieldFaults (read_body a)
body_faults api.Produce = made_faults produce_request.read Produce produce_request_faults
body_faults api.Metadata = made_faults metadata_request.read Metadata metadata_request_faults
body_faults api.InitProducerId = made_faults init_producer_id_request.read InitProducerId init_producer_id_request_faults

known_faults : (a : Api) → HasFieldFaults (known a).read
unfolding known body
known_faults a = made_faults _ _ (pair_faults int32_faults (pair_faults nullable_string_faults (body_faults a)))

of_content : (f : FrameFault) → IsContentFault f → IsRequestFault f
of_content Short h = h
of_content Trailing h = h
of_content UnknownApi h = tt
of_content UnknownVersion h = tt
of_content (Wire w) h = h
of_content TooLarge h = h
of_content OutOfMemory h = h
of_content Mismatch h = h

api_fault : (key : ℤ) (f : FrameFault) → api_with key ≡ Err f → IsRequestFault f
api_fault key f e =
    elim (known_key key) [
      | inl found ↦ absurd (no_fault f found.0 (sym e ∙ found.2))
      | inr none ↦ is_error {A = Api} IsRequestFault UnknownApi f tt (sym none ∙ e)
    ]

announced_fault : (bytes : List ℕ) (f : FrameFault) → announced bytes ≡ Err f → IsRequestFault f
unfolding announced
announced_fault bytes f e =
    in_message_err IsRequestFault (int16.read bytes) _ f of_content (int16_faults bytes)
    (λ key e. step_err IsRequestFault (api_with key.0) _ f (api_fault key.0)
    (λ a is e. in_message_err IsRequestFault (int16.read key.1) _ f of_content (int16_faults key.1)
    (λ version e. refuse_err IsRequestFault (not (int_eq version.0 (version_of a))) UnknownVersion _ f tt
    (λ e. absurd (no_fault f (a, version.1) (sym e))) e) e) e) e

pub request_fault : (bytes : List ℕ) (f : FrameFault) → request_at bytes ≡ Err f → IsRequestFault f
unfolding request_at
request_fault bytes f e =
    step_err IsRequestFault (announced bytes) _ f (announced_fault bytes)
    (λ a is e. in_message_err IsRequestFault ((known a.0).read a.1) _ f of_content (known_faults a.0 a.1)
    (λ r e. whole_err IsRequestFault r.0 r.1 f tt e) e) e
