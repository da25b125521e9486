-- Hearing the bytes of a response is hearing the response, and whatever changes the core is heard so.
use Rattle.std.proofs.Common.{◌≡◌, ℕ, ◌<◌, ◌^◌, Bool, true, false, List, None, Some, refl, sym, ap, ◌∙◌, subst, inl, inr, arith}
use Rattle.std.specs.Prelude.{All, length, Option, Result, Ok, if◌then◌else◌}
use Rattle.std.proofs.lemmas.Bool.{cases_lt}
use Rattle.std.proofs.lemmas.List.{get_or_past}
use Rattle.kp_wire.specs.Fields.{int32}
use Rattle.kp_wire.proofs.FieldLemmas.{int32_exact}
use Rattle.kp_wire.proofs.ReadLemmas.{IsBytes}
use Rattle.kp_frames.specs.declared.api.Api.{Api}
use Rattle.kp_frames.specs.declared.response.Response.{Response}
use Rattle.kp_frames.specs.Response.{body, answer, FitsResponse, spell_body, spelling, Spells}
use Rattle.kp_frames.proofs.ResponseLemmas.{response_found, response_only}
use Rattle.kp_rules.specs.declared.fault.CoreFault.{CoreFault}
use Rattle.kp_rules.specs.declared.fault.CoreFault.TheVariants as fault
use Rattle.kp_rules.specs.declared.ticked.Replied.{Replied}
use Rattle.kp_rules.specs.Records.{Request, Core, quietly}
use Rattle.kp_rules.specs.Replies.{Replies, awaited, refuse_as, unknown, settle, response_step, api_of, reply_step, IsReadAs}
use Rattle.kp_rules.proofs.CallLemmas.{at_reply, reading, naming, hearing}

-- ---- the bytes of a response are heard as the response

spelled_number : (a : Api) (content : List ℕ) (x : Response) → Spells a content x → int32.read content ≡ Ok (x.correlation, spell_body x.body)
unfolding spelling FitsResponse answer body
spelled_number a content x p = ap int32.read p.is_spelling ∙ int32_exact.again x.correlation (spell_body x.body) p.fits.0 (omega arith)

pub heard_as_response : (a : Api) (now : ℕ) (content : List ℕ) (s : Core) (response : Response)
    → Spells a content response → IsReadAs a (awaited response.correlation s) → reply_step now content s ≡ response_step now response s
unfolding reply_step response_step
heard_as_response a now content s x p kind = at_end s.ended refl
  where
    settling : Option Request → Replies
    settling named = elim named [ None ↦ unknown s | Some r ↦ settle now s r.correlation r.demand x.body ]

    going : s.ended ≡ false → response_step now x s ≡ settling (awaited x.correlation s)
    going e = ap (λ (b : Bool). if b then refuse_as fault.Ended s else settling (awaited x.correlation s)) e

    at_named : s.ended ≡ false → (o : Option Request) → awaited x.correlation s ≡ o → IsReadAs a o → naming now content s o ≡ response_step now x s
    at_named e None there k = sym (going e ∙ ap settling there)
    at_named e (Some r) there k = ap (reading now s) (response_only (api_of r.demand) content x (subst (λ (y : Api). Spells y content x) (sym k) p))

    at_end : (b : Bool) → s.ended ≡ b
        → (if b then refuse_as fault.Ended s else hearing now content s (int32.read content))
        ≡ (if b then refuse_as fault.Ended s else settling (awaited x.correlation s))
    at_end true e = refl
    at_end false e = ap (hearing now content s) (spelled_number a content x p) ∙ at_named e (awaited x.correlation s) refl kind ∙ going e

-- ---- nothing changes, or it is a response that the bytes are

are_bytes : (bytes : List ℕ) → All (λ byte. byte < 2 ^ 8) bytes → IsBytes bytes
are_bytes bytes all i = elim (cases_lt i (length bytes)) [ inl lt ↦ all i 0 lt | inr le ↦ rw (get_or_past bytes i 0 le) (omega arith) ]

pub at_heard {ℓ} : (P : Replies → Type ℓ) (now : ℕ) (content : List ℕ) (s : Core) → All (λ byte. byte < 2 ^ 8) content
    → ((answer : Result Replied CoreFault) → P (quietly s answer)) → ((a : Api) (x : Response) → Spells a content x → P (response_step now x s))
    → P (reply_step now content s)
at_heard P now content s bytes same heard =
    at_reply P now content s same (λ a x e. heard a x (response_found a content x (are_bytes content bytes) e))
