-- What the tests of a judge, which look at what is kept, say of the log.
use Rattle.std.proofs.Common.{◌≡◌, Bool, true, false, List, ℤ, pos, int_lt, int_cmp, int_eq, Option, unwrap_or, SFits, to_z, of_z, w16, w64, sym, ap, ◌∙◌}
use Rattle.std.specs.BTreeMap.{is_at}
use Rattle.std.specs.Map.{lookup}
use Rattle.std.proofs.lemmas.Int.{to_z-of_z}
use Rattle.std.proofs.lemmas.Bool.Decides.{Decides-int_eq}
use Rattle.kp_batch.specs.declared.batch.Batch.{Batch}
use Rattle.kp_log.specs.declared.kept.Span.{Span}
use Rattle.kp_log.specs.declared.kept.Kept.{Kept}
use Rattle.kp_log.specs.Log.{Log, nothing_kept}
use Rattle.kp_log.proofs.LogLemmas.{int_apart}
use Rattle.kp_log.proofs.RuleLemmas.{IsAddressed, spans_of}

-- ---- the head, as the machine compares it

pub sign_of : (id : ℤ) (t : Bool) → SFits w64 id → int_lt (to_z w64 (of_z w64 id)) (pos 0) ≡ t
    → int_lt id (pos 0) ≡ t
sign_of id t fits h = ap (λ z. int_lt z (pos 0)) (sym (to_z-of_z w64 id fits)) ∙ h

zero_epoch : (e : ℤ) → SFits w16 e → of_z w16 e ≡ 0 → int_eq e (pos 0) ≡ true
zero_epoch e fits h = let zero : e ≡ pos 0 = sym (to_z-of_z w16 e fits) ∙ ap (to_z w16) h in (Decides-int_eq e (pos 0)).1 zero

pub other_epoch : (e : ℤ) → (of_z w16 e ≡ 0 → ⊥) → int_eq e (pos 0) ≡ false
other_epoch e other = int_apart e (pos 0) (λ same. other (ap (of_z w16) same))

pub is_addressed : (b : Batch) → SFits w64 b.head.producer_id → SFits w16 b.head.epoch
    → int_lt (to_z w64 (of_z w64 b.head.producer_id)) (pos 0) ≡ false → of_z w16 b.head.epoch ≡ 0 → IsAddressed b
is_addressed b id_fits epoch_fits known first = record { known = sign_of _ false id_fits known; first_epoch = zero_epoch _ epoch_fits first }

-- ---- what is kept

pub of_spans : {X : Type 0} (f : List Span
    → X) (x : X) (log : Log) (b : Batch) (found : Option Kept) (spans : List Span)
    → found ≡ lookup (is_at (int_cmp b.head.producer_id)) log.kept → spans ≡ (unwrap_or found nothing_kept).spans → x ≡ f spans → f (spans_of log b) ≡ x
of_spans f x log b found spans looked seen is = sym (is ∙ ap f (seen ∙ ap (λ o. (unwrap_or o nothing_kept).spans) looked))
