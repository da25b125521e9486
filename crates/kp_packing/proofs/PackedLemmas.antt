-- The text of values that were packed.
use Rattle.std.proofs.Common.{◌≡◌, ℕ, ◌<◌, ◌≤◌, List, [], ◌∷◌, ◌++◌, length, pos, ℤ, refl, ap, ◌∙◌, arith, lit≤, Result, Ok, Err, MatchResult}
use Rattle.kp_batch.specs.declared.size.TheConstants.{SIZE_LIMIT}
use Rattle.kp_batch.specs.Spelling.{measured, size_of_batch}
use Rattle.kp_batch.proofs.SizeLemmas.{small_measured, large_measured}
use Rattle.kp_log.specs.declared.answer.Answer.TheVariants as answer
use Rattle.kp_log.specs.Log.{stored_as}
use Rattle.kp_packing.specs.declared.fault.PackFault.{PackFault}
use Rattle.kp_packing.specs.declared.fault.PackFault.TheVariants.{TooLarge}
use Rattle.kp_packing.specs.declared.offering.Offered.{Offered}
use Rattle.kp_packing.specs.Offered.{StoredOnce}
use Rattle.kp_packing.specs.Packed.{packed_text, records_of}
use Rattle.kp_packing.specs.Report.{answered, report_text}
use Rattle.kp_text.specs.Lines.{batch_line, log_lines}
use Rattle.kp_text.specs.Logs.{values_of}

-- ---- the size

pub size-none : (values : List (List ℕ)) → length (records_of values) ≡ 0 → size_of_batch (records_of values) ≤ SIZE_LIMIT
unfolding size_of_batch
size-none [] none = lit≤ tt
size-none (value ∷ values) none = absurd (omega arith)

-- what is decided on a measure is decided on what was measured
pub decided-measured : (r : Result ℕ PackFault) (m n : ℕ) → m ≡ measured n
    → MatchResult r (λ same. (same ≡ m) × (m ≤ SIZE_LIMIT)) (λ fault. (fault ≡ TooLarge) × (SIZE_LIMIT < m))
    → MatchResult r (λ size. (size ≡ n) × (size ≤ SIZE_LIMIT)) (λ fault. (fault ≡ TooLarge) × (SIZE_LIMIT < n))
decided-measured (Ok same) m n is decided =
    let same_n : same ≡ n = decided.0 ∙ small_measured m n is decided.1 in
    (same_n, omega (arith, decided.0, decided.1))
decided-measured (Err fault) m n is decided = (decided.0, (large_measured m n is decided.1).1)

-- ---- the whole text

values_of-stored : (id : ℤ) (values : List (List ℕ)) → values_of (stored_as id (records_of values)) ≡ values
values_of-stored id [] = refl
values_of-stored id (value ∷ values) = ap (λ (rest : List (List ℕ)). value ∷ rest) (values_of-stored id values)

text_of : (id : ℤ) (values : List (List ℕ)) (size : ℕ) (o : Offered) → StoredOnce id (records_of values) o
    → report_text size (length values) o ≡ batch_line size (length values) ++ answered (answer.Stored (pos 0)) ++ answered (answer.Stored (pos 0)) ++ log_lines 0 0 values
text_of id values size o stored =
    let shown : values_of o.log.records ≡ values = ap values_of stored.once ∙ values_of-stored id values in
    rw (stored.first, stored.repeat, shown) refl

pub report_text-stored : (id : ℤ) (values : List (List ℕ)) (size count : ℕ) (o : Offered) → 0 < length (records_of values)
    → size ≡ size_of_batch (records_of values) → count ≡ length values → StoredOnce id (records_of values) o
    → report_text size count o ≡ packed_text values
report_text-stored id [] size count o some sized counted stored = absurd (omega arith)
report_text-stored id (value ∷ values) size count o some sized counted stored =
    rw (sized, counted) (text_of id (value ∷ values) (size_of_batch (records_of (value ∷ values))) o stored)
