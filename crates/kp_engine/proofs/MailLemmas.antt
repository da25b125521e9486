-- Reports, fetched from the core and handed over.
use Rattle.std.proofs.Common.{◌≡◌, ◌≢◌, ℕ, ◌<◌, ◌≤◌, List, [], ◌∷◌, ◌++◌, length, set, refl, sym, ap, ◌∙◌, subst, append-nil, ⊎_elim, arith}
use Rattle.std.specs.Prelude.{Option, Some, None, All, drop, slice_get}
use Rattle.std.proofs.lemmas.Bool.{cases_lt}
use Rattle.std.proofs.lemmas.List.{set-get_or}
use Rattle.kp_rules.specs.Calls.{Fetch, Step}
use Rattle.kp_rules.specs.Records.{Core}
use Rattle.kp_rules.specs.declared.outcome.Report.{Report}
use Rattle.kp_engine.specs.Agreement.{waiting_of}
use Rattle.kp_engine.proofs.AgreementLemmas.{nothing_beyond}
use Rattle.kp_engine.proofs.StepLemmas.{each_call, elsewhere, here_fetched}

-- ---- fetching

empty_of : (xs : List Report) → slice_get xs 0 ≡ None → xs ≡ []
empty_of [] is = refl
empty_of (x ∷ xs) is = cc

-- there was none, and the core is as it was
pub none_fetched : (s t : Core) (i : ℕ) → Step s (Fetch i None) t → (t ≡ s) × (waiting_of t i ≡ [])
none_fetched s t i step =
    let empty : waiting_of s i ≡ [] = empty_of (waiting_of s i) step.0 in
    let same : t ≡ s =
    step.1 ∙ ap (λ (w : List Report). record s { reports = set s.reports i (drop 1 w) }) empty
    ∙ ap (λ (w : List Report). record s { reports = set s.reports i w }) (sym empty)
    ∙ ap (λ (rs : List (List Report)). record s { reports = rs }) (set-get_or s.reports i []) in (
      same,
      ap (λ (u : Core). waiting_of u i) same ∙ empty,
    )

pub some_fetched : (s t : Core) (i : ℕ) (r : Report) → i < length s.reports → Step s (Fetch i (Some r)) t → waiting_of s i ≡ r ∷ waiting_of t i
some_fetched s t i r near step =
    sym (append-nil (waiting_of s i)) ∙ (each_call s t (Fetch i (Some r)) step).waiting i near ∙ ap (λ (rs : List Report). rs ++ waiting_of t i) (here_fetched i (Some r))

pub its_own : (i : ℕ) (r : Report) (ws rest : List Report) → ws ≡ r ∷ rest → All (λ x. x.sender ≡ i) ws → r.sender ≡ i
its_own i r ws rest is all = subst (λ (xs : List Report). All (λ x. x.sender ≡ i) xs) is all 0 r (omega arith)

-- the reports of the others wait as before
pub others_wait : (s t : Core) (i : ℕ) (answer : Option Report) → Step s (Fetch i answer) t → (k : ℕ) → k ≢ i → waiting_of t k ≡ waiting_of s k
others_wait s t i answer step k other =
    let goes = each_call s t (Fetch i answer) step in ⊎_elim
    (λ (near : k < length s.reports).
    sym (sym (append-nil (waiting_of s k)) ∙ goes.waiting k near ∙ ap (λ (rs : List Report). rs ++ waiting_of t k) (elsewhere k i answer other)))
    (λ (far : length s.reports ≤ k). nothing_beyond t.reports k (omega (arith, far, goes.shape.senders)) ∙ sym (nothing_beyond s.reports k far))
    (cases_lt k (length s.reports))
