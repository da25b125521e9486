-- The core with the reports that were fetched put back in front is the same when one more is fetched.
use Rattle.std.proofs.Common.{◌≡◌, ℕ, zero, suc, ◌+◌, ◌<◌, List, [], ◌∷◌, ◌++◌, map, Some, None, refl, sym, ap, ◌∙◌, arith, append_assoc}
use Rattle.std.specs.Prelude.{drop, slice_get, slice_set, slice_index_or}
use Rattle.std.specs.List.{enumerate_from}
use Rattle.std.proofs.lemmas.List.{set-get_or}
use Rattle.kp_rules.specs.declared.outcome.Report.{Report}
use Rattle.kp_rules.specs.Fetched.{with_fetched}
use Rattle.kp_rules.specs.Records.{Core}
use Rattle.kp_rules.specs.Reports.{fetch_step}
use Rattle.kp_headline.specs.Moves.{with_report}

report_there : (s : ℕ) (r : Report) (f : List (List Report)) → slice_index_or (with_report s r f) s [] ≡ slice_index_or f s [] ++ r ∷ []
report_there zero r [] = refl
report_there zero r (x ∷ f) = refl
report_there (suc s) r [] = report_there s r []
report_there (suc s) r (x ∷ f) = report_there s r f

report_elsewhere : (s k : ℕ) (r : Report) (f : List (List Report)) → (k ≡ s → ⊥) → slice_index_or (with_report s r f) k [] ≡ slice_index_or f k []
report_elsewhere zero zero r f other = absurd (other refl)
report_elsewhere zero (suc k) r [] other = refl
report_elsewhere zero (suc k) r (x ∷ f) other = refl
report_elsewhere (suc s) zero r [] other = refl
report_elsewhere (suc s) zero r (x ∷ f) other = refl
report_elsewhere (suc s) (suc k) r [] other = report_elsewhere s k r [] (λ e. other (ap suc e))
report_elsewhere (suc s) (suc k) r (x ∷ f) other = report_elsewhere s k r f (λ e. other (ap suc e))

abbrev from : ℕ → List (List Report) → List (List Report) → List (List Report)
from k f reports = map (λ (x : ℕ × List Report). slice_index_or f x.0 [] ++ x.1) (enumerate_from k reports)

-- a sender's further report changes nothing behind it
past : (k s : ℕ) (r : Report) (f reports : List (List Report)) → s < k → from k (with_report s r f) reports ≡ from k f reports
past k s r f [] l = refl
past k s r f (x ∷ xs) l =
    ap (λ (y : List Report). (y ++ x) ∷ from (k + 1) (with_report s r f) xs) (report_elsewhere s k r f (λ e. omega (arith, l, e)))
    ∙ ap (λ (ys : List (List Report)). (slice_index_or f k [] ++ x) ∷ ys) (past (k + 1) s r f xs (omega (arith, l)))

-- the report goes from the front of what is not fetched to the back of what is
moved : (k n s : ℕ) (r : Report) (f reports : List (List Report)) → s ≡ k + n → slice_get (slice_index_or reports n []) 0 ≡ Some r
    → from k (with_report s r f) (slice_set reports n (drop 1 (slice_index_or reports n []))) ≡ from k f reports
moved k n s r f [] at e = absurd cc
moved k zero s r f ([] ∷ xs) at e = absurd cc
moved k zero s r f ((y ∷ ys) ∷ xs) at e =
    let here : s ≡ k = omega (arith, at) in
    let first : y ≡ r = cc in
    ap (λ (z : List (List Report)). (slice_index_or (with_report s r f) k [] ++ ys) ∷ z) (past (k + 1) s r f xs (omega (arith, at)))
    ∙ ap (λ (z : List Report). (z ++ ys) ∷ from (k + 1) f xs) (ap (λ (m : ℕ). slice_index_or (with_report m r f) k []) here ∙ report_there k r f)
    ∙ ap (λ (z : List Report). z ∷ from (k + 1) f xs) (append_assoc (slice_index_or f k []) (r ∷ []) ys)
    ∙ ap (λ (z : Report). (slice_index_or f k [] ++ z ∷ ys) ∷ from (k + 1) f xs) (sym first)
moved k (suc n) s r f (x ∷ xs) at e =
    ap (λ (z : List Report). (z ++ x) ∷ from (k + 1) (with_report s r f) (slice_set xs n (drop 1 (slice_index_or xs n [])))) (report_elsewhere s k r f (λ same. omega (arith, at, same)))
    ∙ ap (λ (z : List (List Report)). (slice_index_or f k [] ++ x) ∷ z) (moved (k + 1) n s r f xs (omega (arith, at)) e)

pub report_fetched : (s : Core) (sender : ℕ) (r : Report) (f : List (List Report)) → (fetch_step sender s).answer ≡ Some r
    → with_fetched (with_report sender r f) (fetch_step sender s).after ≡ with_fetched f s
report_fetched s sender r f e =
    ap (λ (reports : List (List Report)). let t : Core = record s { reports = reports } in t) (moved 0 sender sender r f s.reports (omega arith) e)

none_left : (waiting : List Report) → slice_get waiting 0 ≡ None → drop 1 waiting ≡ waiting
none_left [] e = refl
none_left (x ∷ waiting) e = absurd cc

pub none_fetched : (s : Core) (sender : ℕ) → (fetch_step sender s).answer ≡ None → (fetch_step sender s).after ≡ s
none_fetched s sender e =
    ap (λ (reports : List (List Report)). let t : Core = record s { reports = reports } in t)
    (ap (slice_set s.reports sender) (none_left (slice_index_or s.reports sender []) e) ∙ set-get_or s.reports sender [])

-- where nothing was fetched
from_nothing : (k : ℕ) (reports : List (List Report)) → from k [] reports ≡ reports
from_nothing k [] = refl
from_nothing k (x ∷ xs) = ap (λ (z : List (List Report)). x ∷ z) (from_nothing (k + 1) xs)

pub nothing_fetched : (s : Core) → with_fetched [] s ≡ s
nothing_fetched s = ap (λ (reports : List (List Report)). let t : Core = record s { reports = reports } in t) (from_nothing 0 s.reports)
