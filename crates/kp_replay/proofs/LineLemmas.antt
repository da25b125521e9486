-- The text of a line, by its words.
use Rattle.std.proofs.Common.{◌≡◌, ℕ, List, [], ◌∷◌, ◌++◌, refl, sym, ap, ap₂, ◌∙◌, append_assoc, codes, decimal}
use Rattle.std.specs.Prelude.{flat_map}
use Rattle.kp_rules.specs.declared.outcome.Outcome.{Outcome}
use Rattle.kp_rules.specs.declared.outcome.Outcome.TheVariants.{Delivered, DeliveredNoOffset, Unknown, Rejected, Unsent}
use Rattle.kp_rules.specs.declared.outcome.Reason.TheVariants.{Expired, Fenced, Ended}
use Rattle.kp_rules.specs.declared.outcome.Report.{Report}
use Rattle.kp_rules.specs.declared.run.Run.{Run}
use Rattle.kp_text.specs.Lines as plain
use Rattle.kp_wire.specs.Printed.{printed}
use Rattle.kp_world.specs.Line.{Reported, Logged, Audited}
use Rattle.kp_world.specs.Text.{line_text, outcome_text}
use Rattle.kp_replay.specs.Text.{told}

outcome_words : (o : Outcome) → outcome_text o ≡ 32 ∷ plain.outcome_text o
outcome_words (Delivered offset) = refl
outcome_words DeliveredNoOffset = refl
outcome_words Unknown = refl
outcome_words (Rejected code) = refl
outcome_words (Unsent Expired) = refl
outcome_words (Unsent Fenced) = refl
outcome_words (Unsent Ended) = refl

-- ---- words, and what stands behind them

joined : (a b : List ℕ) → (a ++ 32 ∷ []) ++ b ≡ a ++ 32 ∷ b
joined a b = append_assoc a (32 ∷ []) b

three_more : (a b c d : List ℕ) → (((((a ++ 32 ∷ []) ++ b) ++ 32 ∷ []) ++ c) ++ 32 ∷ []) ++ d ≡ ((a ++ 32 ∷ b) ++ 32 ∷ c) ++ 32 ∷ d
three_more a b c d =
    joined ((((a ++ 32 ∷ []) ++ b) ++ 32 ∷ []) ++ c) d
    ∙ ap (λ (t : List ℕ). t ++ 32 ∷ d) (joined ((a ++ 32 ∷ []) ++ b) c ∙ ap (λ (t : List ℕ). t ++ 32 ∷ c) (joined a b))

-- ---- lines

pub report_told : (r : Report) → plain.report_line r ≡ told (Reported r)
unfolding line_text
report_told r =
    ap (λ (t : List ℕ). codes "report " ++ (t ++ 10 ∷ [])) (three_more (decimal r.sender) (decimal r.partition) (decimal r.number) (plain.outcome_text r.outcome))
    ∙ ap (λ (o : List ℕ). codes "report " ++ ((((decimal r.sender ++ 32 ∷ decimal r.partition) ++ 32 ∷ decimal r.number) ++ o) ++ 10 ∷ [])) (sym (outcome_words r.outcome))

pub run_told : (p : ℕ) (r : Run) → plain.audit_line p r ≡ told (Audited p r)
unfolding line_text
run_told p r =
    ap (λ (t : List ℕ). codes "audit " ++ (t ++ 10 ∷ [])) (three_more (decimal p) (decimal r.sender) (decimal r.first) (decimal r.count))

pub log_told : (p offset : ℕ) (value : List ℕ) → plain.log_line p offset value ≡ told (Logged p offset value)
unfolding line_text
log_told p offset value =
    ap (λ (t : List ℕ). codes "log " ++ (((t ++ 32 ∷ []) ++ printed value) ++ 10 ∷ [])) (joined (decimal p) (decimal offset))

pub reports_told : (rs : List Report) → plain.report_lines rs ≡ flat_map (λ r. told (Reported r)) rs
reports_told [] = refl
reports_told (r ∷ rs) = ap₂ (λ (a b : List ℕ). a ++ b) (report_told r) (reports_told rs)

pub runs_told : (p : ℕ) (rs : List Run) → plain.audit_lines p rs ≡ flat_map (λ r. told (Audited p r)) rs
runs_told p [] = refl
runs_told p (r ∷ rs) = ap₂ (λ (a b : List ℕ). a ++ b) (run_told p r) (runs_told p rs)
