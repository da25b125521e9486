-- How many records came to which end.
use Rattle.std.specs.Prelude.{ℕ, Bool, true, false, List, ◌++◌, codes, decimal, count_by}
use Rattle.kp_rules.specs.declared.outcome.Outcome.{Outcome}
use Rattle.kp_rules.specs.declared.outcome.Outcome.TheVariants.{Delivered, DeliveredNoOffset, Unknown, Rejected, Unsent}
use Rattle.kp_rules.specs.declared.outcome.Report.{Report}
use Rattle.kp_text.specs.Lines.{newline}

abbrev pub is_delivered : Outcome → Bool
is_delivered (Delivered offset) = true
is_delivered DeliveredNoOffset = true
is_delivered Unknown = false
is_delivered (Rejected code) = false
is_delivered (Unsent reason) = false

abbrev pub is_unsent : Outcome → Bool
is_unsent (Delivered offset) = false
is_unsent DeliveredNoOffset = false
is_unsent Unknown = false
is_unsent (Rejected code) = false
is_unsent (Unsent reason) = true

abbrev pub is_unknown : Outcome → Bool
is_unknown (Delivered offset) = false
is_unknown DeliveredNoOffset = false
is_unknown Unknown = true
is_unknown (Rejected code) = false
is_unknown (Unsent reason) = false

abbrev pub is_rejected : Outcome → Bool
is_rejected (Delivered offset) = false
is_rejected DeliveredNoOffset = false
is_rejected Unknown = false
is_rejected (Rejected code) = true
is_rejected (Unsent reason) = false

-- how many of the reports tell of such an outcome
abbrev pub told_as : (Outcome → Bool) → List Report → ℕ
told_as is reports = count_by (λ (r : Report). is r.outcome) reports

abbrev pub ends_text : List Report → List ℕ
ends_text reports =
    codes " delivered " ++ decimal (told_as is_delivered reports)
    ++ codes " unsent " ++ decimal (told_as is_unsent reports)
    ++ codes " unknown " ++ decimal (told_as is_unknown reports)
    ++ codes " rejected " ++ decimal (told_as is_rejected reports)

-- how many records were accepted, and how many of their reports tell which end
abbrev pub totals_line : ℕ → List Report → List ℕ
totals_line accepted reports = codes "total accepted " ++ decimal accepted ++ ends_text reports ++ newline
