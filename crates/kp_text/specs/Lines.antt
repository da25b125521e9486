-- Lines of text.
use Rattle.std.specs.Prelude.{ℕ, suc, List, [], ◌∷◌, ◌++◌, ℤ, codes, decimal, flat_map}
use Rattle.std.specs.Fmt.{signed_decimal}
use Rattle.kp_rules.specs.declared.outcome.Outcome.{Outcome}
use Rattle.kp_rules.specs.declared.outcome.Outcome.TheVariants.{Delivered, DeliveredNoOffset, Unknown, Rejected, Unsent}
use Rattle.kp_rules.specs.declared.outcome.Reason.TheVariants.{Expired, Fenced, Ended}
use Rattle.kp_rules.specs.declared.outcome.Report.{Report}
use Rattle.kp_rules.specs.declared.run.Run.{Run}
use Rattle.kp_wire.specs.Printed.{printed}

abbrev pub newline : List ℕ
newline = 10 ∷ []

abbrev pub blank : List ℕ
blank = codes " "

-- ---- of a log

abbrev pub batch_line : ℕ → ℕ → List ℕ
batch_line size count = codes "batch " ++ decimal size ++ codes " records " ++ decimal count ++ newline

abbrev pub answer_line : ℤ → ℤ → List ℕ
answer_line code base = codes "answer " ++ signed_decimal code ++ codes " " ++ signed_decimal base ++ newline

-- a value at its offset in a partition's log
abbrev pub log_line : ℕ → ℕ → List ℕ → List ℕ
log_line partition offset value =
    codes "log " ++ decimal partition ++ codes " " ++ decimal offset ++ codes " " ++ printed value ++ newline

-- the values of a partition's log from this offset on
abbrev pub log_lines : ℕ → ℕ → List (List ℕ) → List ℕ
log_lines partition offset [] = []
log_lines partition offset (value ∷ values) = log_line partition offset value ++ log_lines partition (suc offset) values

-- ---- of records that were sent

-- what became of a record
abbrev pub outcome_text : Outcome → List ℕ
outcome_text (Delivered offset) = codes "delivered " ++ signed_decimal offset
outcome_text DeliveredNoOffset = codes "delivered"
outcome_text Unknown = codes "unknown"
outcome_text (Rejected code) = codes "rejected " ++ signed_decimal code
outcome_text (Unsent Expired) = codes "expired"
outcome_text (Unsent Fenced) = codes "fenced"
outcome_text (Unsent Ended) = codes "ended"

-- what a sender was told of its record of this number
abbrev pub report_line : Report → List ℕ
report_line r =
    codes "report " ++ decimal r.sender ++ codes " " ++ decimal r.partition ++ codes " " ++ decimal r.number
    ++ codes " " ++ outcome_text r.outcome ++ newline

abbrev pub report_lines : List Report → List ℕ
report_lines reports = flat_map report_line reports

-- a sender's records that were handed over one after the other, by the first one's number and their count
abbrev pub audit_line : ℕ → Run → List ℕ
audit_line partition run =
    codes "audit " ++ decimal partition ++ codes " " ++ decimal run.sender ++ codes " " ++ decimal run.first
    ++ codes " " ++ decimal run.count ++ newline

abbrev pub audit_lines : ℕ → List Run → List ℕ
audit_lines partition runs = flat_map (audit_line partition) runs
