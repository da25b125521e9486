-- A core with reports in front of those that are not fetched.
use Rattle.std.specs.Prelude.{List, [], ◌++◌, map, slice_index_or}
use Rattle.std.specs.List.{enumerate_from}
use Rattle.kp_rules.specs.declared.outcome.Report.{Report}
use Rattle.kp_rules.specs.Records.{Core, Called}

-- each sender's reports, and in front of them these
abbrev pub before_each : List (List Report) → List (List Report) → List (List Report)
before_each earlier reports =
    map (λ x. slice_index_or earlier x.0 [] ++ x.1) (enumerate_from 0 reports)

abbrev pub with_fetched : List (List Report) → Core → Core
with_fetched earlier s = record s { reports = before_each earlier s.reports }

-- the same step of the core with them: it tells and answers the same
abbrev pub after_fetched : {A : Type 0} → List (List Report) → Called A → Called A
after_fetched earlier called = record called { after = with_fetched earlier called.after }
