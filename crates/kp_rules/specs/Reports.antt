-- Reports: what was told of a sender's items, until it is fetched.
use Rattle.std.specs.Prelude.{ℕ, List, [], ◌++◌, map, filter, drop, Option, ◌==◌, slice_get, slice_index_or, slice_set}
use Rattle.std.specs.List.{enumerate_from}
use Rattle.kp_rules.specs.declared.outcome.Report.{Report}
use Rattle.kp_rules.specs.Records.{Core, Told, Called, quietly}

-- the reports of this sender's items, in the order in which they were told
abbrev pub reports_to : ℕ → List Told → List Report
reports_to sender told = map (λ t. record {
  sender = t.item.sender;
  partition = t.item.partition;
  number = t.item.number;
  outcome = t.outcome;
}) (filter (λ t. t.item.sender == sender) told)

-- each sender's reports, and behind them the new ones
unfoldable pub with_reports : List Told → List (List Report) → List (List Report)
with_reports told reports = map (λ x. x.1 ++ reports_to x.0 told) (enumerate_from 0 reports)

-- ---- a sender's reports are fetched first in, first out

abbrev pub fetch_step : ℕ → Core → Called (Option Report)
fetch_step sender s =
    let waiting = slice_index_or s.reports sender [] in
    quietly (record s { reports = slice_set s.reports sender (drop 1 waiting) }) (slice_get waiting 0)
