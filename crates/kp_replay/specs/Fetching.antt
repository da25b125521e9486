-- A core whose reports are fetched.
use Rattle.std.specs.Prelude.{ℕ, List, [], ◌∷◌, ◌++◌, map, slice_set}
use Rattle.kp_rules.specs.declared.outcome.Report.{Report}
use Rattle.kp_rules.specs.Records.{Core}

-- this sender's
abbrev pub fetched_of : ℕ → Core → Core
fetched_of sender s = record s { reports = slice_set s.reports sender [] }

abbrev pub all_fetched : Core → Core
all_fetched s = record s { reports = map (λ r. []) s.reports }

-- the first sender's, and behind them the next one's
abbrev pub by_sender : List (List Report) → List Report
by_sender [] = []
by_sender (reports ∷ others) = reports ++ by_sender others
