-- The desk: each sender's reports that are not fetched, with places kept for further ones, and the memory that is used.
use Rattle.std.specs.Prelude.{ℕ, ◌+◌, ◌-◌, ◌≤◌, List, [], ◌∷◌, ◌++◌, length, map, sum_by, drop, replicate, slice_index_or, slice_set}
use Rattle.std.specs.List.{enumerate_from}
use Rattle.kp_accum.specs.Queue.{charge_of}
use Rattle.kp_rules.specs.declared.outcome.Report.{Report}
use Rattle.kp_rules.specs.Records.{Told}
use Rattle.kp_rules.specs.Reports.{reports_to}

-- One sender's reports that are not fetched, oldest first, and how many further ones have a place.
pub record Line : Type 0 where
  pub reports : List Report
  pub room : ℕ

pub record Desk : Type 0 where
  pub lines : List Line  -- by sender
  pub untold : ℕ  -- how many items are not told
  pub used : ℕ  -- their charges
  pub limit : ℕ

-- nobody's line
abbrev pub no_line : Line
no_line = record { reports = []; room = 0 }

abbrev pub new_desk : ℕ → ℕ → Desk
new_desk senders limit = record {
  lines = replicate senders no_line;
  untold = 0;
  used = 0;
  limit = limit;
}

abbrev pub line_of : ℕ → List Line → Line
line_of sender lines = slice_index_or lines sender no_line

abbrev pub with_line : ℕ → Line → Desk → Desk
with_line sender line d = record d { lines = slice_set d.lines sender line }

-- ---- reports

abbrev pub reports_of : Line → List Report
reports_of line = line.reports

-- each sender's reports that are not fetched
abbrev pub all_reports : Desk → List (List Report)
all_reports d = map reports_of d.lines

-- its oldest report is fetched
abbrev pub fetched : ℕ → Desk → Desk
fetched sender d =
    let line = line_of sender d.lines in
    with_line sender (record line { reports = drop 1 line.reports }) d

-- ---- places

-- the report stands last, in a place that was kept
abbrev pub put : Report → Line → Line
put report line = record { reports = line.reports ++ report ∷ []; room = line.room - 1 }

-- one place more is kept for it
abbrev pub with_place : ℕ → Desk → Desk
with_place sender d =
    let line = line_of sender d.lines in with_line sender (record line { room = line.room + 1 }) d

-- one place fewer is kept for it
abbrev pub without_place : ℕ → Desk → Desk
without_place sender d =
    let line = line_of sender d.lines in with_line sender (record line { room = line.room - 1 }) d

-- ---- telling

-- this sender's line, with a report of each of its items, each in a place that was kept
abbrev pub told_line : List Told → ℕ × Line → Line
told_line told x = record {
  reports = x.1.reports ++ reports_to x.0 told;
  room = x.1.room - length (reports_to x.0 told);
}

unfoldable pub told_lines : List Told → List Line → List Line
told_lines told lines = map (told_line told) (enumerate_from 0 lines)

-- the memory that the items take
abbrev pub charge_told : Told → ℕ
charge_told t = charge_of t.item

abbrev pub charges_of : List Told → ℕ
charges_of told = sum_by charge_told told

-- Each item is told, and its memory is given back.
abbrev pub tell_desk : List Told → Desk → Desk
tell_desk told d = record d {
  lines = told_lines told d.lines;
  untold = d.untold - length told;
  used = d.used - charges_of told;
}

-- Each item is told; none had taken memory.
abbrev pub tell_free : List Told → Desk → Desk
tell_free told d = record d { lines = told_lines told d.lines }

-- each sender has a place for each of its items
pub record HavePlaces (lines : List Line) (told : List Told) : Type 0 where
  pub places : (sender : ℕ) → length (reports_to sender told) ≤ (line_of sender lines).room

-- and they and their charges are counted
pub record Covers (d : Desk) (told : List Told) : Type 0 where
  pub places : HavePlaces d.lines told
  pub count : length told ≤ d.untold
  pub charges : charges_of told ≤ d.used
