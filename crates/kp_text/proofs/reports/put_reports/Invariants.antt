use Rattle.std.proofs.Common.{◌≡◌, ◌++◌, drop}
use Rattle.std.specs.Prelude.{flat_map}
use Rattle.kp_text.specs.Lines.{report_line}
use Rattle.kp_text.proofs.reports.put_reports.Given as goal

abbrev pub invariant-loop-report : goal.invariant-loop-report
invariant-loop-report l = l.out.items ++ flat_map (report_line) (drop l.report-index l.reports) ≡ l.initial.out.items ++ flat_map (report_line) l.reports
