use Rattle.std.proofs.Common.{◌<◌, ◌≤◌, length, arith}
use Rattle.kp_text.specs.Lines.{report_line}
use Rattle.kp_text.proofs.TextLemmas.{text_done, text_step}
use Rattle.kp_text.proofs.reports.put_reports.Goals as goal

pub loop-report-preserved : goal.loop-report-preserved
loop-report-preserved c =
    let within : c.loop-report.report-index < length c.args.reports.now = omega arith in
    text_step report_line c.args.reports.now c.loop-report.report-index c.loop-report.out.items _ _ _ within c.loop-report.invariant c.in_ok-put_report.ensures

pub returns : goal.returns
returns c =
    let past : length c.args.reports.now ≤ c.loop-report.report-index = omega arith in
    text_done report_line c.args.reports.now c.loop-report.report-index c.loop-report.out.items _ past c.loop-report.invariant
