use Rattle.std.proofs.Common.{ℕ, List, ◌++◌, ◌∙◌, ap}
use Rattle.std.specs.Prelude.{flat_map}
use Rattle.std.proofs.lemmas.Result.{on_ok_weaker}
use Rattle.kp_text.proofs.TextLemmas.{three_texts}
use Rattle.kp_rules.specs.declared.outcome.Report.{Report}
use Rattle.kp_text.specs.Lines.{report_lines}
use Rattle.kp_world.specs.Line.{Reported}
use Rattle.kp_replay.specs.Line.{lines_of}
use Rattle.kp_replay.specs.Text.{flushed_text, told}
use Rattle.kp_replay.proofs.LineLemmas.{reports_told}
use Rattle.kp_replay.proofs.text.past.put_happened.Goals as goal

pub returns : goal.returns
returns c =
    let happened = c.args.happened.now in
    let answer = flat_map told (lines_of happened.answer) in
    let reports = flat_map (λ r. told (Reported r)) happened.reports.items in
    let one = c.put_answer.new.out.items in
    let two = c.put_reports.new.out.items in
    let second = c.in_ok-put_reports.ensures
    ∙ ap (λ (text : List ℕ). one ++ text) (ap (λ (rs : List Report). report_lines rs) c.as_slice.ensures.value ∙ reports_told happened.reports.items) in
    on_ok_weaker c.put_flushed.result
    (three_texts answer reports (flushed_text happened.flushed) c.args.out.now.items one two c.put_flushed.new.out.items
    c.in_ok-put_answer.ensures second)
    c.put_flushed.ensures
