use Rattle.std.proofs.Common.{◌<◌, ◌≤◌, length, arith}
use Rattle.kp_text.specs.Lines.{audit_line}
use Rattle.kp_text.proofs.TextLemmas.{text_done, text_step}
use Rattle.kp_text.proofs.audits.put_audit.Goals as goal

pub loop-run-preserved : goal.loop-run-preserved
loop-run-preserved c =
    let within : c.loop-run.run-index < length c.args.runs.now = omega arith in
    text_step (audit_line c.args.partition) c.args.runs.now c.loop-run.run-index c.loop-run.out.items _ _ _ within c.loop-run.invariant c.in_ok-put_run.ensures

pub returns : goal.returns
returns c =
    let past : length c.args.runs.now ≤ c.loop-run.run-index = omega arith in
    text_done (audit_line c.args.partition) c.args.runs.now c.loop-run.run-index c.loop-run.out.items _ past c.loop-run.invariant
