use Rattle.std.proofs.Common.{◌≡◌, ◌++◌, drop}
use Rattle.kp_engine.specs.Parts.{to_sender}
use Rattle.kp_run.proofs.gathering.add_to.Given as goal

abbrev pub invariant-loop-report : goal.invariant-loop-report
invariant-loop-report l =
    l.reports.items ++ to_sender l.sender (drop l.report-index l.held) ≡ l.initial.reports.items ++ to_sender l.sender l.held
