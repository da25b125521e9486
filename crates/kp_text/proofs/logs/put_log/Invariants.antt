use Rattle.std.proofs.Common.{◌≡◌, ◌++◌, drop}
use Rattle.kp_text.specs.Lines.{log_lines}
use Rattle.kp_text.specs.Logs.{values_of}
use Rattle.kp_text.proofs.logs.put_log.Given as goal

abbrev pub invariant-loop-offset : goal.invariant-loop-offset
invariant-loop-offset l =
    l.out.items ++ log_lines l.partition l.offset (drop l.offset (values_of l.log.records)) ≡ l.initial.out.items ++ log_lines l.partition 0 (values_of l.log.records)
