use Rattle.std.proofs.Common.{◌≡◌, replicate}
use Rattle.kp_parts.specs.Desk.{no_line}
use Rattle.kp_parts.proofs.desk.Desk.new.Given as goal

abbrev pub invariant-loop : goal.invariant-loop
invariant-loop l = l.lines.items ≡ replicate l.counter no_line
