use Rattle.std.proofs.Common.{◌≡◌, ◌+◌, length}
use Rattle.kp_schedule.specs.Lines.{lines}
use Rattle.kp_schedule.proofs.lines.has_more_lines.Given as goal

abbrev pub invariant-loop-rest : goal.invariant-loop-rest
invariant-loop-rest l = l.limit + length (lines l.rest) ≡ l.left + length (lines l.text)

abbrev pub decreases-loop-rest : goal.decreases-loop-rest
decreases-loop-rest l = length l.rest
