use Rattle.std.proofs.Common.{◌≡◌, ◌++◌, length, map}
use Rattle.kp_program.specs.Lines.{lines}
use Rattle.kp_program.proofs.lines.slices_of.Given as goal

abbrev pub invariant-loop-rest : goal.invariant-loop-rest
invariant-loop-rest l = map (λ line. line.now) l.found.items ++ lines l.rest ≡ lines l.bytes

abbrev pub decreases-loop-rest : goal.decreases-loop-rest
decreases-loop-rest l = length l.rest
