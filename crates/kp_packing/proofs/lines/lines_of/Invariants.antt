use Rattle.std.proofs.Common.{◌≡◌, ◌++◌, length}
use Rattle.kp_program.specs.Lines.{lines}
use Rattle.kp_packing.specs.Packed.{records_of}
use Rattle.kp_packing.proofs.lines.lines_of.Given as goal

abbrev pub invariant-loop-rest : goal.invariant-loop-rest
invariant-loop-rest l = l.records.items ++ records_of (lines l.rest) ≡ records_of (lines l.bytes)

abbrev pub decreases-loop-rest : goal.decreases-loop-rest
decreases-loop-rest l = length l.rest
