use Rattle.std.proofs.Common.{◌≡◌, ◌++◌, length}
use Rattle.kp_wire.specs.Printed.{printed}
use Rattle.kp_text.proofs.printing.put_printed.Given as goal

abbrev pub invariant-loop-rest : goal.invariant-loop-rest
invariant-loop-rest l = l.out.items ++ printed l.rest ≡ l.initial.out.items ++ printed l.value

abbrev pub decreases-loop-rest : goal.decreases-loop-rest
decreases-loop-rest l = length l.rest
