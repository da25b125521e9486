use Rattle.std.proofs.Common.{◌≡◌, take}
use Rattle.kp_wire.specs.Printed.{printed}
use Rattle.kp_text.proofs.printing.plain_len.Given as goal

abbrev pub invariant-loop-i : goal.invariant-loop-i
invariant-loop-i l = printed (take l.i l.value) ≡ take l.i l.value
