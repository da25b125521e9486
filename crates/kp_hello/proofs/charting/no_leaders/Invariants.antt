use Rattle.std.proofs.Common.{◌≡◌, None, replicate}
use Rattle.kp_hello.proofs.charting.no_leaders.Given as goal

abbrev pub invariant-loop : goal.invariant-loop
invariant-loop l = l.leaders.items ≡ replicate l.counter None
