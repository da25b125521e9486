use Rattle.std.proofs.Common.{◌≡◌, replicate}
use Rattle.kp_replay.proofs.opening.nothing_taken.Given as goal

abbrev pub invariant-loop : goal.invariant-loop
invariant-loop l = l.counts.items ≡ replicate l.counter 0
