use Rattle.std.proofs.Common.{◌≡◌, replicate}
use Rattle.kp_embed.proofs.embed.opening.zeros.Given as goal

abbrev pub invariant-loop : goal.invariant-loop
invariant-loop l = l.zeros.items ≡ replicate l.counter 0
