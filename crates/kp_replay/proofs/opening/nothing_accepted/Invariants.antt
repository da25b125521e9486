use Rattle.std.proofs.Common.{◌≡◌, replicate, []}
use Rattle.kp_replay.proofs.opening.nothing_accepted.Given as goal

abbrev pub invariant-loop : goal.invariant-loop
invariant-loop l = l.lists.items ≡ replicate l.counter []
