use Rattle.std.proofs.Common.{◌≡◌, replicate, []}
use Rattle.kp_accum.proofs.accum.Accum.new.Given as goal

abbrev pub invariant-loop : goal.invariant-loop
invariant-loop l = l.queues.items ≡ replicate l.counter []
