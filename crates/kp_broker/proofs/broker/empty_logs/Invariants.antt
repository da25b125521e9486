use Rattle.std.proofs.Common.{◌≡◌, replicate}
use Rattle.kp_log.specs.Log.{empty}
use Rattle.kp_broker.proofs.broker.empty_logs.Given as goal

abbrev pub invariant-loop : goal.invariant-loop
invariant-loop l = l.logs.items ≡ replicate l.counter empty
