use Rattle.std.proofs.Common.{◌≡◌, ◌++◌}
use Rattle.kprod.specs.RunText.{log_at, of_each}
use Rattle.kprod.proofs.running.put_logs.Given as goal

abbrev pub invariant-loop-partition : goal.invariant-loop-partition
invariant-loop-partition l = l.out.items ≡ l.initial.out.items ++ of_each (log_at l.broker l.core) l.partition
