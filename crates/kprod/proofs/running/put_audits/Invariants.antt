use Rattle.std.proofs.Common.{◌≡◌, ◌++◌}
use Rattle.kprod.specs.RunText.{audit_at, of_each}
use Rattle.kprod.proofs.running.put_audits.Given as goal

abbrev pub invariant-loop-partition : goal.invariant-loop-partition
invariant-loop-partition l = l.out.items ≡ l.initial.out.items ++ of_each (audit_at l.core) l.partition
