use Rattle.std.proofs.Common.{◌≡◌, ◌++◌, drop}
use Rattle.std.specs.Prelude.{flat_map}
use Rattle.kp_text.specs.Lines.{audit_line}
use Rattle.kp_text.proofs.audits.put_audit.Given as goal

abbrev pub invariant-loop-run : goal.invariant-loop-run
invariant-loop-run l = l.out.items ++ flat_map (audit_line l.partition) (drop l.run-index l.runs) ≡ l.initial.out.items ++ flat_map (audit_line l.partition) l.runs
