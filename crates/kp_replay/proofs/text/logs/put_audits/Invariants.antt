use Rattle.std.proofs.Common.{◌≡◌, ◌++◌, drop}
use Rattle.std.specs.Prelude.{flat_map}
use Rattle.std.specs.List.{enumerate_from}
use Rattle.kp_replay.specs.Text.{audit_text}
use Rattle.kp_replay.proofs.text.logs.put_audits.Given as goal

abbrev pub invariant-loop-partition : goal.invariant-loop-partition
invariant-loop-partition l =
    l.out.items ++ flat_map audit_text (drop l.partition (enumerate_from 0 l.core.partitions))
    ≡ l.initial.out.items ++ flat_map audit_text (enumerate_from 0 l.core.partitions)
