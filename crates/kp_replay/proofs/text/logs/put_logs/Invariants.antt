use Rattle.std.proofs.Common.{◌≡◌, ◌++◌, drop}
use Rattle.std.specs.Prelude.{flat_map}
use Rattle.std.specs.List.{enumerate_from}
use Rattle.kp_replay.specs.Text.{log_text}
use Rattle.kp_replay.proofs.text.logs.put_logs.Given as goal

abbrev pub invariant-loop-partition : goal.invariant-loop-partition
invariant-loop-partition l =
    l.out.items ++ flat_map (log_text l.core.partitions) (drop l.partition (enumerate_from 0 l.logs))
    ≡ l.initial.out.items ++ flat_map (log_text l.core.partitions) (enumerate_from 0 l.logs)
