use Rattle.std.proofs.Common.{◌≡◌, ◌++◌, drop}
use Rattle.std.specs.Prelude.{flat_map}
use Rattle.std.specs.List.{enumerate_from}
use Rattle.kp_replay.specs.Text.{records_text, stored_line, told}
use Rattle.kp_replay.proofs.text.logs.put_log.Given as goal

abbrev pub invariant-loop-offset : goal.invariant-loop-offset
invariant-loop-offset l =
    l.out.items ++ flat_map (λ at. told (stored_line l.partition l.ids at)) (drop l.offset (enumerate_from 0 l.log.records))
    ≡ l.initial.out.items ++ records_text l.partition l.ids l.log.records
