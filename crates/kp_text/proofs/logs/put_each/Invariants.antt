use Rattle.std.proofs.Common.{◌≡◌, ◌++◌, drop}
use Rattle.std.specs.Prelude.{flat_map}
use Rattle.kp_text.specs.Logs.{line_at}
use Rattle.kp_text.proofs.logs.put_each.Given as goal

abbrev pub invariant-loop-offset : goal.invariant-loop-offset
invariant-loop-offset l = l.out.items ++ flat_map (line_at l.partition l.log.records) (drop l.offset-index l.offsets) ≡ l.initial.out.items ++ flat_map (line_at l.partition l.log.records) l.offsets
