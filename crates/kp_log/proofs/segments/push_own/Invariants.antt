use Rattle.std.proofs.Common.{◌≡◌, ◌+◌, ◌++◌, drop}
use Rattle.kp_log.specs.Segments.{own_from}
use Rattle.kp_log.proofs.segments.push_own.Given as goal

abbrev pub invariant-loop-i : goal.invariant-loop-i
invariant-loop-i l =
    l.offsets.items ++ own_from (l.first + l.i) l.ids (drop l.i l.records) ≡ l.initial.offsets.items ++ own_from l.first l.ids l.records
