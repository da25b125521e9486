use Rattle.std.proofs.Common.{◌≡◌, map, take}
use Rattle.kp_replay.specs.Line.{answer_part}
use Rattle.kp_replay.specs.Serving.{entry_line}
use Rattle.kp_replay.proofs.broker.answer_parts.Given as goal

abbrev pub invariant-loop-entry : goal.invariant-loop-entry
invariant-loop-entry l = map answer_part l.parts.items ≡ map entry_line (take l.entry-index l.entries)
