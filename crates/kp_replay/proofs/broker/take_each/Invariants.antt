use Rattle.std.proofs.Common.{◌≡◌, ◌++◌, drop}
use Rattle.kp_replay.specs.Serving.{entries_after, logs_after}
use Rattle.kp_replay.proofs.broker.take_each.Given as goal

abbrev pub invariant-loop-part : goal.invariant-loop-part
invariant-loop-part l = record {
  entries : l.entries.items ++ entries_after l.treatment l.logs (drop l.part-index l.parts) ≡ entries_after l.treatment l.initial.logs l.parts;
  logs : logs_after l.treatment l.logs (drop l.part-index l.parts) ≡ logs_after l.treatment l.initial.logs l.parts;
}
