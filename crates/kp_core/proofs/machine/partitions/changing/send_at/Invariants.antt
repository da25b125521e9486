use Rattle.std.proofs.Common.{drop}
use Rattle.kp_core.proofs.SendEachLemmas.{IsToSend}
use Rattle.kp_core.proofs.machine.partitions.changing.send_at.Given as goal

abbrev pub invariant-loop-place : goal.invariant-loop-place
invariant-loop-place l = IsToSend l.correlation l.chosen l.fn.partitions.items (drop l.place-index l.chosen) l.partitions.items
