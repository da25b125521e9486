use Rattle.std.proofs.Common.{drop}
use Rattle.kp_rules.specs.Flush.{mark}
use Rattle.kp_core.proofs.ChosenLemmas.{IsToChange}
use Rattle.kp_core.proofs.machine.partitions.changing.mark_at.Given as goal

abbrev pub invariant-loop-place : goal.invariant-loop-place
invariant-loop-place l = IsToChange mark l.places l.fn.partitions.items (drop l.place-index l.places) l.partitions.items
