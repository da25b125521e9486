use Rattle.std.proofs.Common.{drop}
use Rattle.kp_rules.specs.Dropping.{drop_led}
use Rattle.kp_core.proofs.ChosenLemmas.{IsToChange}
use Rattle.kp_core.proofs.machine.partitions.changing.drop_at.Given as goal

abbrev pub invariant-loop-place : goal.invariant-loop-place
invariant-loop-place l = IsToChange (drop_led l.node l.now) l.places l.fn.partitions.items (drop l.place-index l.places) l.partitions.items
