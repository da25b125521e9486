use Rattle.std.proofs.Common.{drop}
use Rattle.kp_rules.specs.Tick.{heed_deadlines}
use Rattle.kp_core.proofs.ChosenLemmas.{IsToFollow}
use Rattle.kp_core.proofs.machine.partitions.changing.heed_at.Given as goal

abbrev pub invariant-loop-place : goal.invariant-loop-place
invariant-loop-place l =
    IsToFollow (λ p t. heed_deadlines l.config l.now t) l.places l.fn.partitions.items l.fn.desk (drop l.place-index l.places) l.partitions.items l.desk
