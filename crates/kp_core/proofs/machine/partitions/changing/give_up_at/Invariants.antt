use Rattle.std.proofs.Common.{drop}
use Rattle.kp_rules.specs.Fence.{give_up}
use Rattle.kp_core.proofs.ChosenLemmas.{IsToFollow}
use Rattle.kp_core.proofs.machine.partitions.changing.give_up_at.Given as goal

abbrev pub invariant-loop-place : goal.invariant-loop-place
invariant-loop-place l =
    IsToFollow (λ p t. give_up l.why t) l.places l.fn.partitions.items l.fn.desk (drop l.place-index l.places) l.partitions.items l.desk
