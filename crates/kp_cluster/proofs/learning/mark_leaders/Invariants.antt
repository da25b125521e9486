use Rattle.std.proofs.Common.{◌≡◌, ◌++◌, take, drop}
use Rattle.kp_cluster.specs.Learning.{marked_from}
use Rattle.kp_cluster.proofs.learning.mark_leaders.Given as goal

abbrev pub invariant-loop-place : goal.invariant-loop-place
invariant-loop-place l = l.slots ≡ marked_from 0 l.leaders (take l.place l.initial.slots) ++ drop l.place l.initial.slots
