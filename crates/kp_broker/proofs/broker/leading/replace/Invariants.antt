use Rattle.std.proofs.Common.{◌≡◌, ◌++◌, drop, map, take}
use Rattle.kp_broker.specs.Broker.{leader_after}
use Rattle.kp_broker.proofs.broker.leading.replace.Given as goal

abbrev pub invariant-loop-leader : goal.invariant-loop-leader
invariant-loop-leader l =
    l.leaders ≡ map (leader_after l.node l.to) (take l.leader-index l.initial.leaders) ++ drop l.leader-index l.initial.leaders
