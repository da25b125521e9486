use Rattle.std.proofs.Common.{◌≡◌, map, take}
use Rattle.kp_cluster.specs.Learning.{led_among}
use Rattle.kp_cluster.proofs.learning.leader_slots.Given as goal

abbrev pub invariant-loop-leader : goal.invariant-loop-leader
invariant-loop-leader l = l.led.items ≡ map (led_among l.nodes l.slots) (take l.leader-index l.leaders)
