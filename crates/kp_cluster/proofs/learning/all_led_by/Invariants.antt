use Rattle.std.proofs.Common.{◌≡◌, map, take}
use Rattle.kp_cluster.specs.Learning.{led_by_one}
use Rattle.kp_cluster.proofs.learning.all_led_by.Given as goal

abbrev pub invariant-loop-leader : goal.invariant-loop-leader
invariant-loop-leader l = l.led.items ≡ map (led_by_one l.node) (take l.leader-index l.leaders)
