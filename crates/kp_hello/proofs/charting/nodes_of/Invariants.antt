use Rattle.std.proofs.Common.{◌≡◌, take}
use Rattle.kp_hello.specs.Chart.{nodes_of}
use Rattle.kp_hello.proofs.charting.nodes_of.Given as goal

abbrev pub invariant-loop-broker : goal.invariant-loop-broker
invariant-loop-broker l = l.nodes.items ≡ nodes_of (take l.broker-index l.brokers)
