use Rattle.kp_hello.proofs.ChartLemmas.{Led}
use Rattle.kp_hello.proofs.charting.leaders_of.Given as goal

abbrev pub invariant-loop-partition : goal.invariant-loop-partition
invariant-loop-partition l = Led l.nodes l.partitions l.partition-index l.leaders.items
