use Rattle.std.proofs.Common.{◌≡◌}
use Rattle.kp_network.specs.News.{all_wanted, has_work_in}
use Rattle.kp_network.proofs.nodes.asking.want_all.Given as goal

abbrev pub invariant-loop-node : goal.invariant-loop-node
invariant-loop-node l = l.cluster ≡ all_wanted (has_work_in l.core) l.node l.initial.cluster
