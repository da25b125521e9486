use Rattle.kp_cluster.proofs.ClusterLemmas.{sound_at_first}
use Rattle.kp_cluster.proofs.cluster.Cluster.new.Goals as goal

pub invariant_of-result : goal.invariant_of-result
invariant_of-result c = sound_at_first c.in_ok-slots.slots.items c.args.bootstrap.items c.in_ok-slots.ensures c.requires.limit
