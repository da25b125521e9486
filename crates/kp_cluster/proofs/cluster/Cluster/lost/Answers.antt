use Rattle.std.proofs.Common.{◌≡◌, ◌∙◌, sym, ap, true}
use Rattle.kp_cluster.specs.Cluster.{Cluster}
use Rattle.kp_cluster.specs.Backoff.{has_none}
use Rattle.kp_cluster.proofs.ClusterLemmas.{loses_nothing}
use Rattle.kp_cluster.proofs.cluster.Cluster.lost.Goals as goal

pub returns-in_default : goal.returns-in_default
returns-in_default c =
    let old = c.args.self.now in
    let none : has_none c.args.node old.slots ≡ true =
    sym (ap (has_none c.args.node) (c.deref.ensures.value ∙ ap (λ (v : Cluster). v.slots) c.self.view_is)) ∙ c.in_default.ensures in
    loses_nothing c.args.node c.args.now old none
