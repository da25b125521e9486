use Rattle.std.proofs.Common.{◌≡◌, rules, arith}
use Rattle.kp_cluster.specs.Learning.{all_placed}
use Rattle.kp_cluster.proofs.LearningLemmas.{all_placed_grows}
use Rattle.kp_cluster.proofs.cluster.Cluster.chart_by_id.Goals as goal

pub invariant_of-self : goal.invariant_of-self
invariant_of-self c =
    let slots = c.self.inside.slots.items in
    let nodes = c.args.chart.now.nodes.items in
    let placed : c.in_ok-slots.slots.items ≡ all_placed nodes slots = search rules in
    record {
      limit = c.in_ok-slots.ensures.limit;
      turn = rw placed (omega (arith, c.self.invariant.turn, all_placed_grows nodes slots));
    }
