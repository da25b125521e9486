use Rattle.std.proofs.Common.{◌≡◌, ◌++◌, ◌∷◌, [], List, Some, None, get_or, ap, sym, ◌∙◌}
use Rattle.kp_hello.specs.Chart.{node_of}
use Rattle.kp_hello.specs.declared.chart.Node.{Node}
use Rattle.kp_hello.proofs.ChartLemmas.{node_more, node_none}
use Rattle.kp_hello.proofs.charting.nodes_of.Goals.{in-Some+in_ok-push, in_default}
use Rattle.kp_hello.proofs.charting.nodes_of.Goals as goal

pub loop-broker-preserved : goal.loop-broker-preserved
loop-broker-preserved c =
    let brokers = c.args.brokers.now in
    let i = c.loop-broker.broker-index in
    let d = c.broker-item.result in
    elim c.match-branch-3.branch [
      | in-Some+in_ok-push w ↦
          let node : Some w.in-Some.node ≡ node_of (get_or brokers i d) = sym w.in-Some.is ∙ c.in_ok-node.ensures ∙ ap node_of c.broker-item.is in
          ap (λ (v : _). v.items) w.nodes-is ∙ w.in_ok-push.ensures.items ∙ ap (λ (ns : List Node). ns ++ w.in-Some.node ∷ []) c.loop-broker.invariant
          ∙ node_more brokers i d w.in-Some.node c.loop-broker-test.true node
      | in_default w ↦
          let none : None ≡ node_of (get_or brokers i d) = sym w.in_default.is ∙ c.in_ok-node.ensures ∙ ap node_of c.broker-item.is in
          ap (λ (v : _). v.items) w.nodes-is ∙ c.loop-broker.invariant ∙ node_none brokers i d c.loop-broker-test.true none
    ]
