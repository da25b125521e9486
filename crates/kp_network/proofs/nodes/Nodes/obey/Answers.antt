use Rattle.std.proofs.Common.{None, sym, subst}
use Rattle.kp_cluster.specs.declared.action.Action.{Action}
use Rattle.kp_cluster.specs.declared.action.Action.TheVariants.{Close, Connect}
use Rattle.kp_network.specs.News.{Obeys}
use Rattle.kp_network.proofs.NewsLemmas.{closes_from}
use Rattle.kp_network.proofs.nodes.Nodes.obey.Goals as goal

pub returns-then-connect : goal.returns-then-connect
returns-then-connect g c =
    subst (λ (action : Action). Obeys c.args.now c.args.self.now c.connect.new.self action None) (sym c.in-Connect.is)
    (Obeys.begins c.in-Connect.node (c.connect.ensures.begins c.if-connect.true))

pub returns-in-Close : goal.returns-in-Close
returns-in-Close g c =
    subst (λ (action : Action). Obeys c.args.now c.args.self.now c.close.new.self action c.close.result) (sym c.in-Close.is)
    (Obeys.closes (Close c.in-Close.node) c.close.result c.close.ensures)

pub returns-else-connect : goal.returns-else-connect
returns-else-connect g c =
    let a = c.args.self.now in
    let mid = c.connect.new.self in
    let b = c.close-in-Connect.new.self in
    subst (λ (action : Action). Obeys c.args.now a b action c.close-in-Connect.result) (sym c.in-Connect.is)
    (Obeys.closes (Connect c.in-Connect.node) c.close-in-Connect.result
    (closes_from c.args.now c.in-Connect.node a mid b c.close-in-Connect.result c.connect.ensures.cluster (c.connect.ensures.same c.if-connect.false) c.close-in-Connect.ensures))
