use Rattle.std.proofs.Common.{◌∙◌, None, Some, ap}
use Rattle.std.specs.Prelude.{find}
use Rattle.kp_engine.specs.Lines.{is_lost}
use Rattle.kp_engine.proofs.LineLemmas.{node_found}
use Rattle.kp_engine.proofs.cluster.ClusterEngine.lost.Goals as goal

pub returns-in-Some : goal.returns-in-Some
returns-in-Some g c =
    ap (λ n. Some n) c.node.ensures ∙ node_found c.args.self.now.lines.items (Some c.in-Some.line.now) (c.in-Some.ensures ∙ ap (find is_lost) c.deref.ensures.value)

pub returns-in-None : goal.returns-in-None
returns-in-None g c =
    node_found c.args.self.now.lines.items None (c.in-None.ensures ∙ ap (find is_lost) c.deref.ensures.value)
