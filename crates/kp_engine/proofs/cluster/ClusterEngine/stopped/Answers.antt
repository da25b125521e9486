use Rattle.std.proofs.Common.{◌∙◌, None, Some, ap}
use Rattle.std.specs.Prelude.{find}
use Rattle.kp_engine.specs.Lines.{is_given_up}
use Rattle.kp_engine.proofs.LineLemmas.{stop_found}
use Rattle.kp_engine.proofs.cluster.ClusterEngine.stopped.Goals as goal

pub returns-in_err-given_up : goal.returns-in_err-given_up
returns-in_err-given_up g c =
    c.from_residual.ensures ∙ stop_found c.args.node c.args.self.now.lines.items None (c.in_err-given_up.ensures ∙ ap (find (is_given_up c.args.node)) c.deref.ensures.value)

pub returns : goal.returns
returns g c =
    c.stopped.ensures ∙ stop_found c.args.node c.args.self.now.lines.items (Some c.in_ok-given_up.field-0.now) (c.in_ok-given_up.ensures ∙ ap (find (is_given_up c.args.node)) c.deref.ensures.value)
