use Rattle.std.proofs.Common.{◌∙◌, sym, ap}
use Rattle.kp_rules.specs.Records.{Core}
use Rattle.kp_core.proofs.StepLemmas.{disconnects, disconnects_no_more}
use Rattle.kp_core.proofs.machine.Core.on_disconnect.Goals as goal

pub returns-then-not-self : goal.returns-then-not-self
returns-then-not-self c =
    c.drop_requests.ensures ∙ disconnects c.args.node c.args.now c.args.self.now (ap (λ (s : Core). s.ended) (sym c.self.view_is) ∙ c.if-not-self.true)

pub returns-else-not-self : goal.returns-else-not-self
returns-else-not-self c = disconnects_no_more c.args.node c.args.now c.args.self.now (ap (λ (s : Core). s.ended) (sym c.self.view_is) ∙ c.if-not-self.false)
