use Rattle.std.proofs.Common.{◌∙◌, sym, ap}
use Rattle.kp_rules.specs.Records.{Core}
use Rattle.kp_core.proofs.RequestStepLemmas.{answers_ended}
use Rattle.kp_core.proofs.machine.Core.next_request.Goals as goal

pub returns-then-self : goal.returns-then-self
returns-then-self c = answers_ended c.args.node c.args.now c.args.self.now (ap (λ (s : Core). s.ended) (sym c.self.view_is) ∙ c.if-self.true)
