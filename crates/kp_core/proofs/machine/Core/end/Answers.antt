use Rattle.std.proofs.Common.{◌∙◌, sym, ap}
use Rattle.kp_rules.specs.Records.{Core}
use Rattle.kp_core.proofs.StepLemmas.{ends, ends_no_more}
use Rattle.kp_core.proofs.machine.Core.end.Goals as goal

pub returns-then-self : goal.returns-then-self
returns-then-self c = ends_no_more c.args.self.now (ap (λ (s : Core). s.ended) (sym c.self.view_is) ∙ c.if-self.true)

pub returns : goal.returns
returns c =
    ends c.args.self.now c.end_all.new.self c.end_all.result (ap (λ (s : Core). s.ended) (sym c.self.view_is) ∙ c.if-self.false)
    c.end_all.ensures.told c.end_all.ensures.after
