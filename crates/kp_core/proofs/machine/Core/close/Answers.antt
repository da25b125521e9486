use Rattle.kp_core.specs.Keeping.{seen_of}
use Rattle.kp_core.proofs.KeepingLemmas.{quiet_kept}
use Rattle.kp_core.proofs.LeavingLemmas.{closed_left}
use Rattle.kp_core.proofs.StepLemmas.{closes, closes_no_more}
use Rattle.kp_core.proofs.machine.Core.close.Goals as goal
use Rattle.std.proofs.Common.{sym, ap, ◌∙◌}
use Rattle.kp_rules.specs.Records.{Core}

pub invariant_of-self : goal.invariant_of-self
invariant_of-self c = quiet_kept c.self.invariant (closed_left (seen_of c.self.inside) c.self.invariant.order)

pub returns-then-not-self : goal.returns-then-not-self
returns-then-not-self c = rw (← c.self.view_is) (closes (seen_of c.self.inside) c.if-not-self.true)

pub returns-else-not-self : goal.returns-else-not-self
returns-else-not-self c = closes_no_more c.args.self.now (ap (λ (s : Core). s.ended) (sym c.self.view_is) ∙ c.if-not-self.false)
