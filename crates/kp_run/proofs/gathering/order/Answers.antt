use Rattle.std.proofs.Common.{rules}
use Rattle.std.proofs.lemmas.Fn.{always_returns_same}
use Rattle.kp_rules.specs.declared.outcome.Report.{Report}
use Rattle.kp_run.proofs.gathering.order.Goals as goal

pub returns-clause-in_order : goal.returns-clause-in_order
returns-clause-in_order c =
    c.sort_unstable_by_key.ensures.sorted (λ (r : Report). (r.sender, r.partition, r.number))
    (always_returns_same _ _ _ (λ a r f called. search rules))
