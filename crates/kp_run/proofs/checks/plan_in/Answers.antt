use Rattle.std.proofs.Common.{ℕ, List, Option, Err, subst}
use Rattle.kp_run.specs.Plans.{Plans}
use Rattle.kp_run.specs.Faults.{of_plan}
use Rattle.kp_run.proofs.OptionsLemmas.{refused_by, refused_plan}
use Rattle.kp_run.proofs.checks.plan_in.Goals as goal

pub returns-in_err-plan_of-clause-refused : goal.returns-in_err-plan_of-clause-refused
returns-in_err-plan_of-clause-refused c =
    let none = subst (λ (t : Option (List ℕ)). Plans t (Err c.in_err-plan_of.field-0.0)) c.plan_text-text.ensures c.in_err-plan_of.ensures in
    refused_by c.args.options.now c.from_residual.result (of_plan c.in_err-plan_of.field-0.0) c.from_residual.ensures.1
    (refused_plan c.args.options.now c.in_err-plan_of.field-0.0 c.requires none)

pub returns-clause-fine : goal.returns-clause-fine
returns-clause-fine c = rw c.plan_text-text.ensures at c.in_ok-plan_of.ensures
