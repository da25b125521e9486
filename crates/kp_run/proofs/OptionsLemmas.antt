-- The first fault of options.
use Rattle.std.proofs.Common.{◌≡◌, ◌∙◌, ℕ, List, ap, sym, subst}
use Rattle.std.specs.Prelude.{Some, Result, Ok, Err, IsErrAnd, IfErr}
use Rattle.std.proofs.lemmas.Result.{err_from_is_err_and}
use Rattle.kp_broker.specs.Plan.{ParsesPlan, Plan}
use Rattle.kp_broker.specs.declared.plan.fault.PlanFault.{PlanFault}
use Rattle.kp_broker.specs.declared.plan.fault.PlanFault.TheVariants.{BadPlan, OutOfMemory}
use Rattle.kp_run.specs.Faults.{of_plan}
use Rattle.kp_run.specs.Options.{Checks, RefusedFor}
use Rattle.kp_options.specs.Places.{plan_text}
use Rattle.kp_run.specs.Plans.{Plans}
use Rattle.kp_options.specs.Topics.{IsTopic}
use Rattle.kp_run.specs.declared.fault.RunFault.{RunFault}
use Rattle.kp_run.specs.declared.checked.Checked.{Checked}
use Rattle.kp_options.specs.declared.options.Options.{Options}

pub plans_of_parsed : (text : List ℕ) (r : Result Plan PlanFault) → ParsesPlan text r → Plans (Some text) r
plans_of_parsed text (Ok plan) parses = parses
plans_of_parsed text (Err BadPlan) parses = λ some. parses some.0 some.1
plans_of_parsed text (Err OutOfMemory) parses = parses

pub refused_plan : (o : Options) (why : PlanFault) → IsTopic o.topic.now → Plans (plan_text o.place) (Err why) → RefusedFor o (of_plan why)
refused_plan o BadPlan topic none = (topic, none)
refused_plan o OutOfMemory topic takes = (topic, takes)

-- what the exit of a `?` returns
err_is : {A : Type 0} (r : Result A RunFault) (why : RunFault) → IsErrAnd r (λ y. y ≡ why) → r ≡ Err why
err_is r why is = let left = err_from_is_err_and r is in left.1 ∙ ap Err left.2

pub checks_by : (o : Options) (r : Result Checked RunFault) (why : RunFault) → IsErrAnd r (λ y. y ≡ why) → RefusedFor o why → Checks o r
checks_by o r why is refused = subst (λ (x : Result Checked RunFault). Checks o x) (sym (err_is r why is)) refused

pub refused_by : {A : Type 0} (o : Options) (r : Result A RunFault) (why : RunFault) → IsErrAnd r (λ y. y ≡ why) → RefusedFor o why → IfErr r (RefusedFor o)
refused_by {A} o r why is refused = subst (λ (x : Result A RunFault). IfErr x (RefusedFor o)) (sym (err_is r why is)) refused
