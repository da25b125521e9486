-- What the process's broker does in place of an answer, by a text.
use Rattle.std.specs.Prelude.{◌≡◌, ℕ, List, [], Option, Some, None, Result, Ok, Err}
use Rattle.kp_broker.specs.Plan.{Plan, Spells, HasEntry}
use Rattle.kp_broker.specs.declared.plan.fault.PlanFault.{PlanFault}
use Rattle.kp_broker.specs.declared.plan.fault.PlanFault.TheVariants as fault

abbrev pub IsPlanOf : Option (List ℕ) → Plan → Type 0
IsPlanOf (Some text) plan = Spells text plan
IsPlanOf None plan = plan ≡ []

abbrev pub HasPlan : Option (List ℕ) → Type 0
HasPlan text = (plan : Plan) × IsPlanOf text plan

-- memory is taken for the entries of a plan alone
abbrev pub TakesMemory : Option (List ℕ) → Type 0
TakesMemory (Some text) = HasEntry text
TakesMemory None = ⊥

-- what reading the text answers
abbrev pub Plans : Option (List ℕ) → Result Plan PlanFault → Type 0
Plans text (Ok plan) = IsPlanOf text plan
Plans text (Err fault.BadPlan) = ¬ HasPlan text
Plans text (Err fault.OutOfMemory) = TakesMemory text
