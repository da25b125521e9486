use Rattle.kp_run.proofs.OptionsLemmas.{plans_of_parsed}
use Rattle.kp_run.proofs.plan.plan_of.Goals as goal

pub returns-in-Some : goal.returns-in-Some
returns-in-Some c = rw c.in-Some.is (plans_of_parsed c.in-Some.text.now c.parse.result c.parse.ensures)
