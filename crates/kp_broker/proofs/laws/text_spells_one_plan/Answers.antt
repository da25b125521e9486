use Rattle.kp_broker.proofs.ReadLemmas.{one-plan}
use Rattle.kp_broker.proofs.laws.text_spells_one_plan.Goals as goal

pub returns : goal.returns
returns c = one-plan
