use Rattle.kp_rules.proofs.OutcomeLemmas.{each_outcome}
use Rattle.kp_rules.proofs.laws.each_outcome_has_its_cause.Goals as goal

pub returns : goal.returns
returns c = each_outcome
