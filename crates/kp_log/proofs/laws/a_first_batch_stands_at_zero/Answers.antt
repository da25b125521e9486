use Rattle.kp_log.proofs.RuleLemmas.{first_is_stored, first_is_answered_alike}
use Rattle.kp_log.proofs.laws.a_first_batch_stands_at_zero.Goals as goal

pub returns-clause-stored : goal.returns-clause-stored
returns-clause-stored c = first_is_stored

pub returns-clause-again : goal.returns-clause-again
returns-clause-again c = first_is_answered_alike
