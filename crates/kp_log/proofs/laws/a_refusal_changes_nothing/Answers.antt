use Rattle.kp_log.proofs.RuleLemmas.{refusal_keeps}
use Rattle.kp_log.proofs.laws.a_refusal_changes_nothing.Goals as goal

pub returns : goal.returns
returns c = refusal_keeps
