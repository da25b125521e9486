use Rattle.kp_log.proofs.RuleLemmas.{answered_with_offset}
use Rattle.kp_log.proofs.laws.a_repeat_is_answered_with_its_offset.Goals as goal

pub returns : goal.returns
returns c = answered_with_offset
