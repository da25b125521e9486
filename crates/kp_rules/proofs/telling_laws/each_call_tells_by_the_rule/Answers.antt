use Rattle.kp_rules.proofs.CallTellingLemmas.{each_call_tells}
use Rattle.kp_rules.proofs.telling_laws.each_call_tells_by_the_rule.Goals as goal

pub returns : goal.returns
returns c = each_call_tells
