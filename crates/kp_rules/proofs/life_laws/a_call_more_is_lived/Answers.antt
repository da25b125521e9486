use Rattle.kp_rules.proofs.LeadingOnLemmas.{lived_more}
use Rattle.kp_rules.proofs.life_laws.a_call_more_is_lived.Goals as goal

pub returns : goal.returns
returns c = lived_more
