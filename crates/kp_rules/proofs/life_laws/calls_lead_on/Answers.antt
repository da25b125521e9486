use Rattle.kp_rules.proofs.LeadingOnLemmas.{led_on}
use Rattle.kp_rules.proofs.life_laws.calls_lead_on.Goals as goal

pub returns : goal.returns
returns c = led_on
