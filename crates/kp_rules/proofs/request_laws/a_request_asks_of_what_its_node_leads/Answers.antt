use Rattle.kp_rules.proofs.FittingLemmas.{request_is_led}
use Rattle.kp_rules.proofs.request_laws.a_request_asks_of_what_its_node_leads.Goals as goal

pub returns : goal.returns
returns c = request_is_led
