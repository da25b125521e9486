use Rattle.kp_rules.proofs.OrderedCallLemmas.{kept}
use Rattle.kp_rules.proofs.order_laws.each_call_keeps_the_order.Goals as goal

pub returns : goal.returns
returns c = kept
