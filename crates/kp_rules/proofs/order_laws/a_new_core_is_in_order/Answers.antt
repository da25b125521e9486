use Rattle.kp_rules.proofs.OrderedCallLemmas.{new_in_order}
use Rattle.kp_rules.proofs.order_laws.a_new_core_is_in_order.Goals as goal

pub returns : goal.returns
returns c = new_in_order
