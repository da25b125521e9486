use Rattle.kp_rules.proofs.LifeLemmas.{lived_in_order}
use Rattle.kp_rules.proofs.order_laws.every_core_is_in_order.Goals as goal

pub returns : goal.returns
returns c = lived_in_order
