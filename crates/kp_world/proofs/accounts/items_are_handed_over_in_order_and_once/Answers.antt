use Rattle.kp_world.proofs.AccountLaws.{ordered}
use Rattle.kp_world.proofs.accounts.items_are_handed_over_in_order_and_once.Goals as goal

pub returns : goal.returns
returns c = ordered
