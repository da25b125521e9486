use Rattle.kp_world.proofs.AccountLaws.{once}
use Rattle.kp_world.proofs.accounts.each_item_is_told_once.Goals as goal

pub returns : goal.returns
returns c = once
