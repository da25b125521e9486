use Rattle.kp_world.proofs.AccountLaws.{placed}
use Rattle.kp_world.proofs.accounts.items_are_numbered_by_place.Goals as goal

pub returns : goal.returns
returns c = placed
