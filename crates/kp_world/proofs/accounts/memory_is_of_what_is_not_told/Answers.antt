use Rattle.kp_world.proofs.AccountLaws.{memory}
use Rattle.kp_world.proofs.accounts.memory_is_of_what_is_not_told.Goals as goal

pub returns : goal.returns
returns c = memory
