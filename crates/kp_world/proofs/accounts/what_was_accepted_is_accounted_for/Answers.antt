use Rattle.kp_world.proofs.AccountLaws.{accounted}
use Rattle.kp_world.proofs.accounts.what_was_accepted_is_accounted_for.Goals as goal

pub returns : goal.returns
returns c = accounted
