use Rattle.kp_world.proofs.AccountLaws.{never_sent}
use Rattle.kp_world.proofs.accounts.unsent_is_never_sent.Goals as goal

pub returns : goal.returns
returns c = never_sent
