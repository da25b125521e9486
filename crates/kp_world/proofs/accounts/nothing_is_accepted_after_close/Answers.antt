use Rattle.kp_world.proofs.GateLemmas.{nothing_after_close}
use Rattle.kp_world.proofs.accounts.nothing_is_accepted_after_close.Goals as goal

pub returns : goal.returns
returns c = λ w es v run. nothing_after_close es w v run
