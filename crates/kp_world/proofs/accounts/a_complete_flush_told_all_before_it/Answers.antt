use Rattle.kp_world.proofs.FlushedLemmas.{told_by_flush}
use Rattle.kp_world.proofs.accounts.a_complete_flush_told_all_before_it.Goals as goal

pub returns : goal.returns
returns c = told_by_flush
