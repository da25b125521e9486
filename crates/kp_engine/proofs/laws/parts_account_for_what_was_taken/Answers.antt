use Rattle.kp_engine.proofs.PartsLemmas.{accounted}
use Rattle.kp_engine.proofs.laws.parts_account_for_what_was_taken.Goals as goal

pub returns : goal.returns
returns c = accounted
