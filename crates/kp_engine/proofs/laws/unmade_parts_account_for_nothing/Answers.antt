use Rattle.kp_engine.proofs.PartsLemmas.{fresh_accounted}
use Rattle.kp_engine.proofs.laws.unmade_parts_account_for_nothing.Goals as goal

pub returns : goal.returns
returns c = fresh_accounted
