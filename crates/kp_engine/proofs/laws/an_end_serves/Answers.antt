use Rattle.kp_engine.proofs.ServedLemmas.{end_serves}
use Rattle.kp_engine.proofs.laws.an_end_serves.Goals as goal

pub returns : goal.returns
returns c = end_serves
