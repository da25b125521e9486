use Rattle.kp_engine.proofs.BegunLemmas.{taken_reported}
use Rattle.kp_engine.proofs.laws.each_item_taken_has_one_report.Goals as goal

pub returns : goal.returns
returns c = taken_reported
