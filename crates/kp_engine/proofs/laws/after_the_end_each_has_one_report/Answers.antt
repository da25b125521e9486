use Rattle.kp_engine.proofs.BegunLemmas.{taken_reported_at_the_end}
use Rattle.kp_engine.proofs.laws.after_the_end_each_has_one_report.Goals as goal

pub returns : goal.returns
returns c = taken_reported_at_the_end
