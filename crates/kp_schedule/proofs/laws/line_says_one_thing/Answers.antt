use Rattle.kp_schedule.proofs.OneLemmas.{says-one}
use Rattle.kp_schedule.proofs.laws.line_says_one_thing.Goals as goal

pub returns : goal.returns
returns c = says-one
