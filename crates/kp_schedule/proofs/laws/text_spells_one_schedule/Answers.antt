use Rattle.kp_schedule.proofs.ScheduleLemmas.{one-schedule}
use Rattle.kp_schedule.proofs.laws.text_spells_one_schedule.Goals as goal

pub returns : goal.returns
returns c = one-schedule
