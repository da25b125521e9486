use Rattle.kp_schedule.proofs.ScheduleLemmas.{no-schedule, one-fault}
use Rattle.kp_schedule.proofs.laws.text_has_one_fault.Goals as goal

pub returns : goal.returns
returns c = record { none = no-schedule; first = one-fault }
