use Rattle.kp_schedule.proofs.EventLemmas.{wants-saying}
use Rattle.kp_schedule.proofs.line.saying_of.Goals as goal

pub returns-in_err-event_of : goal.returns-in_err-event_of
returns-in_err-event_of c = wants-saying _ c.from_residual.result c.from_residual.ensures.0 c.in_err-event_of.ensures
