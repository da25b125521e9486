use Rattle.std.proofs.Common.{arith}
use Rattle.kp_schedule.proofs.EventLemmas.{too_late}
use Rattle.kp_schedule.proofs.event_words.now_event.Goals as goal

pub returns-then-moment-gt-MOMENT_LIMIT : goal.returns-then-moment-gt-MOMENT_LIMIT
returns-then-moment-gt-MOMENT_LIMIT c = too_late c.args.moment (omega arith) (omega arith)
