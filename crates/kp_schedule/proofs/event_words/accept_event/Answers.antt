use Rattle.kp_schedule.proofs.EventLemmas.{accept-words, wants}
use Rattle.kp_schedule.proofs.event_words.accept_event.Goals as goal

pub returns-in_err-from_slice : goal.returns-in_err-from_slice
returns-in_err-from_slice c =
    wants _ c.from_residual.result c.from_residual.ensures.0
    (accept-words c.in-Some.sender c.in-Some-number_of.partition c.args.sender.now c.args.partition.now c.args.value.now
    c.in-Some.ensures c.in-Some-number_of.ensures (c.is_value.ensures.0 c.if-not-is_value.false))
