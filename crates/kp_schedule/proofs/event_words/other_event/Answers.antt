use Rattle.kp_schedule.proofs.EventLemmas.{too_many_others}
use Rattle.kp_schedule.proofs.event_words.other_event.Goals as goal

pub returns-then-count-gt-OTHERS_LIMIT : goal.returns-then-count-gt-OTHERS_LIMIT
returns-then-count-gt-OTHERS_LIMIT c =
    too_many_others c.args.partition.now c.args.count.now c.in_ok-count.count c.if-count-gt-OTHERS_LIMIT.true c.in_ok-count.ensures.0 c.in_ok-count.ensures.1
