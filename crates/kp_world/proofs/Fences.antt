-- A batch is refused for good.
use Rattle.std.proofs.Common.{◌≡◌, pos, [], ◌∷◌, ◌++◌, refl}
use Rattle.std.specs.Prelude.{codes}
use Rattle.kp_accum.specs.Config.{default_config}
use Rattle.kp_world.specs.declared.event.Event.TheVariants.{Accept, Send, Deliver, Reply, Close, End}
use Rattle.kp_world.specs.declared.event.Treatment.TheVariants.{Judged, Refused}
use Rattle.kp_world.specs.Reaching.{feed}
use Rattle.kp_world.proofs.Evaluation.{evaluated}
use Rattle.kp_world.proofs.Schedules.{told}

-- What was in flight behind it is unknown, and its reply settles nothing.
pub a_fence_ends_attempts :
    told (record default_config { batch_size = 0 }) 1 1 (
    feed 97 ++ feed 98 ++ feed 99 ++ Send ∷ Deliver 0 Judged ∷ Reply 0 ∷ Send ∷ Send
    ∷ Deliver 1 (Refused (pos 10)) ∷ Reply 1 ∷ Deliver 2 Judged ∷ Reply 2 ∷ [])
    ≡ codes "sent 0 0:0+1\nanswer 0 0:0@0\nreport 0 0 0 delivered 0\nsent 1 0:1+1\n"
    ++ codes "sent 2 0:2+1\nanswer 1 0:10@-1\nreport 0 0 1 rejected 10\n"
    ++ codes "report 0 0 2 unknown\nanswer 2 0:45@-1\nstale 2\nlog 0 0 a\naudit 0 0 0 3\n"
unfolding evaluated
a_fence_ends_attempts = refl

-- What stood behind it in the queue is not sent; and nothing is accepted once the gate is shut, or
-- sent after the end.
pub what_was_queued_is_fenced :
    told (record default_config { batch_size = 0 }) 1 1 (
    feed 97 ++ feed 98 ++ Send ∷ Deliver 0 (Refused (pos 10)) ∷ Reply 0 ∷ Close
    ∷ Accept 0 0 (99 ∷ []) ∷ End ∷ Send ∷ [])
    ≡ codes "sent 0 0:0+1\nanswer 0 0:10@-1\nreport 0 0 0 rejected 10\n"
    ++ codes "report 0 0 1 fenced\nclosed 0 0\nended\naudit 0 0 0 1\n"
unfolding evaluated
what_was_queued_is_fenced = refl

pub what_is_queued_at_the_end_is_not_sent :
    told default_config 1 1 (
    feed 97 ++ End ∷ [])
    ≡ codes "report 0 0 0 ended\n"
unfolding evaluated
what_is_queued_at_the_end_is_not_sent = refl

pub after_the_end_no_reply_counts :
    told default_config 1 1 (
    feed 97 ++ Send ∷ Deliver 0 Judged ∷ End ∷ Reply 0 ∷ Send ∷ [])
    ≡ codes "sent 0 0:0+1\nanswer 0 0:0@0\nreport 0 0 0 unknown\nended\nended\nlog 0 0 a\n"
    ++ codes "audit 0 0 0 1\n"
unfolding evaluated
after_the_end_no_reply_counts = refl
