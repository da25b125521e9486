-- How far new batches may be ahead of one that waits.
use Rattle.std.proofs.Common.{◌≡◌, [], ◌∷◌, ◌++◌, refl}
use Rattle.std.specs.Prelude.{codes}
use Rattle.kp_accum.specs.Config.{default_config}
use Rattle.kp_world.specs.declared.event.Event.TheVariants.{Now, Tick, Send, Deliver, Reply}
use Rattle.kp_world.specs.declared.event.Treatment.TheVariants.{Judged}
use Rattle.kp_world.specs.Reaching.{feed}
use Rattle.kp_world.proofs.Evaluation.{evaluated}
use Rattle.kp_world.proofs.Schedules.{told}

-- The second batch waits for the first to be acknowledged; then five are in flight. The lowest of
-- these is lost, and holds back the one that would be the fifth behind it, until it was sent again
-- and acknowledged.
pub a_lost_batch_holds_the_window :
    told (record default_config { batch_size = 0 }) 1 1 (
    feed 97 ++ feed 98 ++ feed 99 ++ feed 100 ++ feed 101 ++ feed 102 ++ feed 103 ++ Send
    ∷ Send ∷ Deliver 0 Judged ∷ Reply 0 ∷ Send ∷ Send ∷ Send ∷ Send ∷ Send ∷ Send
    ∷ Deliver 1 Judged ∷ Deliver 2 Judged ∷ Deliver 3 Judged ∷ Deliver 4 Judged
    ∷ Deliver 5 Judged ∷ Reply 2 ∷ Reply 3 ∷ Reply 4 ∷ Reply 5 ∷ Send ∷ Now 30000 ∷ Tick
    ∷ Now 30100 ∷ Send ∷ Deliver 6 Judged ∷ Reply 6 ∷ Send ∷ [])
    ≡ codes "sent 0 0:0+1\nidle\nanswer 0 0:0@0\nreport 0 0 0 delivered 0\nsent 1 0:1+1\n"
    ++ codes "sent 2 0:2+1\nsent 3 0:3+1\nsent 4 0:4+1\nsent 5 0:5+1\nidle\nanswer 1 0:0@1\n"
    ++ codes "answer 2 0:0@2\nanswer 3 0:0@3\nanswer 4 0:0@4\nanswer 5 0:0@5\n"
    ++ codes "report 0 0 2 delivered 2\nreport 0 0 3 delivered 3\nreport 0 0 4 delivered 4\n"
    ++ codes "report 0 0 5 delivered 5\nidle\nreconnect\nsent 6 0:1+1\nanswer 6 0:0@1\n"
    ++ codes "report 0 0 1 delivered 1\nsent 7 0:6+1\nlog 0 0 a\nlog 0 1 b\nlog 0 2 c\n"
    ++ codes "log 0 3 d\nlog 0 4 e\nlog 0 5 f\naudit 0 0 0 7\n"
unfolding evaluated
a_lost_batch_holds_the_window = refl
