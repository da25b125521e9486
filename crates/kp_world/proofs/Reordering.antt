-- Packets come in another order than they went out.
use Rattle.std.proofs.Common.{◌≡◌, [], ◌∷◌, ◌++◌, refl}
use Rattle.std.specs.Prelude.{codes}
use Rattle.kp_accum.specs.Config.{default_config}
use Rattle.kp_world.specs.declared.event.Event.TheVariants.{Now, Send, Deliver, Reply}
use Rattle.kp_world.specs.declared.event.Treatment.TheVariants.{Judged}
use Rattle.kp_world.specs.Reaching.{feed}
use Rattle.kp_world.proofs.Evaluation.{evaluated}
use Rattle.kp_world.proofs.Schedules.{told}

-- The one that overtakes is out of order, and goes out again once its backoff is over.
pub a_batch_that_overtakes_is_sent_again :
    told (record default_config { batch_size = 0 }) 1 1 (
    feed 97 ++ feed 98 ++ feed 99 ++ Send ∷ Deliver 0 Judged ∷ Reply 0 ∷ Send ∷ Send
    ∷ Deliver 2 Judged ∷ Deliver 1 Judged ∷ Reply 1 ∷ Reply 2 ∷ Now 99 ∷ Send ∷ Now 100
    ∷ Send ∷ Deliver 3 Judged ∷ Reply 3 ∷ [])
    ≡ codes "sent 0 0:0+1\nanswer 0 0:0@0\nreport 0 0 0 delivered 0\nsent 1 0:1+1\n"
    ++ codes "sent 2 0:2+1\nanswer 1 0:45@-1\nanswer 2 0:0@1\nreport 0 0 1 delivered 1\n"
    ++ codes "idle\nsent 3 0:2+1\nanswer 3 0:0@2\nreport 0 0 2 delivered 2\nlog 0 0 a\n"
    ++ codes "log 0 1 b\nlog 0 2 c\naudit 0 0 0 3\n"
unfolding evaluated
a_batch_that_overtakes_is_sent_again = refl
