-- A batch that waits for a retry.
use Rattle.std.proofs.Common.{◌≡◌, pos, [], ◌∷◌, ◌++◌, refl}
use Rattle.std.specs.Prelude.{codes}
use Rattle.kp_accum.specs.Config.{default_config}
use Rattle.kp_world.specs.declared.event.Event.TheVariants.{Now, Send, Deliver, Reply}
use Rattle.kp_world.specs.declared.event.Treatment.TheVariants.{Judged, Refused}
use Rattle.kp_world.specs.Reaching.{feed}
use Rattle.kp_world.proofs.Evaluation.{evaluated}
use Rattle.kp_world.proofs.Schedules.{told}

-- Until its backoff is over nothing new of its partition goes out, ready or not.
pub a_batch_that_waits_goes_first :
    told (record default_config { batch_size = 0 }) 1 1 (
    feed 97 ++ feed 98 ++ feed 99 ++ Send ∷ Deliver 0 Judged ∷ Reply 0 ∷ Send
    ∷ Deliver 1 (Refused (pos 7)) ∷ Reply 1 ∷ Send ∷ Now 100 ∷ Send ∷ Send ∷ [])
    ≡ codes "sent 0 0:0+1\nanswer 0 0:0@0\nreport 0 0 0 delivered 0\nsent 1 0:1+1\n"
    ++ codes "answer 1 0:7@-1\nidle\nsent 2 0:1+1\nsent 3 0:2+1\nlog 0 0 a\naudit 0 0 0 3\n"
unfolding evaluated
a_batch_that_waits_goes_first = refl
