-- A batch that is not full waits for linger.ms.
use Rattle.std.proofs.Common.{◌≡◌, [], ◌∷◌, ◌++◌, refl}
use Rattle.std.specs.Prelude.{codes}
use Rattle.kp_accum.specs.Config.{default_config}
use Rattle.kp_world.specs.declared.event.Event.TheVariants.{Now, Send}
use Rattle.kp_world.specs.Reaching.{feed}
use Rattle.kp_world.proofs.Evaluation.{evaluated}
use Rattle.kp_world.proofs.Schedules.{told}

-- It is not ready a millisecond before, and ready then.
pub a_batch_lingers :
    told (record default_config { linger_ms = 5 }) 1 1 (
    feed 97 ++ Now 4 ∷ Send ∷ Now 5 ∷ Send ∷ [])
    ≡ codes "idle\nsent 0 0:0+1\naudit 0 0 0 1\n"
unfolding evaluated
a_batch_lingers = refl

-- A batch of batch.size bytes is full.
pub a_full_batch_goes_at_once :
    told (record default_config { linger_ms = 5; batch_size = 69 }) 1 1 (
    feed 97 ++ Send ∷ [])
    ≡ codes "sent 0 0:0+1\naudit 0 0 0 1\n"
unfolding evaluated
a_full_batch_goes_at_once = refl
