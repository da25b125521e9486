-- A batch has delivery.timeout.ms from its beginning.
use Rattle.std.proofs.Common.{◌≡◌, [], ◌∷◌, ◌++◌, refl}
use Rattle.std.specs.Prelude.{codes}
use Rattle.kp_accum.specs.Config.{default_config}
use Rattle.kp_world.specs.declared.event.Event.TheVariants.{Accept, Take, Now, Tick, Send}
use Rattle.kp_world.specs.Reaching.{feed}
use Rattle.kp_world.proofs.Evaluation.{evaluated}
use Rattle.kp_world.proofs.Schedules.{told}

-- Two partitions' batches are in one request. At their deadline both partitions are fenced.
pub what_was_sent_is_unknown :
    told default_config 2 1 (
    Accept 0 0 (97 ∷ []) ∷ Accept 0 1 (98 ∷ []) ∷ Take 0 ∷ Take 0 ∷ Send ∷ Now 119999
    ∷ Tick ∷ Now 120000 ∷ Tick ∷ Accept 0 0 (99 ∷ []) ∷ Take 0 ∷ [])
    ≡ codes "sent 0 0:0+1 1:0+1\nreconnect\nreport 0 0 0 unknown\nreport 0 1 0 unknown\n"
    ++ codes "report 0 0 1 fenced\naudit 0 0 0 1\naudit 1 0 0 1\n"
unfolding evaluated
what_was_sent_is_unknown = refl

pub what_was_queued_expires :
    told default_config 1 1 (
    feed 97 ++ Now 119999 ∷ Tick ∷ Now 120000 ∷ Tick ∷ [])
    ≡ codes "report 0 0 0 expired\n"
unfolding evaluated
what_was_queued_expires = refl
