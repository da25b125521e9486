-- A batch comes twice, or its reply comes when it no longer counts.
use Rattle.std.proofs.Common.{◌≡◌, pos, [], ◌∷◌, ◌++◌, refl}
use Rattle.std.specs.Prelude.{codes}
use Rattle.kp_accum.specs.Config.{default_config}
use Rattle.kp_world.specs.declared.event.Event.TheVariants.{Now, Send, Deliver, Reply, Drop}
use Rattle.kp_world.specs.declared.event.Treatment.TheVariants.{Judged, Late}
use Rattle.kp_world.specs.Reaching.{feed}
use Rattle.kp_world.proofs.Evaluation.{evaluated}
use Rattle.kp_world.proofs.Schedules.{told}

-- The batch is stored, and its answer says that the time ran out. It goes out again, and is
-- answered with its offset.
pub a_repeat_is_stored_once :
    told default_config 1 1 (
    feed 97 ++ Send ∷ Deliver 0 (Late (pos 7)) ∷ Reply 0 ∷ Now 100 ∷ Send
    ∷ Deliver 1 Judged ∷ Reply 1 ∷ [])
    ≡ codes "sent 0 0:0+1\nanswer 0 0:7@-1\nsent 1 0:0+1\nanswer 1 0:0@0\n"
    ++ codes "report 0 0 0 delivered 0\nlog 0 0 a\naudit 0 0 0 1\n"
unfolding evaluated
a_repeat_is_stored_once = refl

-- The connection is lost before the reply comes.
pub a_stale_reply_settles_nothing :
    told default_config 1 1 (
    feed 97 ++ Send ∷ Deliver 0 Judged ∷ Drop ∷ Reply 0 ∷ [])
    ≡ codes "sent 0 0:0+1\nanswer 0 0:0@0\nstale 0\nlog 0 0 a\naudit 0 0 0 1\n"
unfolding evaluated
a_stale_reply_settles_nothing = refl
