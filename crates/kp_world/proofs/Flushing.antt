-- A flush sends what lingers, and tells when all of it was told.
use Rattle.std.proofs.Common.{◌≡◌, [], ◌∷◌, ◌++◌, refl}
use Rattle.std.specs.Prelude.{codes}
use Rattle.kp_accum.specs.Config.{default_config}
use Rattle.kp_world.specs.declared.event.Event.TheVariants.{Send, Deliver, Reply, End, Flush}
use Rattle.kp_world.specs.declared.event.Treatment.TheVariants.{Judged}
use Rattle.kp_world.specs.Reaching.{feed}
use Rattle.kp_world.proofs.Evaluation.{evaluated}
use Rattle.kp_world.proofs.Schedules.{told}

pub a_flush_sends_what_lingers :
    told (record default_config { linger_ms = 1000 }) 1 1 (
    feed 97 ++ Send ∷ Flush ∷ Send ∷ Deliver 0 Judged ∷ Reply 0 ∷ [])
    ≡ codes "idle\nflushing\nsent 0 0:0+1\nanswer 0 0:0@0\nreport 0 0 0 delivered 0\n"
    ++ codes "flushed\nlog 0 0 a\naudit 0 0 0 1\n"
unfolding evaluated
a_flush_sends_what_lingers = refl

pub a_flush_of_nothing_is_complete :
    told default_config 1 1 (
    Flush ∷ [])
    ≡ codes "flushed\n"
unfolding evaluated
a_flush_of_nothing_is_complete = refl

pub the_end_completes_a_flush :
    told (record default_config { linger_ms = 1000 }) 1 1 (
    feed 97 ++ Flush ∷ End ∷ [])
    ≡ codes "flushing\nreport 0 0 0 ended\nflushed\n"
unfolding evaluated
the_end_completes_a_flush = refl
