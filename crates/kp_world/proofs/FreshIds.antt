-- A partition that has used its sequence numbers goes on under a fresh producer id.
use Rattle.std.proofs.Common.{◌≡◌, pos, [], ◌∷◌, ◌++◌, refl}
use Rattle.std.specs.Prelude.{codes}
use Rattle.kp_accum.specs.Config.{default_config}
use Rattle.kp_world.specs.declared.event.Event.TheVariants.{Accept, Take, Now, Tick, Send, Deliver, Reply}
use Rattle.kp_world.specs.declared.event.Treatment.TheVariants.{Judged, Refused}
use Rattle.kp_world.specs.Reaching.{feed}
use Rattle.kp_world.proofs.Evaluation.{evaluated}
use Rattle.kp_world.proofs.Schedules.{told}

pub an_id_is_asked_for_at_the_limit :
    told (record default_config { sequence_limit = 2; batch_size = 0 }) 1 1 (
    feed 97 ++ feed 98 ++ feed 99 ++ Send ∷ Deliver 0 Judged ∷ Reply 0 ∷ Send
    ∷ Deliver 1 Judged ∷ Reply 1 ∷ Send ∷ Tick ∷ [])
    ≡ codes "sent 0 0:0+1\nanswer 0 0:0@0\nreport 0 0 0 delivered 0\nsent 1 0:1+1\n"
    ++ codes "answer 1 0:0@1\nreport 0 0 1 delivered 1\nsent 2 init\nlog 0 0 a\nlog 0 1 b\n"
    ++ codes "audit 0 0 0 2\n"
unfolding evaluated
an_id_is_asked_for_at_the_limit = refl

-- While the last batch under the old id is open, none is asked for.
pub an_id_waits_for_what_is_open :
    told (record default_config { sequence_limit = 2; batch_size = 0 }) 1 1 (
    feed 97 ++ feed 98 ++ feed 99 ++ Send ∷ Deliver 0 Judged ∷ Reply 0 ∷ Send ∷ Send ∷ [])
    ≡ codes "sent 0 0:0+1\nanswer 0 0:0@0\nreport 0 0 0 delivered 0\nsent 1 0:1+1\nidle\n"
    ++ codes "log 0 0 a\naudit 0 0 0 2\n"
unfolding evaluated
an_id_waits_for_what_is_open = refl

-- Under the fresh id the sequence begins at 0. A packet of the old one comes again, and is stored
-- no second time.
pub the_old_id_is_silent :
    told (record default_config { sequence_limit = 2; batch_size = 0 }) 1 1 (
    feed 97 ++ feed 98 ++ feed 99 ++ Send ∷ Deliver 0 Judged ∷ Reply 0 ∷ Send
    ∷ Deliver 1 Judged ∷ Reply 1 ∷ Send ∷ Tick ∷ Deliver 2 Judged ∷ Reply 2 ∷ Send
    ∷ Deliver 3 Judged ∷ Reply 3 ∷ Deliver 1 Judged ∷ [])
    ≡ codes "sent 0 0:0+1\nanswer 0 0:0@0\nreport 0 0 0 delivered 0\nsent 1 0:1+1\n"
    ++ codes "answer 1 0:0@1\nreport 0 0 1 delivered 1\nsent 2 init\nanswer 2 init 0@1001\n"
    ++ codes "sent 3 0:0+1\nanswer 3 0:0@2\nreport 0 0 2 delivered 2\nanswer 4 0:0@1\n"
    ++ codes "log 0 0 a\nlog 0 1 b\nlog 0 2 c\naudit 0 0 0 3\n"
unfolding evaluated
the_old_id_is_silent = refl

-- After its backoff.
pub an_id_that_is_refused_is_asked_for_again :
    told (record default_config { sequence_limit = 2; batch_size = 0 }) 1 1 (
    feed 97 ++ feed 98 ++ feed 99 ++ Send ∷ Deliver 0 Judged ∷ Reply 0 ∷ Send
    ∷ Deliver 1 Judged ∷ Reply 1 ∷ Send ∷ Tick ∷ Deliver 2 (Refused (pos 14)) ∷ Reply 2
    ∷ Now 99 ∷ Send ∷ Now 100 ∷ Send ∷ [])
    ≡ codes "sent 0 0:0+1\nanswer 0 0:0@0\nreport 0 0 0 delivered 0\nsent 1 0:1+1\n"
    ++ codes "answer 1 0:0@1\nreport 0 0 1 delivered 1\nsent 2 init\nanswer 2 init 14@-1\n"
    ++ codes "idle\nsent 3 init\nlog 0 0 a\nlog 0 1 b\naudit 0 0 0 2\n"
unfolding evaluated
an_id_that_is_refused_is_asked_for_again = refl

-- It is dropped, and goes out again after its backoff.
pub an_id_request_times_out :
    told (record default_config { sequence_limit = 2; batch_size = 0 }) 1 1 (
    feed 97 ++ feed 98 ++ feed 99 ++ Send ∷ Deliver 0 Judged ∷ Reply 0 ∷ Send
    ∷ Deliver 1 Judged ∷ Reply 1 ∷ Send ∷ Tick ∷ Now 30000 ∷ Tick ∷ Send ∷ Now 30100 ∷ Send
    ∷ [])
    ≡ codes "sent 0 0:0+1\nanswer 0 0:0@0\nreport 0 0 0 delivered 0\nsent 1 0:1+1\n"
    ++ codes "answer 1 0:0@1\nreport 0 0 1 delivered 1\nsent 2 init\nreconnect\nidle\n"
    ++ codes "sent 3 init\nlog 0 0 a\nlog 0 1 b\naudit 0 0 0 2\n"
unfolding evaluated
an_id_request_times_out = refl

-- The batch that wanted it has expired when it comes; the next batch wants another.
pub an_id_that_comes_too_late_is_never_used :
    told (record default_config { sequence_limit = 2; batch_size = 0; request_timeout_ms = 120000 }) 1 1 (
    feed 97 ++ feed 98 ++ feed 99 ++ Send ∷ Deliver 0 Judged ∷ Reply 0 ∷ Send
    ∷ Deliver 1 Judged ∷ Reply 1 ∷ Now 1 ∷ Send ∷ Now 120000 ∷ Tick ∷ Deliver 2 Judged
    ∷ Reply 2 ∷ feed 100 ++ Send ∷ [])
    ≡ codes "sent 0 0:0+1\nanswer 0 0:0@0\nreport 0 0 0 delivered 0\nsent 1 0:1+1\n"
    ++ codes "answer 1 0:0@1\nreport 0 0 1 delivered 1\nsent 2 init\nreport 0 0 2 expired\n"
    ++ codes "answer 2 init 0@1001\nsent 3 init\nlog 0 0 a\nlog 0 1 b\naudit 0 0 0 2\n"
unfolding evaluated
an_id_that_comes_too_late_is_never_used = refl

-- Where one may be in flight, the other partition waits for the id; and then it comes first, after
-- the last one used.
pub an_id_request_counts_as_a_request :
    told (record default_config { max_in_flight_requests_per_connection = 1; sequence_limit = 2; batch_size = 0 }) 2 1 (
    feed 97 ++ feed 98 ++ feed 99 ++ Send ∷ Deliver 0 Judged ∷ Reply 0 ∷ Send
    ∷ Deliver 1 Judged ∷ Reply 1 ∷ Send ∷ Accept 0 1 (100 ∷ []) ∷ Take 0 ∷ Send
    ∷ Deliver 2 Judged ∷ Reply 2 ∷ Send ∷ [])
    ≡ codes "sent 0 0:0+1\nanswer 0 0:0@0\nreport 0 0 0 delivered 0\nsent 1 0:1+1\n"
    ++ codes "answer 1 0:0@1\nreport 0 0 1 delivered 1\nsent 2 init\nidle\n"
    ++ codes "answer 2 init 0@1001\nsent 3 1:0+1 0:0+1\nlog 0 0 a\nlog 0 1 b\n"
    ++ codes "audit 0 0 0 3\naudit 1 0 0 1\n"
unfolding evaluated
an_id_request_counts_as_a_request = refl

-- Each delivery draws an id of its own, and the first reply is the one that counts.
pub a_second_id_is_stale :
    told (record default_config { sequence_limit = 2; batch_size = 0 }) 1 1 (
    feed 97 ++ feed 98 ++ feed 99 ++ Send ∷ Deliver 0 Judged ∷ Reply 0 ∷ Send
    ∷ Deliver 1 Judged ∷ Reply 1 ∷ Send ∷ Tick ∷ Deliver 2 Judged ∷ Deliver 2 Judged
    ∷ Reply 2 ∷ Reply 3 ∷ Send ∷ [])
    ≡ codes "sent 0 0:0+1\nanswer 0 0:0@0\nreport 0 0 0 delivered 0\nsent 1 0:1+1\n"
    ++ codes "answer 1 0:0@1\nreport 0 0 1 delivered 1\nsent 2 init\nanswer 2 init 0@1001\n"
    ++ codes "answer 3 init 0@1002\nstale 3\nsent 3 0:0+1\nlog 0 0 a\nlog 0 1 b\n"
    ++ codes "audit 0 0 0 3\n"
unfolding evaluated
a_second_id_is_stale = refl
