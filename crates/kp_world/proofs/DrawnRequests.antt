-- Schedules that tell the rules of requests from wrong ones, with the lines that bench/simulate
-- gives them. A fact is named for the wrong rule that it refuses.
use Rattle.std.proofs.Common.{◌≡◌, pos, [], ◌∷◌, ◌++◌, refl}
use Rattle.std.specs.Prelude.{codes}
use Rattle.kp_accum.specs.Config.{default_config}
use Rattle.kp_world.specs.declared.event.Event.TheVariants.{Accept, Take, Now, Tick, Send, Deliver, Reply, Drop, Other, Flush}
use Rattle.kp_world.specs.declared.event.Treatment.TheVariants.{Judged, Refused, Late}
use Rattle.kp_world.proofs.Evaluation.{evaluated}
use Rattle.kp_world.proofs.Schedules.{told}

-- Wrong: the window counts the batches in flight, and not the requests.
pub window_counts_batches_1 :
    told (record default_config { batch_size = 0; max_request_size = 220; request_timeout_ms = 100; delivery_timeout_ms = 220; retry_backoff_ms = 0; max_in_flight_requests_per_connection = 2 }) 2 2 (
    Accept 0 0 (97 ∷ []) ∷ Take 0 ∷ Accept 0 0 (98 ∷ []) ∷ Take 0 ∷ Accept 0 0 (99 ∷ []) ∷
    Take 0 ∷ Accept 0 1 (100 ∷ []) ∷ Take 0 ∷ Accept 0 0 (101 ∷ []) ∷ Take 0 ∷
    Accept 0 1 (102 ∷ []) ∷ Take 0 ∷ Send ∷ Deliver 0 Judged ∷ Reply 0 ∷ Send ∷
    Deliver 1 Judged ∷ Send ∷ Accept 0 0 (103 ∷ []) ∷ Take 0 ∷ Accept 1 0 (104 ∷ []) ∷ Take 1 ∷
    Send ∷ Deliver 2 Judged ∷ Now 0 ∷ Reply 2 ∷ Accept 0 1 (105 ∷ []) ∷ Take 0 ∷ [])
    ≡ codes "sent 0 0:0+1 1:0+1\nanswer 0 0:0@0 1:0@0\nreport 0 0 0 delivered 0\n"
    ++ codes "report 0 1 0 delivered 0\nsent 1 0:1+1 1:1+1\nanswer 1 0:0@1 1:0@1\nsent 2 0:2+1\n"
    ++ codes "idle\nanswer 2 0:0@2\nreport 0 0 2 delivered 2\nlog 0 0 a\nlog 0 1 b\nlog 0 2 c\n"
    ++ codes "log 1 0 d\nlog 1 1 f\naudit 0 0 0 3\naudit 1 0 0 2\n"
unfolding evaluated
window_counts_batches_1 = refl

pub window_counts_batches_2 :
    told (record default_config { batch_size = 0; max_request_size = 138; request_timeout_ms = 50; max_in_flight_requests_per_connection = 2; sequence_limit = 4 }) 3 1 (
    Take 0 ∷ Accept 0 0 (97 ∷ []) ∷ Take 0 ∷ Now 100 ∷ Accept 0 1 (98 ∷ []) ∷ Take 0 ∷
    Other 1 2 ∷ Now 120000 ∷ Send ∷ Send ∷ Accept 0 2 (99 ∷ []) ∷ Take 0 ∷ Send ∷
    Deliver 1 Judged ∷ Reply 0 ∷ Deliver 1 Judged ∷ Send ∷ Reply 1 ∷ Deliver 0 (Late (pos 19)) ∷
    Reply 2 ∷ Accept 0 0 (100 ∷ []) ∷ Take 0 ∷ Reply 1 ∷ Send ∷ Now 120100 ∷ Send ∷
    Deliver 2 Judged ∷ Reply 3 ∷ Deliver 1 Judged ∷ [])
    ≡ codes "empty 0\nsent 0 0:0+1 1:0+1\nidle\nsent 1 2:0+1\nanswer 0 2:0@0\n"
    ++ codes "report 0 2 0 delivered 0\nanswer 1 2:0@0\nidle\nstale 1\nanswer 2 0:19@-1 1:19@-1\n"
    ++ codes "stale 1\nidle\nsent 2 0:0+1 1:0+1\nanswer 3 0:0@0 1:0@2\nreport 0 0 0 delivered 0\n"
    ++ codes "report 0 1 0 delivered 2\nanswer 4 2:0@0\nlog 0 0 a\nother 1 0\nother 1 1\n"
    ++ codes "log 1 2 b\nlog 2 0 c\naudit 0 0 0 1\naudit 1 0 0 1\naudit 2 0 0 1\n"
unfolding evaluated
window_counts_batches_2 = refl

-- Wrong: a request goes on behind a batch that is too large for it.
pub batch_too_large_is_skipped_1 :
    told (record default_config { batch_size = 0; linger_ms = 5; max_request_size = 138; request_timeout_ms = 100; retry_backoff_ms = 0; max_in_flight_requests_per_connection = 2 }) 3 1 (
    Send ∷ Accept 0 1 (97 ∷ 65 ∷ 33 ∷ []) ∷ Take 0 ∷ Accept 0 0 (98 ∷ []) ∷ Take 0 ∷ Now 120000 ∷
    Now 120005 ∷ Accept 0 2 (99 ∷ []) ∷ Take 0 ∷ Send ∷ Deliver 0 Judged ∷ Reply 0 ∷ Flush ∷
    Now 120010 ∷ Send ∷ Tick ∷ Take 0 ∷ Take 0 ∷ Send ∷ Accept 0 2 (100 ∷ []) ∷ Take 0 ∷ Send ∷
    Accept 0 2 (101 ∷ []) ∷ Take 0 ∷ Send ∷ Tick ∷ Take 0 ∷ Accept 0 2 (102 ∷ []) ∷ Take 0 ∷
    Send ∷ Deliver 2 (Refused (pos 19)) ∷ Reply 1 ∷ [])
    ≡ codes "idle\nsent 0 0:0+1\nanswer 0 0:0@0\nreport 0 0 0 delivered 0\nflushing\n"
    ++ codes "sent 1 1:0+1\nreport 0 1 0 unknown\nempty 0\nempty 0\nsent 2 2:0+1\nidle\nidle\n"
    ++ codes "empty 0\nidle\nanswer 1 2:19@-1\nlog 0 0 b\naudit 0 0 0 1\naudit 1 0 0 1\n"
    ++ codes "audit 2 0 0 1\n"
unfolding evaluated
batch_too_large_is_skipped_1 = refl

pub batch_too_large_is_skipped_2 :
    told (record default_config { batch_size = 69; linger_ms = 1000; max_request_size = 138; request_timeout_ms = 50; retry_backoff_ms = 10; max_in_flight_requests_per_connection = 3 }) 3 2 (
    Accept 1 2 (97 ∷ []) ∷ Take 1 ∷ Send ∷ Send ∷ Other 1 1 ∷ Accept 0 1 (98 ∷ []) ∷
    Deliver 0 (Refused (pos 20)) ∷ Accept 1 2 (99 ∷ []) ∷ Take 1 ∷ Reply 0 ∷ Drop ∷
    Accept 1 1 (100 ∷ 126 ∷ 33 ∷ 65 ∷ 33 ∷ 33 ∷ 65 ∷ 65 ∷ 33 ∷ 33 ∷ 33 ∷ 33 ∷ 33 ∷ 126 ∷ 126 ∷ 126 ∷ 65 ∷ 65 ∷ 65 ∷ 65 ∷ 126 ∷ 65 ∷ 126 ∷ 33 ∷ 126 ∷ 65 ∷ 33 ∷ 126 ∷ 65 ∷ 33 ∷ 33 ∷ 126 ∷ 126 ∷ []) ∷
    Take 1 ∷ Send ∷
    Accept 1 0 (101 ∷ 65 ∷ 33 ∷ 65 ∷ 65 ∷ 126 ∷ 65 ∷ 126 ∷ 65 ∷ 33 ∷ 126 ∷ 126 ∷ 33 ∷ 65 ∷ 126 ∷ 126 ∷ 33 ∷ 33 ∷ 33 ∷ 65 ∷ 65 ∷ 126 ∷ 65 ∷ 65 ∷ 126 ∷ 126 ∷ 33 ∷ 126 ∷ 33 ∷ 33 ∷ 33 ∷ []) ∷
    Take 1 ∷ Reply 0 ∷ Now 11 ∷ Now 50 ∷ Deliver 1 Judged ∷ Reply 1 ∷ Now 45 ∷ Reply 0 ∷
    Accept 0 0 (102 ∷ []) ∷ Take 0 ∷ Deliver 0 Judged ∷ Send ∷ Deliver 2 Judged ∷ Reply 3 ∷
    Deliver 0 Judged ∷ [])
    ≡ codes "sent 0 2:0+1\nidle\nanswer 0 2:20@-1\nsent 1 1:0+1\nstale 0\nanswer 1 1:0@1\n"
    ++ codes "report 1 1 0 delivered 1\nstale 0\nanswer 2 2:0@0\nsent 2 2:0+1\nanswer 3 2:0@0\n"
    ++ codes "report 1 2 0 delivered 0\nanswer 4 2:0@0\nother 1 0\n"
    ++ codes "log 1 1 d~!A!!AA!!!!!~~~AAAA~A~!~A!~A!!~~\nlog 2 0 a\naudit 1 1 0 1\naudit 2 1 0 1\n"
unfolding evaluated
batch_too_large_is_skipped_2 = refl

-- Wrong: the next request begins at the last partition used, and not after it.
pub request_begins_at_the_last_used :
    told (record default_config { batch_size = 0; max_in_flight_requests_per_connection = 1; sequence_limit = 1 }) 3 1 (
    Accept 0 2 (97 ∷ []) ∷ Accept 0 2 (98 ∷ []) ∷ Accept 0 0 (99 ∷ []) ∷ Accept 0 1 (100 ∷ []) ∷
    Take 0 ∷ Send ∷ Deliver 0 Judged ∷ Reply 0 ∷ Take 0 ∷ Take 0 ∷ Send ∷ Take 0 ∷ Send ∷
    Deliver 1 Judged ∷ Reply 1 ∷ Send ∷ Deliver 2 Judged ∷ Reply 2 ∷ Flush ∷ Send ∷ Send ∷ [])
    ≡ codes "sent 0 2:0+1\nanswer 0 2:0@0\nreport 0 2 0 delivered 0\nsent 1 init\nidle\n"
    ++ codes "answer 1 init 0@1001\nsent 2 0:0+1 1:0+1 2:0+1\nanswer 2 0:0@0 1:0@0 2:0@1\n"
    ++ codes "report 0 0 0 delivered 0\nreport 0 1 0 delivered 0\nreport 0 2 1 delivered 1\n"
    ++ codes "flushed\nidle\nidle\nlog 0 0 c\nlog 1 0 d\nlog 2 0 a\nlog 2 1 b\naudit 0 0 0 1\n"
    ++ codes "audit 1 0 0 1\naudit 2 0 0 2\n"
unfolding evaluated
request_begins_at_the_last_used = refl
