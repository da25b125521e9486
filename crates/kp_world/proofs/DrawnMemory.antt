-- Schedules that tell the rules of memory from wrong ones, with the lines that bench/simulate gives
-- them. A fact is named for the wrong rule that it refuses.
use Rattle.std.proofs.Common.{◌≡◌, pos, [], ◌∷◌, ◌++◌, refl}
use Rattle.std.specs.Prelude.{codes}
use Rattle.kp_accum.specs.Config.{default_config}
use Rattle.kp_world.specs.declared.event.Event.TheVariants.{Accept, Take, Now, Tick, Send, Deliver, Reply, Drop, Other, Flush}
use Rattle.kp_world.specs.declared.event.Treatment.TheVariants.{Judged, Refused, Late}
use Rattle.kp_world.proofs.Evaluation.{evaluated}
use Rattle.kp_world.proofs.Schedules.{told}

-- Wrong: once memory was refused, every front batch stays ready for good.
pub exhausted_never_cleared_1 :
    told (record default_config { batch_size = 77; linger_ms = 1000; buffer_memory = 140; max_request_size = 100; request_timeout_ms = 50; max_in_flight_requests_per_connection = 2 }) 2 1 (
    Flush ∷ Send ∷ Now 10 ∷ Send ∷ Send ∷ Send ∷ Now 0 ∷ Send ∷ Accept 0 0 (97 ∷ []) ∷ Take 0 ∷
    Take 0 ∷ Tick ∷ Accept 0 1 (98 ∷ []) ∷ Take 0 ∷ Accept 0 0 (99 ∷ []) ∷ Take 0 ∷ Send ∷
    Deliver 0 Judged ∷ Reply 0 ∷ Take 0 ∷ Deliver 0 Judged ∷ Other 1 1 ∷ Send ∷ Send ∷ Now 1000 ∷
    Accept 0 1 (100 ∷ []) ∷ Take 0 ∷ Deliver 0 Judged ∷ Take 0 ∷ [])
    ≡ codes "flushed\nidle\nidle\nidle\nidle\nidle\nempty 0\nfull 0\nsent 0 0:0+1\n"
    ++ codes "answer 0 0:0@0\nreport 0 0 0 delivered 0\nanswer 1 0:0@0\nidle\nidle\nfull 0\n"
    ++ codes "answer 2 0:0@0\nfull 0\nlog 0 0 a\nother 1 0\naudit 0 0 0 1\n"
unfolding evaluated
exhausted_never_cleared_1 = refl

pub exhausted_never_cleared_2 :
    told (record default_config { batch_size = 150; linger_ms = 1000; buffer_memory = 138; request_timeout_ms = 100; delivery_timeout_ms = 1220; retry_backoff_ms = 10; max_in_flight_requests_per_connection = 3; sequence_limit = 4 }) 1 3 (
    Tick ∷ Send ∷ Now 100 ∷ Send ∷ Accept 0 0 (97 ∷ []) ∷ Take 0 ∷ Accept 2 0 (98 ∷ []) ∷
    Take 2 ∷ Accept 0 0 (99 ∷ []) ∷ Send ∷ Take 0 ∷ Drop ∷ Accept 1 0 (100 ∷ []) ∷ Take 1 ∷
    Send ∷ Deliver 0 Judged ∷ Reply 0 ∷ Accept 0 0 (101 ∷ []) ∷ Accept 2 0 (102 ∷ []) ∷ Take 2 ∷
    Deliver 0 Judged ∷ Accept 0 0 (103 ∷ []) ∷ Take 0 ∷ Send ∷ Deliver 0 (Late (pos 7)) ∷
    Now 1320 ∷ Reply 2 ∷ Accept 1 0 (92 ∷ 104 ∷ []) ∷ Take 1 ∷ [])
    ≡ codes "idle\nidle\nidle\nfull 0\nfull 1\nsent 0 0:0+2\nanswer 0 0:0@0\n"
    ++ codes "report 0 0 0 delivered 0\nreport 2 0 0 delivered 1\nanswer 1 0:0@0\nidle\n"
    ++ codes "answer 2 0:7@-1\nstale 2\nfull 1\nlog 0 0 a\nlog 0 1 b\naudit 0 0 0 1\n"
    ++ codes "audit 0 2 0 1\n"
unfolding evaluated
exhausted_never_cleared_2 = refl

-- Wrong: an item that is told at a fenced partition, as it is appended, ends the want of memory.
pub report_at_a_fence_clears_exhausted :
    told (record default_config { linger_ms = 1000; buffer_memory = 140 }) 2 2 (
    Accept 0 0 (97 ∷ []) ∷ Take 0 ∷ Now 1000 ∷ Send ∷ Deliver 0 (Refused (pos 42)) ∷ Reply 0 ∷
    Accept 0 1 (98 ∷ []) ∷ Accept 0 1 (99 ∷ []) ∷ Accept 0 1 (100 ∷ []) ∷ Take 0 ∷ Take 0 ∷
    Take 0 ∷ Accept 1 0 (101 ∷ []) ∷ Take 1 ∷ Send ∷ Deliver 1 Judged ∷ Reply 1 ∷ Take 0 ∷ Send ∷
    Flush ∷ Send ∷ Take 0 ∷ [])
    ≡ codes "sent 0 0:0+1\nanswer 0 0:42@-1\nreport 0 0 0 rejected 42\nfull 0\n"
    ++ codes "report 1 0 0 fenced\nsent 1 1:0+2\nanswer 1 1:0@0\nreport 0 1 0 delivered 0\n"
    ++ codes "report 0 1 1 delivered 1\nidle\nflushing\nsent 2 1:2+1\nempty 0\nlog 1 0 b\n"
    ++ codes "log 1 1 c\naudit 0 0 0 1\naudit 1 0 0 3\n"
unfolding evaluated
report_at_a_fence_clears_exhausted = refl

-- Wrong: a fenced partition refuses an item for want of memory.
pub memory_refused_at_a_fence_1 :
    told (record default_config { batch_size = 77; linger_ms = 1000; buffer_memory = 207; max_request_size = 130; request_timeout_ms = 50; delivery_timeout_ms = 1170; retry_backoff_ms = 10; max_in_flight_requests_per_connection = 2 }) 2 1 (
    Accept 0 0 (97 ∷ []) ∷ Take 0 ∷ Take 0 ∷ Accept 0 1 (98 ∷ []) ∷ Take 0 ∷
    Accept 0 1 (99 ∷ []) ∷ Take 0 ∷ Take 0 ∷ Drop ∷ Now 1170 ∷ Drop ∷ Accept 0 0 (100 ∷ []) ∷
    Accept 0 1 (101 ∷ []) ∷ Take 0 ∷ Send ∷ Flush ∷ Accept 0 1 (102 ∷ []) ∷ Take 0 ∷ Tick ∷
    Accept 0 0 (103 ∷ 126 ∷ 126 ∷ 33 ∷ 65 ∷ 126 ∷ 65 ∷ 65 ∷ 33 ∷ 65 ∷ 33 ∷ 126 ∷ 65 ∷ 126 ∷ 33 ∷ 126 ∷ 33 ∷ 33 ∷ 126 ∷ 126 ∷ 65 ∷ 33 ∷ 65 ∷ 33 ∷ 65 ∷ 126 ∷ 126 ∷ 126 ∷ 65 ∷ 33 ∷ 33 ∷ 126 ∷ 126 ∷ 33 ∷ 33 ∷ 33 ∷ 65 ∷ 126 ∷ 126 ∷ 65 ∷ 33 ∷ []) ∷
    Take 0 ∷ Take 0 ∷ Send ∷ Take 0 ∷ Accept 0 1 (104 ∷ []) ∷ Take 0 ∷ Take 0 ∷ Send ∷ Send ∷ [])
    ≡ codes "empty 0\nempty 0\nfull 0\nsent 0 0:0+1\nflushing\nfull 0\nreport 0 0 0 unknown\n"
    ++ codes "report 0 1 0 expired\nreport 0 1 1 expired\nflushed\nreport 0 0 1 fenced\nidle\n"
    ++ codes "report 0 0 2 fenced\nsent 1 1:0+2\nidle\naudit 0 0 0 1\naudit 1 0 2 2\n"
unfolding evaluated
memory_refused_at_a_fence_1 = refl

pub memory_refused_at_a_fence_2 :
    told (record default_config { linger_ms = 5; buffer_memory = 140; request_timeout_ms = 20; delivery_timeout_ms = 25; retry_backoff_ms = 0; max_in_flight_requests_per_connection = 2; sequence_limit = 2 }) 3 1 (
    Send ∷ Accept 0 0 (97 ∷ []) ∷ Take 0 ∷ Accept 0 0 (98 ∷ []) ∷ Take 0 ∷ Accept 0 2 (99 ∷ []) ∷
    Take 0 ∷ Now 5 ∷ Flush ∷ Now 25 ∷ Flush ∷ Send ∷ Deliver 0 Judged ∷ Now 45 ∷ Tick ∷ Flush ∷
    Accept 0 0 (100 ∷ 126 ∷ 65 ∷ 65 ∷ 65 ∷ 126 ∷ 126 ∷ 65 ∷ 126 ∷ 33 ∷ 126 ∷ 126 ∷ 33 ∷ 65 ∷ 126 ∷ 33 ∷ 33 ∷ 65 ∷ 126 ∷ 126 ∷ 65 ∷ 126 ∷ 126 ∷ 126 ∷ 126 ∷ 126 ∷ 126 ∷ 33 ∷ 126 ∷ 33 ∷ 65 ∷ 126 ∷ 33 ∷ []) ∷
    Send ∷ Now 35 ∷ Send ∷ Accept 0 1 (101 ∷ []) ∷ Take 0 ∷ Send ∷ Send ∷ Flush ∷ Now 55 ∷
    Accept 0 0 (102 ∷ []) ∷ Take 0 ∷ Reply 0 ∷ Take 0 ∷ Take 0 ∷ Send ∷ [])
    ≡ codes "idle\nfull 0\nflushing\nflushing\nsent 0 0:0+2\nanswer 0 0:0@0\nreconnect\n"
    ++ codes "report 0 0 0 unknown\nreport 0 0 1 unknown\nflushed\nflushed\nidle\nidle\n"
    ++ codes "sent 1 2:0+1\nidle\nflushing\nreport 0 0 2 fenced\nstale 0\nreport 0 0 3 fenced\n"
    ++ codes "sent 2 1:0+1\nlog 0 0 a\nlog 0 1 b\naudit 0 0 0 2\naudit 1 0 0 1\naudit 2 0 0 1\n"
unfolding evaluated
memory_refused_at_a_fence_2 = refl
