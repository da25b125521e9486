-- Schedules that tell the rules of retries from wrong ones, with the lines that bench/simulate
-- gives them. A fact is named for the wrong rule that it refuses.
use Rattle.std.proofs.Common.{◌≡◌, pos, [], ◌∷◌, ◌++◌, refl}
use Rattle.std.specs.Prelude.{codes}
use Rattle.kp_accum.specs.Config.{default_config}
use Rattle.kp_world.specs.declared.event.Event.TheVariants.{Accept, Take, Now, Tick, Send, Deliver, Reply, Drop, Other, Close, Flush}
use Rattle.kp_world.specs.declared.event.Treatment.TheVariants.{Judged, Refused, Late}
use Rattle.kp_world.proofs.Evaluation.{evaluated}
use Rattle.kp_world.proofs.Schedules.{told}

-- Wrong: code 2 rejects a batch.
pub code_2_rejects_1 :
    told (record default_config { batch_size = 0; linger_ms = 1000; buffer_memory = 138; request_timeout_ms = 50; max_in_flight_requests_per_connection = 3 }) 2 2 (
    Send ∷ Send ∷ Send ∷ Accept 1 0 (97 ∷ []) ∷ Take 1 ∷ Send ∷ Accept 1 1 (98 ∷ []) ∷ Take 1 ∷
    Accept 0 1 (99 ∷ []) ∷ Take 0 ∷ Deliver 0 (Refused (pos 2)) ∷ Now 50 ∷ Reply 0 ∷
    Deliver 0 Judged ∷ Send ∷ Now 100 ∷ Deliver 1 Judged ∷ Send ∷ Send ∷ Accept 0 0 (100 ∷ []) ∷
    Take 0 ∷ Drop ∷ Now 150 ∷ Deliver 0 Judged ∷ Close ∷ Accept 0 0 (101 ∷ []) ∷ Flush ∷
    Accept 1 1 (102 ∷ []) ∷ Take 1 ∷ Deliver 1 Judged ∷ [])
    ≡ codes "idle\nidle\nidle\nsent 0 0:0+1\nfull 0\nanswer 0 0:2@-1\nanswer 1 0:0@0\n"
    ++ codes "sent 1 1:0+1\nanswer 2 1:0@0\nidle\nidle\nfull 0\nanswer 3 0:0@0\nclosed 0 0\n"
    ++ codes "flushing\nclosed 1 1\nempty 1\nanswer 4 1:0@0\nlog 0 0 a\nlog 1 0 b\naudit 0 1 0 1\n"
    ++ codes "audit 1 1 0 1\n"
unfolding evaluated
code_2_rejects_1 = refl

pub code_2_rejects_2 :
    told (record default_config { batch_size = 150; max_request_size = 155; request_timeout_ms = 50; delivery_timeout_ms = 50; max_in_flight_requests_per_connection = 1 }) 3 1 (
    Send ∷ Accept 0 1 (97 ∷ []) ∷ Take 0 ∷ Accept 0 2 (98 ∷ []) ∷ Take 0 ∷ Send ∷ Send ∷
    Deliver 0 (Late (pos 99)) ∷ Send ∷ Send ∷ Send ∷ Now 10 ∷ Deliver 0 Judged ∷ Reply 1 ∷
    Reply 0 ∷ Send ∷ Now 110 ∷ Tick ∷ Reply 1 ∷ Reply 1 ∷ Deliver 0 (Refused (pos 20)) ∷ Tick ∷
    Accept 0 2 (99 ∷ []) ∷ Take 0 ∷ Reply 1 ∷ Take 0 ∷ Send ∷ Deliver 1 (Refused (pos 2)) ∷
    Reply 3 ∷ Send ∷ [])
    ≡ codes "idle\nsent 0 1:0+1 2:0+1\nidle\nanswer 0 1:99@-1 2:99@-1\nidle\nidle\nidle\n"
    ++ codes "answer 1 1:0@0 2:0@0\nreport 0 1 0 delivered 0\nreport 0 2 0 delivered 0\nstale 0\n"
    ++ codes "idle\nstale 1\nstale 1\nanswer 2 1:20@-1 2:20@-1\nstale 1\nempty 0\nsent 1 2:1+1\n"
    ++ codes "answer 3 2:2@-1\nidle\nlog 1 0 a\nlog 2 0 b\naudit 1 0 0 1\naudit 2 0 0 2\n"
unfolding evaluated
code_2_rejects_2 = refl

-- Wrong: code 3 rejects a batch.
pub code_3_rejects_1 :
    told (record default_config { batch_size = 77; request_timeout_ms = 100; delivery_timeout_ms = 220; retry_backoff_ms = 10; max_in_flight_requests_per_connection = 1 }) 1 2 (
    Accept 1 0 (97 ∷ []) ∷ Take 1 ∷ Tick ∷ Accept 0 0 (98 ∷ []) ∷ Take 0 ∷ Tick ∷
    Accept 1 0 (99 ∷ []) ∷ Take 1 ∷ Tick ∷ Now 220 ∷ Tick ∷ Tick ∷ Tick ∷ Send ∷ Send ∷ Tick ∷
    Now 210 ∷ Send ∷ Accept 0 0 (100 ∷ []) ∷ Take 0 ∷ Send ∷ Send ∷ Deliver 0 (Refused (pos 3)) ∷
    Reply 0 ∷ Send ∷ Now 220 ∷ Send ∷ Deliver 1 Judged ∷ [])
    ≡ codes "report 0 0 0 expired\nreport 1 0 0 expired\nreport 1 0 1 expired\nidle\nidle\nidle\n"
    ++ codes "sent 0 0:0+1\nidle\nanswer 0 0:3@-1\nidle\nsent 1 0:0+1\nanswer 1 0:0@0\nlog 0 0 d\n"
    ++ codes "audit 0 0 1 1\n"
unfolding evaluated
code_3_rejects_1 = refl

pub code_3_rejects_2 :
    told (record default_config { batch_size = 0; linger_ms = 1000; buffer_memory = 276; request_timeout_ms = 50 }) 1 2 (
    Send ∷ Send ∷ Accept 0 0 (97 ∷ []) ∷ Take 0 ∷ Send ∷ Deliver 0 (Late (pos 3)) ∷ Other 0 1 ∷
    Deliver 0 Judged ∷ Take 0 ∷ Now 50 ∷
    Accept 0 0 (98 ∷ 65 ∷ 65 ∷ 126 ∷ 126 ∷ 33 ∷ 126 ∷ 65 ∷ 126 ∷ 33 ∷ 65 ∷ 126 ∷ 33 ∷ 33 ∷ 126 ∷ 65 ∷ 33 ∷ 33 ∷ 126 ∷ 126 ∷ 33 ∷ 126 ∷ 126 ∷ 65 ∷ 65 ∷ 65 ∷ 65 ∷ 65 ∷ 65 ∷ 33 ∷ 33 ∷ []) ∷
    Take 0 ∷ Deliver 0 Judged ∷ Reply 0 ∷ Now 150 ∷ Now 1050 ∷ Accept 1 0 (99 ∷ []) ∷ Take 1 ∷
    Accept 0 0 (100 ∷ []) ∷ Take 0 ∷ Reply 2 ∷ Send ∷ Send ∷
    Accept 1 0 (101 ∷ 33 ∷ 126 ∷ 33 ∷ 65 ∷ 126 ∷ 65 ∷ 126 ∷ 65 ∷ 33 ∷ 65 ∷ 65 ∷ 33 ∷ 126 ∷ 126 ∷ 65 ∷ 65 ∷ 33 ∷ 65 ∷ 65 ∷ 33 ∷ 126 ∷ 65 ∷ 65 ∷ 33 ∷ 126 ∷ 33 ∷ 126 ∷ 65 ∷ 126 ∷ 65 ∷ 65 ∷ 65 ∷ 126 ∷ 126 ∷ 126 ∷ 126 ∷ 126 ∷ 33 ∷ 65 ∷ 126 ∷ []) ∷
    Take 1 ∷ Accept 0 0 (102 ∷ []) ∷ Take 0 ∷ Accept 0 0 (103 ∷ []) ∷ Take 0 ∷ [])
    ≡ codes "idle\nidle\nsent 0 0:0+1\nanswer 0 0:3@-1\nanswer 1 0:0@0\nempty 0\nanswer 2 0:0@0\n"
    ++ codes "full 0\nstale 2\nsent 1 0:0+1\nidle\nfull 1\nfull 0\nfull 0\nlog 0 0 a\nother 0 1\n"
    ++ codes "audit 0 0 0 1\n"
unfolding evaluated
code_3_rejects_2 = refl

-- Wrong: code 5 rejects a batch.
pub code_5_rejects_1 :
    told (record default_config { batch_size = 0; request_timeout_ms = 50; delivery_timeout_ms = 100; retry_backoff_ms = 10 }) 1 2 (
    Accept 1 0 (97 ∷ []) ∷ Take 1 ∷ Accept 0 0 (92 ∷ 98 ∷ []) ∷ Take 0 ∷ Accept 1 0 (99 ∷ []) ∷
    Take 1 ∷ Accept 0 0 (100 ∷ []) ∷ Take 0 ∷ Accept 1 0 (101 ∷ []) ∷ Take 1 ∷
    Accept 1 0 (102 ∷ []) ∷ Take 1 ∷ Send ∷ Send ∷ Deliver 0 (Late (pos 5)) ∷ Reply 0 ∷ Tick ∷
    Other 0 0 ∷ Deliver 0 Judged ∷ Take 0 ∷ Send ∷ Send ∷ Send ∷ Deliver 0 Judged ∷
    Deliver 0 (Late (pos 19)) ∷ Accept 1 0 (103 ∷ []) ∷ Accept 1 0 (104 ∷ []) ∷ Take 1 ∷
    Reply 2 ∷ [])
    ≡ codes "sent 0 0:0+1\nidle\nanswer 0 0:5@-1\nanswer 1 0:0@0\nempty 0\nidle\nidle\nidle\n"
    ++ codes "answer 2 0:0@0\nanswer 3 0:19@-1\nstale 2\nlog 0 0 a\naudit 0 1 0 1\n"
unfolding evaluated
code_5_rejects_1 = refl

pub code_5_rejects_2 :
    told (record default_config { linger_ms = 1000; buffer_memory = 138; request_timeout_ms = 50; delivery_timeout_ms = 1170; retry_backoff_ms = 10; max_in_flight_requests_per_connection = 2 }) 3 2 (
    Now 63 ∷ Send ∷ Now 64 ∷ Send ∷ Accept 1 2 (97 ∷ []) ∷ Accept 0 1 (98 ∷ []) ∷ Take 0 ∷ Send ∷
    Send ∷ Send ∷ Now 1065 ∷ Send ∷ Deliver 0 (Late (pos 5)) ∷ Reply 0 ∷ Take 1 ∷
    Accept 1 2 (99 ∷ []) ∷ Send ∷ Send ∷ Now 1115 ∷ Reply 0 ∷ Flush ∷ Accept 0 0 (100 ∷ []) ∷
    Take 0 ∷ Reply 0 ∷ Now 1234 ∷ Deliver 1 (Late (pos 45)) ∷ Reply 1 ∷ Send ∷
    Deliver 2 (Late (pos 10)) ∷ Accept 0 2 (101 ∷ []) ∷ Take 0 ∷ [])
    ≡ codes "idle\nidle\nidle\nidle\nidle\nsent 0 1:0+1\nanswer 0 1:5@-1\nsent 1 2:0+1\nidle\n"
    ++ codes "stale 0\nflushing\nfull 0\nstale 0\nanswer 1 2:45@-1\nsent 2 1:0+1\n"
    ++ codes "answer 2 1:10@-1\nfull 0\nlog 1 0 b\nlog 2 0 a\naudit 1 0 0 1\naudit 2 1 0 1\n"
unfolding evaluated
code_5_rejects_2 = refl

-- Wrong: code 6 rejects a batch.
pub code_6_rejects_1 :
    told (record default_config { batch_size = 77; request_timeout_ms = 50; delivery_timeout_ms = 50; max_in_flight_requests_per_connection = 2; sequence_limit = 4 }) 1 1 (
    Tick ∷ Now 5 ∷ Send ∷ Now 14 ∷ Tick ∷ Now 114 ∷ Tick ∷ Send ∷ Now 178 ∷ Send ∷ Send ∷ Send ∷
    Now 183 ∷ Send ∷ Send ∷ Send ∷ Send ∷ Now 120183 ∷ Send ∷ Accept 0 0 (97 ∷ []) ∷ Take 0 ∷
    Now 120233 ∷ Send ∷ Deliver 0 (Late (pos 6)) ∷ Reply 0 ∷ Now 120333 ∷ Tick ∷ Send ∷ Reply 0 ∷
    Send ∷ [])
    ≡ codes "idle\nidle\nidle\nidle\nidle\nidle\nidle\nidle\nidle\nidle\nsent 0 0:0+1\n"
    ++ codes "answer 0 0:6@-1\nreport 0 0 0 unknown\nidle\nstale 0\nidle\nlog 0 0 a\n"
    ++ codes "audit 0 0 0 1\n"
unfolding evaluated
code_6_rejects_1 = refl

pub code_6_rejects_2 :
    told (record default_config { batch_size = 77; linger_ms = 1000; request_timeout_ms = 100; retry_backoff_ms = 10; sequence_limit = 3 }) 2 1 (
    Take 0 ∷ Accept 0 1 (97 ∷ []) ∷ Accept 0 0 (98 ∷ []) ∷ Take 0 ∷ Accept 0 0 (99 ∷ []) ∷
    Take 0 ∷ Now 1 ∷ Send ∷ Now 1000 ∷ Send ∷ Deliver 0 (Late (pos 6)) ∷ Reply 0 ∷ Reply 0 ∷
    Reply 0 ∷ Send ∷ Send ∷ Tick ∷ Accept 0 0 (92 ∷ 100 ∷ []) ∷ Take 0 ∷
    Deliver 0 (Late (pos 5)) ∷ Now 121000 ∷ Now 121010 ∷ Accept 0 1 (101 ∷ []) ∷ Take 0 ∷ Send ∷
    Deliver 1 Judged ∷ Reply 2 ∷ Accept 0 1 (102 ∷ []) ∷ Accept 0 1 (103 ∷ []) ∷ Take 0 ∷ [])
    ≡ codes "empty 0\nidle\nsent 0 0:0+1 1:0+1\nanswer 0 0:6@-1 1:6@-1\nstale 0\nstale 0\nidle\n"
    ++ codes "idle\nanswer 1 0:5@-1 1:5@-1\nsent 1 0:0+1 1:0+1\nanswer 2 0:0@0 1:0@0\n"
    ++ codes "report 0 0 0 delivered 0\nreport 0 1 0 delivered 0\nlog 0 0 b\nlog 1 0 a\n"
    ++ codes "audit 0 0 0 1\naudit 1 0 0 1\n"
unfolding evaluated
code_6_rejects_2 = refl

-- Wrong: code 20 rejects a batch.
pub code_20_rejects_1 :
    told (record default_config { batch_size = 150; request_timeout_ms = 100; delivery_timeout_ms = 100; retry_backoff_ms = 10; sequence_limit = 2 }) 1 1 (
    Take 0 ∷ Now 30000 ∷ Flush ∷ Flush ∷ Other 0 1 ∷ Send ∷ Now 30001 ∷ Send ∷
    Accept 0 0 (97 ∷ []) ∷ Take 0 ∷ Send ∷ Send ∷ Accept 0 0 (98 ∷ []) ∷ Take 0 ∷ Now 30101 ∷
    Deliver 0 (Refused (pos 20)) ∷ Reply 0 ∷ Send ∷ Send ∷ Deliver 0 Judged ∷
    Accept 0 0 (99 ∷ []) ∷ Take 0 ∷ Accept 0 0 (100 ∷ []) ∷ Other 0 2 ∷ Send ∷ Send ∷ Now 30111 ∷
    Send ∷ Deliver 1 Judged ∷ [])
    ≡ codes "empty 0\nflushed\nflushed\nidle\nidle\nsent 0 0:0+1\nidle\nanswer 0 0:20@-1\nidle\n"
    ++ codes "idle\nanswer 1 0:0@1\nidle\nidle\nsent 1 0:0+1\nanswer 2 0:0@1\nother 0 0\n"
    ++ codes "log 0 1 a\nother 0 2\nother 0 3\naudit 0 0 0 1\n"
unfolding evaluated
code_20_rejects_1 = refl

pub code_20_rejects_2 :
    told (record default_config { batch_size = 150; linger_ms = 5; retry_backoff_ms = 10; max_in_flight_requests_per_connection = 2 }) 2 2 (
    Accept 1 0 (97 ∷ []) ∷ Take 1 ∷ Now 5 ∷ Send ∷ Accept 0 1 (98 ∷ []) ∷ Take 0 ∷
    Deliver 0 (Late (pos 20)) ∷ Reply 0 ∷ Reply 0 ∷ Send ∷ Now 10 ∷ Send ∷ Deliver 1 Judged ∷
    Reply 1 ∷ Accept 1 0 (99 ∷ []) ∷ Send ∷ Now 14 ∷ Tick ∷ Send ∷ Now 15 ∷ Send ∷
    Accept 0 0 (100 ∷ []) ∷ Take 0 ∷ Deliver 0 Judged ∷ Now 20 ∷ Send ∷ Deliver 2 Judged ∷
    Deliver 2 (Late (pos 99)) ∷ Tick ∷ [])
    ≡ codes "sent 0 0:0+1\nanswer 0 0:20@-1\nstale 0\nidle\nsent 1 1:0+1\nanswer 1 1:0@0\n"
    ++ codes "report 0 1 0 delivered 0\nidle\nidle\nsent 2 0:0+1\nanswer 2 0:0@0\nidle\n"
    ++ codes "answer 3 0:0@0\nanswer 4 0:99@-1\nlog 0 0 a\nlog 1 0 b\naudit 0 1 0 1\n"
    ++ codes "audit 1 0 0 1\n"
unfolding evaluated
code_20_rejects_2 = refl

-- Wrong: of the batches that wait, the highest goes first.
pub highest_waiting_goes_first_1 :
    told (record default_config { batch_size = 0; delivery_timeout_ms = 30000; retry_backoff_ms = 10; max_in_flight_requests_per_connection = 2 }) 1 3 (
    Flush ∷ Send ∷ Send ∷ Now 64 ∷ Send ∷ Now 63 ∷ Accept 2 0 (97 ∷ []) ∷ Take 2 ∷
    Accept 0 0 (98 ∷ []) ∷ Take 0 ∷ Send ∷ Accept 1 0 (99 ∷ []) ∷ Take 1 ∷ Deliver 0 Judged ∷
    Reply 0 ∷ Tick ∷ Take 1 ∷ Now 126 ∷ Tick ∷ Send ∷ Send ∷ Deliver 2 Judged ∷ Drop ∷
    Deliver 0 (Late (pos 2)) ∷ Take 2 ∷ Send ∷ Reply 1 ∷ Send ∷ Now 30064 ∷ Send ∷
    Deliver 3 Judged ∷ Reply 3 ∷ [])
    ≡ codes "flushed\nidle\nidle\nidle\nsent 0 0:0+1\nanswer 0 0:0@0\nreport 2 0 0 delivered 0\n"
    ++ codes "empty 1\nsent 1 0:1+1\nsent 2 0:2+1\nanswer 1 0:45@-1\nanswer 2 0:2@-1\nempty 2\n"
    ++ codes "idle\nstale 1\nidle\nsent 3 0:1+1\nanswer 3 0:0@1\nreport 0 0 0 delivered 1\n"
    ++ codes "log 0 0 a\nlog 0 1 b\naudit 0 2 0 1\naudit 0 0 0 1\naudit 0 1 0 1\n"
unfolding evaluated
highest_waiting_goes_first_1 = refl

pub highest_waiting_goes_first_2 :
    told (record default_config { batch_size = 150; request_timeout_ms = 100; delivery_timeout_ms = 110; retry_backoff_ms = 0; max_in_flight_requests_per_connection = 3 }) 2 2 (
    Send ∷ Now 30000 ∷ Send ∷ Accept 0 0 (97 ∷ []) ∷ Take 0 ∷ Now 30109 ∷ Send ∷
    Deliver 0 Judged ∷ Deliver 0 (Late (pos 45)) ∷ Accept 1 0 (98 ∷ []) ∷ Now 30110 ∷ Reply 0 ∷
    Accept 1 0 (99 ∷ []) ∷ Take 1 ∷ Send ∷ Flush ∷ Flush ∷ Accept 1 0 (100 ∷ []) ∷ Take 1 ∷
    Now 30209 ∷ Send ∷ Deliver 0 (Refused (pos 99)) ∷ Accept 1 1 (101 ∷ []) ∷ Take 1 ∷ Close ∷
    Accept 0 0 (102 ∷ 65 ∷ 33 ∷ 65 ∷ 33 ∷ 33 ∷ 126 ∷ 126 ∷ 33 ∷ 126 ∷ 65 ∷ 126 ∷ 65 ∷ 126 ∷ 65 ∷ 65 ∷ 65 ∷ 33 ∷ 65 ∷ 65 ∷ 126 ∷ 126 ∷ 126 ∷ 33 ∷ 126 ∷ 126 ∷ 65 ∷ 33 ∷ 33 ∷ 33 ∷ 65 ∷ []) ∷
    Take 0 ∷ Deliver 2 Judged ∷ Drop ∷ Send ∷ Reply 2 ∷ Now 30309 ∷ Deliver 3 Judged ∷ Reply 4 ∷
    [])
    ≡ codes "idle\nidle\nsent 0 0:0+1\nanswer 0 0:0@0\nanswer 1 0:45@-1\n"
    ++ codes "report 0 0 0 delivered 0\nsent 1 0:1+1\nflushing\nflushing\nsent 2 0:2+1\n"
    ++ codes "answer 2 0:99@-1\nclosed 0 0\nempty 0\nanswer 3 0:45@-1\nsent 3 0:1+1\nstale 2\n"
    ++ codes "answer 4 0:0@1\nreport 1 0 0 delivered 1\nflushed\nlog 0 0 a\nlog 0 1 b\n"
    ++ codes "audit 0 0 0 1\naudit 0 1 0 2\n"
unfolding evaluated
highest_waiting_goes_first_2 = refl

-- Wrong: of the batches that wait, the one whose backoff ends first goes first.
pub first_rested_goes_first_1 :
    told (record default_config { batch_size = 69; linger_ms = 1000; max_request_size = 150; request_timeout_ms = 100; delivery_timeout_ms = 1110; retry_backoff_ms = 0; max_in_flight_requests_per_connection = 2 }) 1 3 (
    Send ∷ Take 0 ∷ Accept 1 0 (97 ∷ []) ∷ Take 1 ∷ Send ∷ Deliver 0 Judged ∷ Reply 0 ∷ Send ∷
    Now 1 ∷ Now 11 ∷ Other 0 1 ∷ Accept 2 0 (98 ∷ []) ∷ Take 2 ∷ Accept 1 0 (99 ∷ []) ∷ Take 1 ∷
    Send ∷ Send ∷ Accept 2 0 (100 ∷ 65 ∷ 126 ∷ 126 ∷ []) ∷ Now 112 ∷ Send ∷ Deliver 2 Judged ∷
    Reply 1 ∷ Take 2 ∷ Accept 1 0 (101 ∷ []) ∷ Take 1 ∷ Reply 1 ∷ Send ∷ Deliver 3 Judged ∷
    Reply 2 ∷ Deliver 1 Judged ∷ Deliver 3 Judged ∷ Now 1011 ∷ Tick ∷ Accept 2 0 (102 ∷ []) ∷
    Take 2 ∷ Send ∷ Deliver 4 Judged ∷ Accept 0 0 (103 ∷ []) ∷ Take 0 ∷ [])
    ≡ codes "idle\nempty 0\nsent 0 0:0+1\nanswer 0 0:0@0\nreport 1 0 0 delivered 0\nidle\n"
    ++ codes "sent 1 0:1+1\nsent 2 0:2+1\nidle\nanswer 1 0:45@-1\nstale 1\nsent 3 0:2+1\n"
    ++ codes "answer 2 0:45@-1\nanswer 3 0:0@2\nanswer 4 0:0@3\nreconnect\nsent 4 0:1+1\n"
    ++ codes "answer 5 0:0@2\nlog 0 0 a\nother 0 1\nlog 0 2 b\nlog 0 3 c\naudit 0 1 0 1\n"
    ++ codes "audit 0 2 0 1\naudit 0 1 1 1\n"
unfolding evaluated
first_rested_goes_first_1 = refl

pub first_rested_goes_first_2 :
    told (record default_config { batch_size = 69; linger_ms = 5; request_timeout_ms = 100; delivery_timeout_ms = 115; retry_backoff_ms = 0; max_in_flight_requests_per_connection = 3 }) 2 2 (
    Accept 0 1 (97 ∷ []) ∷ Take 0 ∷ Now 6 ∷ Accept 0 0 (98 ∷ []) ∷ Take 0 ∷
    Accept 1 0 (99 ∷ []) ∷ Take 1 ∷ Now 7 ∷ Accept 0 1 (100 ∷ []) ∷ Take 0 ∷ Now 11 ∷
    Accept 1 0 (101 ∷ []) ∷ Take 1 ∷ Accept 1 1 (102 ∷ []) ∷ Take 1 ∷ Accept 1 1 (103 ∷ []) ∷
    Take 1 ∷ Send ∷ Deliver 0 Judged ∷ Reply 0 ∷ Send ∷ Deliver 1 Judged ∷ Reply 1 ∷ Send ∷
    Accept 1 0 (104 ∷ 65 ∷ []) ∷ Take 1 ∷ Send ∷ Send ∷ Accept 1 0 (105 ∷ []) ∷ Take 1 ∷ Send ∷
    Deliver 4 Judged ∷ Reply 2 ∷ Now 111 ∷ Tick ∷ Send ∷ Accept 1 1 (106 ∷ []) ∷ Take 1 ∷ [])
    ≡ codes "sent 0 0:0+1 1:0+1\nanswer 0 0:0@0 1:0@0\nreport 0 0 0 delivered 0\n"
    ++ codes "report 0 1 0 delivered 0\nsent 1 0:1+1 1:1+1\nanswer 1 0:0@1 1:0@1\n"
    ++ codes "report 0 1 1 delivered 1\nreport 1 0 0 delivered 1\nsent 2 0:2+1 1:2+1\n"
    ++ codes "sent 3 0:3+1 1:3+1\nidle\nsent 4 0:4+1\nanswer 2 0:45@-1\nreconnect\n"
    ++ codes "sent 5 1:2+1 0:2+1\nlog 0 0 b\nlog 0 1 c\nlog 1 0 a\nlog 1 1 d\naudit 0 0 0 1\n"
    ++ codes "audit 0 1 0 4\naudit 1 0 0 2\naudit 1 1 0 2\n"
unfolding evaluated
first_rested_goes_first_2 = refl

-- Wrong: a new batch goes out while its partition's lowest waiting batch backs off.
pub new_batch_passes_a_backoff_1 :
    told (record default_config { batch_size = 0; max_request_size = 130; request_timeout_ms = 20; retry_backoff_ms = 10; max_in_flight_requests_per_connection = 2 }) 2 3 (
    Accept 0 0 (97 ∷ []) ∷ Take 0 ∷ Accept 0 0 (98 ∷ []) ∷ Take 0 ∷ Accept 2 1 (99 ∷ []) ∷
    Take 2 ∷ Send ∷ Deliver 0 Judged ∷ Reply 0 ∷ Send ∷ Deliver 1 (Refused (pos 3)) ∷ Reply 1 ∷
    Send ∷ Accept 2 1 (100 ∷ []) ∷ Take 2 ∷ Send ∷ Take 0 ∷ Deliver 2 (Late (pos 7)) ∷ Send ∷
    Now 8192 ∷ Tick ∷ Reply 1 ∷ Accept 2 0 (101 ∷ []) ∷ Take 2 ∷ Accept 0 1 (102 ∷ []) ∷ Take 0 ∷
    Send ∷ Send ∷ Send ∷ Take 2 ∷ [])
    ≡ codes "sent 0 0:0+1\nanswer 0 0:0@0\nreport 0 0 0 delivered 0\nsent 1 1:0+1\n"
    ++ codes "answer 1 1:3@-1\nsent 2 0:1+1\nidle\nempty 0\nanswer 2 0:7@-1\nidle\nreconnect\n"
    ++ codes "stale 1\nsent 3 1:0+1\nidle\nidle\nempty 2\nlog 0 0 a\nlog 0 1 b\naudit 0 0 0 2\n"
    ++ codes "audit 1 2 0 1\n"
unfolding evaluated
new_batch_passes_a_backoff_1 = refl

pub new_batch_passes_a_backoff_2 :
    told (record default_config { batch_size = 0; buffer_memory = 210; request_timeout_ms = 20; retry_backoff_ms = 10 }) 1 1 (
    Accept 0 0 (97 ∷ []) ∷ Take 0 ∷ Accept 0 0 (98 ∷ 126 ∷ 33 ∷ []) ∷ Take 0 ∷
    Accept 0 0 (99 ∷ []) ∷ Take 0 ∷ Accept 0 0 (100 ∷ []) ∷ Take 0 ∷ Send ∷ Deliver 0 Judged ∷
    Reply 0 ∷ Accept 0 0 (101 ∷ []) ∷ Take 0 ∷ Reply 0 ∷ Reply 0 ∷ Reply 0 ∷ Send ∷ Now 20 ∷
    Reply 0 ∷ Reply 0 ∷ Send ∷ Deliver 2 Judged ∷ Reply 1 ∷ Accept 0 0 (102 ∷ []) ∷ Take 0 ∷
    Reply 0 ∷ Accept 0 0 (103 ∷ []) ∷ Take 0 ∷ Send ∷ Deliver 1 Judged ∷ Reply 2 ∷
    Deliver 2 (Refused (pos 45)) ∷ [])
    ≡ codes "full 0\nsent 0 0:0+1\nanswer 0 0:0@0\nreport 0 0 0 delivered 0\nstale 0\nstale 0\n"
    ++ codes "stale 0\nsent 1 0:1+1\nstale 0\nstale 0\nsent 2 0:2+1\nanswer 1 0:45@-1\nfull 0\n"
    ++ codes "stale 0\nfull 0\nidle\nanswer 2 0:0@1\nreport 0 0 1 delivered 1\nanswer 3 0:45@-1\n"
    ++ codes "log 0 0 a\nlog 0 1 b~!\naudit 0 0 0 3\n"
unfolding evaluated
new_batch_passes_a_backoff_2 = refl

-- Wrong: a lost connection begins the backoff of batches anew that waited already.
pub drop_begins_all_backoffs_anew_1 :
    told (record default_config { batch_size = 150; max_request_size = 210; request_timeout_ms = 100; retry_backoff_ms = 10; max_in_flight_requests_per_connection = 1 }) 3 1 (
    Send ∷ Now 64 ∷ Send ∷ Send ∷ Take 0 ∷ Now 73 ∷ Tick ∷ Send ∷ Send ∷ Send ∷
    Accept 0 1 (97 ∷ []) ∷ Take 0 ∷ Accept 0 2 (98 ∷ []) ∷ Take 0 ∷ Accept 0 2 (99 ∷ []) ∷
    Take 0 ∷ Send ∷ Deliver 0 Judged ∷ Other 0 2 ∷ Now 173 ∷ Tick ∷ Now 183 ∷ Drop ∷ Drop ∷
    Send ∷ Deliver 1 Judged ∷ Accept 0 1 (100 ∷ 33 ∷ []) ∷ Take 0 ∷ Send ∷
    Accept 0 0 (101 ∷ 65 ∷ []) ∷ Take 0 ∷ [])
    ≡ codes "idle\nidle\nidle\nempty 0\nidle\nidle\nidle\nsent 0 1:0+1 2:0+2\n"
    ++ codes "answer 0 1:0@0 2:0@0\nreconnect\nsent 1 1:0+1 2:0+2\nanswer 1 1:0@0 2:0@0\nidle\n"
    ++ codes "other 0 0\nother 0 1\nlog 1 0 a\nlog 2 0 b\nlog 2 1 c\naudit 1 0 0 1\n"
    ++ codes "audit 2 0 0 2\n"
unfolding evaluated
drop_begins_all_backoffs_anew_1 = refl

pub drop_begins_all_backoffs_anew_2 :
    told (record default_config { batch_size = 0; linger_ms = 5; delivery_timeout_ms = 30055; retry_backoff_ms = 10; max_in_flight_requests_per_connection = 3 }) 3 2 (
    Accept 1 0 (97 ∷ []) ∷ Take 1 ∷ Accept 1 0 (98 ∷ []) ∷ Take 1 ∷ Accept 0 2 (99 ∷ []) ∷
    Take 0 ∷ Accept 1 2 (100 ∷ []) ∷ Take 1 ∷ Now 63 ∷ Send ∷ Deliver 0 (Refused (pos 6)) ∷
    Reply 0 ∷ Send ∷ Now 72 ∷ Send ∷ Send ∷ Accept 0 2 (101 ∷ []) ∷ Take 0 ∷ Send ∷
    Accept 1 2 (102 ∷ []) ∷ Take 1 ∷ Send ∷ Drop ∷ Take 1 ∷ Now 73 ∷ Accept 0 2 (103 ∷ []) ∷
    Tick ∷ Send ∷ Deliver 1 Judged ∷ Reply 1 ∷ Now 30056 ∷ Flush ∷ [])
    ≡ codes "sent 0 0:0+1 2:0+1\nanswer 0 0:6@-1 2:6@-1\nidle\nidle\nidle\nidle\nidle\nempty 1\n"
    ++ codes "sent 1 0:0+1 2:0+1\nanswer 1 0:0@0 2:0@0\nreport 0 2 0 delivered 0\n"
    ++ codes "report 1 0 0 delivered 0\nflushing\nlog 0 0 a\nlog 2 0 c\naudit 0 1 0 1\n"
    ++ codes "audit 2 0 0 1\n"
unfolding evaluated
drop_begins_all_backoffs_anew_2 = refl

-- Wrong: an acknowledgement ends the backoff of its partition's other batches.
pub acknowledgement_ends_backoffs_1 :
    told (record default_config { batch_size = 69; request_timeout_ms = 50; delivery_timeout_ms = 50; retry_backoff_ms = 10 }) 1 1 (
    Accept 0 0 (97 ∷ []) ∷ Take 0 ∷ Accept 0 0 (98 ∷ []) ∷ Take 0 ∷ Accept 0 0 (99 ∷ []) ∷
    Take 0 ∷ Accept 0 0 (100 ∷ []) ∷ Take 0 ∷ Accept 0 0 (101 ∷ []) ∷ Take 0 ∷ Send ∷ Send ∷
    Send ∷ Deliver 0 Judged ∷ Reply 0 ∷ Send ∷ Accept 0 0 (102 ∷ []) ∷ Take 0 ∷
    Accept 0 0 (103 ∷ []) ∷ Take 0 ∷ Accept 0 0 (104 ∷ []) ∷ Take 0 ∷ Send ∷ Deliver 2 Judged ∷
    Reply 1 ∷ Send ∷ Deliver 1 Judged ∷ Reply 2 ∷ Send ∷ Now 10 ∷ Send ∷ Reply 0 ∷ Reply 2 ∷
    Accept 0 0 (105 ∷ []) ∷ Take 0 ∷ [])
    ≡ codes "sent 0 0:0+1\nidle\nidle\nanswer 0 0:0@0\nreport 0 0 0 delivered 0\nsent 1 0:1+1\n"
    ++ codes "sent 2 0:2+1\nanswer 1 0:45@-1\nidle\nanswer 2 0:0@1\nreport 0 0 1 delivered 1\n"
    ++ codes "idle\nsent 3 0:2+1\nstale 0\nstale 2\nlog 0 0 a\nlog 0 1 b\naudit 0 0 0 3\n"
unfolding evaluated
acknowledgement_ends_backoffs_1 = refl

pub acknowledgement_ends_backoffs_2 :
    told (record default_config { batch_size = 69; linger_ms = 1000; buffer_memory = 400; max_request_size = 130 }) 1 1 (
    Accept 0 0 (97 ∷ []) ∷ Take 0 ∷ Other 0 1 ∷ Send ∷ Deliver 0 Judged ∷ Reply 0 ∷ Send ∷
    Now 8192 ∷ Send ∷
    Accept 0 0 (98 ∷ 65 ∷ 65 ∷ 65 ∷ 65 ∷ 126 ∷ 33 ∷ 33 ∷ 33 ∷ 65 ∷ 126 ∷ 33 ∷ 33 ∷ 126 ∷ 126 ∷ 33 ∷ 65 ∷ 33 ∷ 126 ∷ 126 ∷ 65 ∷ 65 ∷ 33 ∷ 33 ∷ 126 ∷ 65 ∷ 65 ∷ 126 ∷ 65 ∷ 65 ∷ 33 ∷ 65 ∷ 126 ∷ 33 ∷ 33 ∷ 65 ∷ 33 ∷ 126 ∷ 65 ∷ 65 ∷ 126 ∷ []) ∷
    Take 0 ∷ Take 0 ∷ Accept 0 0 (99 ∷ []) ∷ Take 0 ∷ Deliver 0 Judged ∷ Send ∷ Send ∷ Send ∷
    Deliver 2 Judged ∷ Reply 2 ∷ Accept 0 0 (100 ∷ []) ∷ Take 0 ∷ Accept 0 0 (101 ∷ []) ∷
    Take 0 ∷ Reply 0 ∷ Send ∷ Deliver 1 Judged ∷ Send ∷ Deliver 1 Judged ∷ Reply 4 ∷ Take 0 ∷
    Send ∷ Accept 0 0 (102 ∷ []) ∷ Take 0 ∷ Send ∷ [])
    ≡ codes "sent 0 0:0+1\nanswer 0 0:0@1\nreport 0 0 0 delivered 1\nidle\nidle\nempty 0\n"
    ++ codes "answer 1 0:0@1\nsent 1 0:1+1\nsent 2 0:2+1\nidle\nanswer 2 0:45@-1\nstale 0\nidle\n"
    ++ codes "answer 3 0:0@2\nidle\nanswer 4 0:0@2\nreport 0 0 1 delivered 2\nempty 0\nidle\n"
    ++ codes "idle\nother 0 0\nlog 0 1 a\nlog 0 2 bAAAA~!!!A~!!~~!A!~~AA!!~AA~AA!A~!!A!~AA~\n"
    ++ codes "audit 0 0 0 3\n"
unfolding evaluated
acknowledgement_ends_backoffs_2 = refl

-- Wrong: after a close, a batch that waits goes before its backoff is over.
pub close_ends_backoffs_1 :
    told (record default_config { batch_size = 0; request_timeout_ms = 50; delivery_timeout_ms = 170; retry_backoff_ms = 10; max_in_flight_requests_per_connection = 2 }) 2 3 (
    Send ∷ Accept 2 1 (97 ∷ []) ∷ Take 2 ∷ Other 0 0 ∷ Send ∷ Deliver 0 Judged ∷ Reply 0 ∷
    Reply 0 ∷ Send ∷ Now 63 ∷ Send ∷ Send ∷ Accept 1 0 (98 ∷ []) ∷ Take 1 ∷ Close ∷ Reply 0 ∷
    Accept 0 0 (99 ∷ []) ∷ Take 0 ∷ Send ∷ Drop ∷ Send ∷ Now 73 ∷ Send ∷ Deliver 2 Judged ∷
    Reply 1 ∷ Deliver 1 Judged ∷ Now 137 ∷ Now 30137 ∷ Send ∷ Now 30142 ∷ Send ∷ [])
    ≡ codes "idle\nsent 0 1:0+1\nanswer 0 1:0@0\nreport 2 1 0 delivered 0\nstale 0\nidle\nidle\n"
    ++ codes "idle\nstale 0\nclosed 0 0\nempty 0\nsent 1 0:0+1\nidle\nsent 2 0:0+1\n"
    ++ codes "answer 1 0:0@0\nreport 1 0 0 delivered 0\nanswer 2 0:0@0\nidle\nidle\nlog 0 0 b\n"
    ++ codes "log 1 0 a\naudit 0 1 0 1\naudit 1 2 0 1\n"
unfolding evaluated
close_ends_backoffs_1 = refl

pub close_ends_backoffs_2 :
    told (record default_config { batch_size = 77; linger_ms = 1000; buffer_memory = 210; request_timeout_ms = 20; sequence_limit = 3 }) 2 3 (
    Accept 2 0 (97 ∷ []) ∷ Take 2 ∷ Accept 0 0 (98 ∷ []) ∷ Flush ∷ Send ∷ Send ∷
    Accept 0 1 (99 ∷ 126 ∷ 65 ∷ []) ∷ Take 0 ∷ Accept 0 0 (100 ∷ []) ∷ Take 0 ∷
    Deliver 0 (Refused (pos 19)) ∷ Reply 0 ∷ Accept 1 0 (101 ∷ []) ∷ Take 1 ∷ Take 0 ∷ Flush ∷
    Send ∷ Take 0 ∷ Close ∷ Send ∷ Accept 2 0 (102 ∷ []) ∷ Take 2 ∷ Take 2 ∷ Send ∷
    Deliver 1 Judged ∷ Reply 1 ∷ Deliver 1 Judged ∷ Deliver 0 (Late (pos 10)) ∷ [])
    ≡ codes "flushing\nsent 0 0:0+1\nidle\nanswer 0 0:19@-1\nfull 1\nfull 0\nflushing\n"
    ++ codes "sent 1 1:0+1\nfull 0\nidle\nclosed 2 0\nempty 2\nempty 2\nidle\nanswer 1 1:0@0\n"
    ++ codes "report 0 1 0 delivered 0\nanswer 2 1:0@0\nanswer 3 0:10@-1\nlog 0 0 a\nlog 1 0 c~A\n"
    ++ codes "audit 0 2 0 1\naudit 1 0 0 1\n"
unfolding evaluated
close_ends_backoffs_2 = refl

-- Wrong: a request that timed out is dropped alone.
pub timeout_drops_late_requests_only_1 :
    told (record default_config { batch_size = 69; request_timeout_ms = 50; delivery_timeout_ms = 100; retry_backoff_ms = 10 }) 2 1 (
    Send ∷ Tick ∷ Send ∷ Now 63 ∷ Send ∷ Accept 0 1 (97 ∷ []) ∷ Take 0 ∷ Send ∷ Now 114 ∷
    Accept 0 0 (98 ∷ []) ∷ Take 0 ∷ Send ∷ Accept 0 0 (99 ∷ []) ∷ Take 0 ∷ Deliver 1 Judged ∷
    Now 163 ∷ Tick ∷ Send ∷ Accept 0 1 (100 ∷ []) ∷ Take 0 ∷ Send ∷ Now 173 ∷ Send ∷
    Deliver 2 Judged ∷ Reply 0 ∷ Reply 1 ∷ Accept 0 0 (101 ∷ []) ∷ Take 0 ∷ Send ∷
    Deliver 3 Judged ∷ Reply 1 ∷ [])
    ≡ codes "idle\nidle\nidle\nsent 0 1:0+1\nsent 1 0:0+1\nanswer 0 0:0@0\nreconnect\n"
    ++ codes "report 0 1 0 unknown\nidle\nreport 0 1 1 fenced\nidle\nsent 2 0:0+1\n"
    ++ codes "answer 1 0:0@0\nstale 0\nreport 0 0 0 delivered 0\nsent 3 0:1+1\nanswer 2 0:0@1\n"
    ++ codes "stale 1\nlog 0 0 b\nlog 0 1 c\naudit 0 0 0 2\naudit 1 0 0 1\n"
unfolding evaluated
timeout_drops_late_requests_only_1 = refl

pub timeout_drops_late_requests_only_2 :
    told (record default_config { batch_size = 150; linger_ms = 5; buffer_memory = 210; request_timeout_ms = 20; retry_backoff_ms = 10; max_in_flight_requests_per_connection = 2; sequence_limit = 3 }) 2 2 (
    Send ∷ Accept 0 1 (97 ∷ []) ∷ Send ∷ Send ∷ Now 8192 ∷ Send ∷ Accept 0 0 (98 ∷ []) ∷ Take 0 ∷
    Send ∷ Now 8212 ∷ Accept 0 1 (99 ∷ []) ∷ Take 0 ∷ Accept 0 0 (100 ∷ []) ∷ Take 0 ∷ Now 8217 ∷
    Take 0 ∷ Accept 0 1 (101 ∷ []) ∷ Accept 0 0 (102 ∷ []) ∷ Take 0 ∷ Send ∷ Deliver 1 Judged ∷
    Tick ∷ Accept 0 0 (92 ∷ 103 ∷ []) ∷ Take 0 ∷ Now 8227 ∷ Reply 0 ∷ Send ∷ Deliver 2 Judged ∷
    Reply 1 ∷ Send ∷ Deliver 3 Judged ∷ Accept 0 1 (104 ∷ []) ∷ Take 0 ∷ [])
    ≡ codes "idle\nidle\nidle\nidle\nsent 0 1:0+1\nfull 0\nfull 0\nsent 1 0:0+1\nanswer 0 0:0@0\n"
    ++ codes "reconnect\nfull 0\nstale 0\nsent 2 1:0+1 0:0+1\nanswer 1 1:0@0 0:0@0\n"
    ++ codes "report 0 1 0 delivered 0\nreport 0 0 0 delivered 0\nsent 3 1:1+1\nanswer 2 1:0@1\n"
    ++ codes "log 0 0 b\nlog 1 0 a\nlog 1 1 c\naudit 0 0 0 1\naudit 1 0 0 2\n"
unfolding evaluated
timeout_drops_late_requests_only_2 = refl
