-- Schedules that tell the rules of fresh producer ids from wrong ones, with the lines that
-- bench/simulate gives them. A fact is named for the wrong rule that it refuses.
use Rattle.std.proofs.Common.{◌≡◌, pos, [], ◌∷◌, ◌++◌, refl}
use Rattle.std.specs.Prelude.{codes}
use Rattle.kp_accum.specs.Config.{default_config}
use Rattle.kp_world.specs.declared.event.Event.TheVariants.{Accept, Take, Now, Tick, Send, Deliver, Reply, Drop, Other, Close, End, Flush}
use Rattle.kp_world.specs.declared.event.Treatment.TheVariants.{Judged, Refused, Late}
use Rattle.kp_world.proofs.Evaluation.{evaluated}
use Rattle.kp_world.proofs.Schedules.{told}

-- Wrong: a request for an id makes its partition the last used.
pub id_request_moves_the_last_used_1 :
    told (record default_config { batch_size = 77; request_timeout_ms = 50; delivery_timeout_ms = 170; retry_backoff_ms = 10; max_in_flight_requests_per_connection = 3; sequence_limit = 2 }) 2 1 (
    Accept 0 1 (97 ∷ []) ∷ Take 0 ∷ Now 30000 ∷ Accept 0 0 (98 ∷ []) ∷ Take 0 ∷
    Accept 0 0 (99 ∷ []) ∷ Take 0 ∷ Accept 0 0 (100 ∷ []) ∷ Take 0 ∷ Now 30170 ∷
    Accept 0 0 (101 ∷ []) ∷ Take 0 ∷ Accept 0 1 (102 ∷ []) ∷ Take 0 ∷ Send ∷ Deliver 0 Judged ∷
    Deliver 0 Judged ∷ Reply 0 ∷ Send ∷ Deliver 1 Judged ∷ Reply 2 ∷ Send ∷
    Accept 0 0 (103 ∷ []) ∷ Take 0 ∷ Send ∷ Accept 0 1 (104 ∷ []) ∷ Take 0 ∷ Now 30165 ∷ Tick ∷
    [])
    ≡ codes "sent 0 0:0+2 1:0+1\nanswer 0 0:0@0 1:0@0\nanswer 1 0:0@0 1:0@0\n"
    ++ codes "report 0 0 0 delivered 0\nreport 0 0 1 delivered 1\nreport 0 1 0 delivered 0\n"
    ++ codes "sent 1 init\nanswer 2 init 0@1001\nsent 2 0:0+1 1:1+1\nidle\nlog 0 0 b\nlog 0 1 c\n"
    ++ codes "log 1 0 a\naudit 0 0 0 3\naudit 1 0 0 2\n"
unfolding evaluated
id_request_moves_the_last_used_1 = refl

pub id_request_moves_the_last_used_2 :
    told (record default_config { batch_size = 150; retry_backoff_ms = 0; max_in_flight_requests_per_connection = 3; sequence_limit = 1 }) 2 3 (
    Accept 0 1 (97 ∷ []) ∷ Take 0 ∷ Accept 2 0 (98 ∷ []) ∷ Take 2 ∷ Accept 2 1 (99 ∷ []) ∷
    Take 2 ∷ Send ∷ Send ∷ Deliver 0 Judged ∷ Reply 0 ∷ Send ∷ Deliver 1 Judged ∷ Reply 1 ∷
    Now 120000 ∷ Accept 1 1 (100 ∷ []) ∷ Take 1 ∷ Accept 2 0 (101 ∷ []) ∷ Take 2 ∷ Send ∷
    Deliver 2 Judged ∷ Reply 2 ∷ Accept 1 1 (102 ∷ []) ∷ Take 1 ∷ Accept 1 1 (103 ∷ []) ∷
    Take 1 ∷ Take 2 ∷ Send ∷ Deliver 3 Judged ∷ Reply 3 ∷ [])
    ≡ codes "sent 0 0:0+1 1:0+1\nidle\nanswer 0 0:0@0 1:0@0\nreport 0 1 0 delivered 0\n"
    ++ codes "report 2 0 0 delivered 0\nsent 1 init\nanswer 1 init 0@1001\nsent 2 init\n"
    ++ codes "answer 2 init 0@1002\nempty 2\nsent 3 0:0+1 1:0+1\nanswer 3 0:0@1 1:0@1\n"
    ++ codes "report 2 0 1 delivered 1\nreport 2 1 0 delivered 1\nlog 0 0 b\nlog 0 1 e\n"
    ++ codes "log 1 0 a\nlog 1 1 c\naudit 0 2 0 2\naudit 1 0 0 1\naudit 1 2 0 1\n"
unfolding evaluated
id_request_moves_the_last_used_2 = refl

-- Wrong: the highest partition that wants an id gets one first.
pub id_for_the_highest_partition_1 :
    told (record default_config { batch_size = 69; linger_ms = 1000; delivery_timeout_ms = 31010; max_in_flight_requests_per_connection = 2; sequence_limit = 1 }) 2 1 (
    Accept 0 0 (97 ∷ []) ∷ Take 0 ∷ Accept 0 0 (98 ∷ []) ∷ Take 0 ∷ Now 1000 ∷
    Accept 0 0 (99 ∷ []) ∷ Take 0 ∷ Accept 0 1 (100 ∷ []) ∷ Take 0 ∷ Accept 0 1 (101 ∷ []) ∷
    Take 0 ∷ Accept 0 1 (102 ∷ []) ∷ Take 0 ∷ Accept 0 1 (103 ∷ []) ∷ Take 0 ∷ Send ∷
    Deliver 0 Judged ∷ Reply 0 ∷ Send ∷ Deliver 1 (Late (pos 2)) ∷ Reply 1 ∷ Send ∷ Now 31000 ∷
    Send ∷ Deliver 2 Judged ∷ Reply 2 ∷ Send ∷ Accept 0 0 (104 ∷ []) ∷ Take 0 ∷ Send ∷ [])
    ≡ codes "sent 0 0:0+1 1:0+1\nanswer 0 0:0@0 1:0@0\nreport 0 0 0 delivered 0\n"
    ++ codes "report 0 1 0 delivered 0\nsent 1 init\nanswer 1 init 2@-1\nidle\nsent 2 init\n"
    ++ codes "answer 2 init 0@1002\nsent 3 init\nsent 4 0:0+1\nlog 0 0 a\nlog 1 0 d\n"
    ++ codes "audit 0 0 0 2\naudit 1 0 0 1\n"
unfolding evaluated
id_for_the_highest_partition_1 = refl

pub id_for_the_highest_partition_2 :
    told (record default_config { batch_size = 0; linger_ms = 1000; request_timeout_ms = 100; delivery_timeout_ms = 1110; retry_backoff_ms = 10; max_in_flight_requests_per_connection = 3; sequence_limit = 1 }) 2 1 (
    Accept 0 1 (97 ∷ []) ∷ Take 0 ∷ Accept 0 1 (98 ∷ []) ∷ Take 0 ∷ Accept 0 0 (99 ∷ []) ∷
    Take 0 ∷
    Accept 0 0 (100 ∷ 65 ∷ 126 ∷ 126 ∷ 126 ∷ 65 ∷ 65 ∷ 33 ∷ 65 ∷ 126 ∷ 65 ∷ 33 ∷ 126 ∷ 65 ∷ 65 ∷ 33 ∷ 126 ∷ 33 ∷ 126 ∷ 65 ∷ 33 ∷ 126 ∷ 33 ∷ 65 ∷ 33 ∷ 33 ∷ 65 ∷ 65 ∷ 65 ∷ 126 ∷ 126 ∷ 126 ∷ 33 ∷ []) ∷
    Take 0 ∷ Accept 0 0 (101 ∷ []) ∷ Take 0 ∷ Accept 0 0 (102 ∷ []) ∷ Take 0 ∷
    Accept 0 1 (103 ∷ []) ∷ Take 0 ∷ Send ∷ Deliver 0 Judged ∷ Reply 0 ∷ Send ∷
    Deliver 1 Judged ∷ Reply 1 ∷ Send ∷ Send ∷ Accept 0 1 (104 ∷ []) ∷ Take 0 ∷ Send ∷ Reply 0 ∷
    Send ∷ Reply 0 ∷ Reply 0 ∷ Now 100 ∷ Tick ∷ [])
    ≡ codes "sent 0 0:0+1 1:0+1\nanswer 0 0:0@0 1:0@0\nreport 0 0 0 delivered 0\n"
    ++ codes "report 0 1 0 delivered 0\nsent 1 init\nanswer 1 init 0@1001\nsent 2 init\n"
    ++ codes "sent 3 0:0+1\nidle\nstale 0\nidle\nstale 0\nstale 0\nreconnect\nlog 0 0 c\n"
    ++ codes "log 1 0 a\naudit 0 0 0 2\naudit 1 0 0 1\n"
unfolding evaluated
id_for_the_highest_partition_2 = refl

-- Wrong: a request for an id does not count for the window.
pub id_request_outside_the_window_1 :
    told (record default_config { batch_size = 0; buffer_memory = 207; delivery_timeout_ms = 30010; max_in_flight_requests_per_connection = 1; sequence_limit = 1 }) 3 2 (
    Accept 1 1 (97 ∷ []) ∷ Take 1 ∷
    Accept 0 1 (98 ∷ 126 ∷ 65 ∷ 126 ∷ 33 ∷ 126 ∷ 126 ∷ 126 ∷ 65 ∷ 65 ∷ 33 ∷ 65 ∷ 33 ∷ 65 ∷ 126 ∷ 126 ∷ 65 ∷ 33 ∷ 33 ∷ 33 ∷ 126 ∷ 65 ∷ 65 ∷ 126 ∷ 65 ∷ 126 ∷ 33 ∷ 33 ∷ 33 ∷ 33 ∷ 65 ∷ []) ∷
    Take 0 ∷ Accept 0 2 (99 ∷ []) ∷ Take 0 ∷ Now 30011 ∷ Accept 0 0 (100 ∷ []) ∷ Take 0 ∷
    Now 30012 ∷ Accept 0 0 (101 ∷ []) ∷ Take 0 ∷ Now 30112 ∷ Accept 1 1 (92 ∷ 102 ∷ []) ∷
    Take 1 ∷ Accept 0 1 (103 ∷ []) ∷ Take 0 ∷ Now 150112 ∷ Send ∷ Deliver 0 Judged ∷ Reply 0 ∷
    Send ∷ Send ∷ Accept 0 1 (104 ∷ []) ∷ Take 0 ∷ Send ∷ Now 158304 ∷ Reply 0 ∷ [])
    ≡ codes "full 0\nfull 0\nfull 0\nfull 1\nfull 0\nsent 0 1:0+1\nanswer 0 1:0@0\n"
    ++ codes "report 1 1 0 delivered 0\nsent 1 init\nidle\nidle\nstale 0\nlog 1 0 a\n"
    ++ codes "audit 1 1 0 1\n"
unfolding evaluated
id_request_outside_the_window_1 = refl

pub id_request_outside_the_window_2 :
    told (record default_config { batch_size = 0; request_timeout_ms = 20; retry_backoff_ms = 10; max_in_flight_requests_per_connection = 1; sequence_limit = 2 }) 3 1 (
    Accept 0 2 (97 ∷ []) ∷ Take 0 ∷
    Accept 0 2 (98 ∷ 126 ∷ 65 ∷ 65 ∷ 126 ∷ 33 ∷ 33 ∷ 33 ∷ 126 ∷ 33 ∷ 126 ∷ 126 ∷ 33 ∷ 33 ∷ 65 ∷ 126 ∷ 65 ∷ 33 ∷ 126 ∷ 126 ∷ 65 ∷ 65 ∷ 33 ∷ 33 ∷ 65 ∷ 33 ∷ 33 ∷ 126 ∷ 65 ∷ 65 ∷ 33 ∷ 126 ∷ 126 ∷ 126 ∷ 33 ∷ 126 ∷ 126 ∷ 33 ∷ 33 ∷ 126 ∷ 33 ∷ []) ∷
    Take 0 ∷ Accept 0 2 (99 ∷ []) ∷ Take 0 ∷ Now 8192 ∷ Accept 0 0 (100 ∷ []) ∷ Take 0 ∷ Send ∷
    Deliver 0 Judged ∷ Reply 0 ∷ Send ∷ Deliver 1 Judged ∷ Reply 1 ∷ Send ∷ Deliver 2 Judged ∷
    Send ∷ Accept 0 0 (101 ∷ []) ∷ Take 0 ∷ Send ∷ Now 8193 ∷ Take 0 ∷ Deliver 0 Judged ∷ Send ∷
    Deliver 2 Judged ∷ Reply 4 ∷ Accept 0 1 (102 ∷ []) ∷ Take 0 ∷ [])
    ≡ codes "sent 0 0:0+1 2:0+1\nanswer 0 0:0@0 2:0@0\nreport 0 0 0 delivered 0\n"
    ++ codes "report 0 2 0 delivered 0\nsent 1 2:1+1\nanswer 1 2:0@1\nreport 0 2 1 delivered 1\n"
    ++ codes "sent 2 init\nanswer 2 init 0@1001\nidle\nidle\nempty 0\nanswer 3 0:0@0 2:0@0\nidle\n"
    ++ codes "answer 4 init 0@1002\nlog 0 0 d\nlog 2 0 a\n"
    ++ codes "log 2 1 b~AA~!!!~!~~!!A~A!~~AA!!A!!~AA!~~~!~~!!~!\naudit 0 0 0 1\naudit 2 0 0 2\n"
unfolding evaluated
id_request_outside_the_window_2 = refl

-- Wrong: under a fresh id, the second batch does not wait for the first to be acknowledged.
pub second_batch_unconfirmed_under_a_fresh_id_1 :
    told (record default_config { batch_size = 0; request_timeout_ms = 20; retry_backoff_ms = 10; sequence_limit = 2 }) 1 3 (
    Take 0 ∷ Accept 0 0 (97 ∷ []) ∷ Take 0 ∷ Accept 2 0 (98 ∷ []) ∷ Take 2 ∷
    Accept 2 0 (99 ∷ []) ∷ Take 2 ∷ Send ∷ Deliver 0 Judged ∷ Accept 2 0 (100 ∷ []) ∷ Take 2 ∷
    Send ∷ Send ∷ Send ∷ Reply 0 ∷ Send ∷ Deliver 1 Judged ∷ Reply 1 ∷ Deliver 0 Judged ∷ Send ∷
    Send ∷ Deliver 2 Judged ∷ Reply 3 ∷ Reply 2 ∷ Send ∷ Send ∷ Reply 3 ∷ Send ∷
    Deliver 3 (Late (pos 7)) ∷ Reply 4 ∷ Reply 2 ∷ [])
    ≡ codes "empty 0\nsent 0 0:0+1\nanswer 0 0:0@0\nidle\nidle\nidle\nreport 0 0 0 delivered 0\n"
    ++ codes "sent 1 0:1+1\nanswer 1 0:0@1\nreport 2 0 0 delivered 1\nanswer 2 0:0@0\n"
    ++ codes "sent 2 init\nidle\nanswer 3 init 0@1001\nstale 2\nsent 3 0:0+1\nidle\nstale 3\n"
    ++ codes "idle\nanswer 4 0:7@-1\nstale 2\nlog 0 0 a\nlog 0 1 b\nlog 0 2 c\naudit 0 0 0 1\n"
    ++ codes "audit 0 2 0 2\n"
unfolding evaluated
second_batch_unconfirmed_under_a_fresh_id_1 = refl

pub second_batch_unconfirmed_under_a_fresh_id_2 :
    told (record default_config { batch_size = 0; linger_ms = 5; request_timeout_ms = 100; delivery_timeout_ms = 225; retry_backoff_ms = 10; max_in_flight_requests_per_connection = 3; sequence_limit = 3 }) 1 1 (
    Send ∷ Accept 0 0 (97 ∷ []) ∷ Take 0 ∷ Send ∷ Send ∷ Accept 0 0 (98 ∷ []) ∷ Take 0 ∷ Send ∷
    Deliver 0 Judged ∷ Reply 0 ∷ Send ∷ Deliver 1 Judged ∷ Reply 1 ∷ Accept 0 0 (99 ∷ []) ∷
    Take 0 ∷ Send ∷ Deliver 0 Judged ∷ Reply 1 ∷ Send ∷ Deliver 2 Judged ∷ Reply 3 ∷ Send ∷
    Now 8192 ∷ Accept 0 0 (100 ∷ []) ∷ Take 0 ∷ Send ∷ Deliver 3 Judged ∷ Reply 4 ∷ Send ∷
    Accept 0 0 (92 ∷ 101 ∷ []) ∷ Take 0 ∷ Send ∷ Deliver 4 Judged ∷ Reply 5 ∷ [])
    ≡ codes "idle\nsent 0 0:0+1\nidle\nidle\nanswer 0 0:0@0\nreport 0 0 0 delivered 0\n"
    ++ codes "sent 1 0:1+1\nanswer 1 0:0@1\nreport 0 0 1 delivered 1\nsent 2 0:2+1\n"
    ++ codes "answer 2 0:0@0\nstale 1\nidle\nanswer 3 0:0@2\nreport 0 0 2 delivered 2\nidle\n"
    ++ codes "sent 3 init\nanswer 4 init 0@1001\nsent 4 0:0+1\nidle\nanswer 5 0:0@3\n"
    ++ codes "report 0 0 3 delivered 3\nlog 0 0 a\nlog 0 1 b\nlog 0 2 c\nlog 0 3 d\n"
    ++ codes "audit 0 0 0 4\n"
unfolding evaluated
second_batch_unconfirmed_under_a_fresh_id_2 = refl

-- Wrong: a lost connection holds back requests for ids though none was in flight.
pub drop_always_holds_back_ids_1 :
    told (record default_config { batch_size = 0; request_timeout_ms = 50; retry_backoff_ms = 10; max_in_flight_requests_per_connection = 2; sequence_limit = 1 }) 2 1 (
    Accept 0 1 (97 ∷ []) ∷ Take 0 ∷ Send ∷ Accept 0 0 (98 ∷ []) ∷ Take 0 ∷ Now 10 ∷ Send ∷
    Accept 0 1 (99 ∷ []) ∷ Take 0 ∷ Now 9 ∷ Tick ∷ Send ∷ Deliver 1 Judged ∷ Reply 0 ∷ Tick ∷
    Drop ∷ Reply 0 ∷ Accept 0 0 (100 ∷ []) ∷ Send ∷ Send ∷ Send ∷ Accept 0 1 (101 ∷ []) ∷
    Take 0 ∷ Reply 0 ∷ Send ∷ Deliver 2 Judged ∷ Reply 1 ∷ Accept 0 1 (102 ∷ []) ∷ Take 0 ∷ [])
    ≡ codes "sent 0 1:0+1\nsent 1 0:0+1\nidle\nanswer 0 0:0@0\nreport 0 0 0 delivered 0\n"
    ++ codes "stale 0\nidle\nidle\nidle\nstale 0\nsent 2 init\nanswer 1 init 0@1001\nlog 0 0 b\n"
    ++ codes "audit 0 0 0 1\naudit 1 0 0 1\n"
unfolding evaluated
drop_always_holds_back_ids_1 = refl

pub drop_always_holds_back_ids_2 :
    told (record default_config { batch_size = 77; request_timeout_ms = 100; retry_backoff_ms = 10; max_in_flight_requests_per_connection = 2; sequence_limit = 2 }) 2 1 (
    Send ∷ Now 9 ∷ Send ∷ Accept 0 1 (97 ∷ []) ∷ Take 0 ∷ Take 0 ∷ Send ∷ Deliver 0 Judged ∷
    Reply 0 ∷ Accept 0 1 (98 ∷ 65 ∷ 126 ∷ []) ∷ Take 0 ∷ Send ∷ Deliver 1 Judged ∷
    Accept 0 0 (99 ∷ 33 ∷ []) ∷ Take 0 ∷ Reply 1 ∷ Send ∷ Send ∷ Accept 0 0 (100 ∷ []) ∷ Take 0 ∷
    Accept 0 1 (101 ∷ []) ∷ Take 0 ∷ Now 109 ∷ Tick ∷ Send ∷ Accept 0 1 (102 ∷ []) ∷ Take 0 ∷
    Other 0 0 ∷ Accept 0 0 (103 ∷ []) ∷ Take 0 ∷ Send ∷ Send ∷ Accept 0 1 (104 ∷ []) ∷ Take 0 ∷
    Send ∷ [])
    ≡ codes "idle\nidle\nempty 0\nsent 0 1:0+1\nanswer 0 1:0@0\nreport 0 1 0 delivered 0\n"
    ++ codes "sent 1 1:1+1\nanswer 1 1:0@1\nreport 0 1 1 delivered 1\nsent 2 0:0+1\nidle\n"
    ++ codes "reconnect\nsent 3 init\nidle\nidle\nidle\nlog 1 0 a\nlog 1 1 bA~\naudit 0 0 0 1\n"
    ++ codes "audit 1 0 0 2\n"
unfolding evaluated
drop_always_holds_back_ids_2 = refl

-- Wrong: an id that is given holds back the next request for one.
pub given_id_begins_a_backoff_1 :
    told (record default_config { batch_size = 0; linger_ms = 1000; request_timeout_ms = 20; retry_backoff_ms = 10; max_in_flight_requests_per_connection = 2; sequence_limit = 2 }) 3 1 (
    Accept 0 0 (97 ∷ []) ∷ Take 0 ∷ Accept 0 0 (98 ∷ []) ∷ Take 0 ∷ Accept 0 1 (99 ∷ []) ∷
    Take 0 ∷ Now 64 ∷ Accept 0 1 (100 ∷ []) ∷ Take 0 ∷ Now 128 ∷ Accept 0 0 (101 ∷ []) ∷ Take 0 ∷
    Send ∷ Deliver 0 Judged ∷ Reply 0 ∷ Send ∷ Deliver 1 Judged ∷ Reply 1 ∷ Send ∷
    Deliver 2 Judged ∷ Reply 2 ∷ Send ∷ Accept 0 1 (102 ∷ []) ∷ Take 0 ∷ Send ∷
    Accept 0 0 (103 ∷ []) ∷ Take 0 ∷ Accept 0 1 (104 ∷ []) ∷ Take 0 ∷ Reply 2 ∷ Now 147 ∷ [])
    ≡ codes "sent 0 0:0+1 1:0+1\nanswer 0 0:0@0 1:0@0\nreport 0 0 0 delivered 0\n"
    ++ codes "report 0 1 0 delivered 0\nsent 1 0:1+1 1:1+1\nanswer 1 0:0@1 1:0@1\n"
    ++ codes "report 0 0 1 delivered 1\nreport 0 1 1 delivered 1\nsent 2 init\n"
    ++ codes "answer 2 init 0@1001\nsent 3 0:0+1\nsent 4 init\nstale 2\nlog 0 0 a\nlog 0 1 b\n"
    ++ codes "log 1 0 c\nlog 1 1 d\naudit 0 0 0 3\naudit 1 0 0 2\n"
unfolding evaluated
given_id_begins_a_backoff_1 = refl

pub given_id_begins_a_backoff_2 :
    told (record default_config { batch_size = 0; delivery_timeout_ms = 30050; max_in_flight_requests_per_connection = 1; sequence_limit = 2 }) 2 3 (
    Accept 2 0 (97 ∷ 65 ∷ 65 ∷ 33 ∷ 65 ∷ 33 ∷ 65 ∷ 126 ∷ 126 ∷ 126 ∷ 126 ∷ 65 ∷ 65 ∷ 33 ∷ 33 ∷ 65 ∷ 65 ∷ 33 ∷ 33 ∷ 126 ∷ 65 ∷ 33 ∷ 33 ∷ 65 ∷ 33 ∷ 33 ∷ 126 ∷ 126 ∷ 65 ∷ 33 ∷ 126 ∷ 33 ∷ 126 ∷ 65 ∷ 65 ∷ 126 ∷ 65 ∷ 65 ∷ 33 ∷ 33 ∷ 33 ∷ []) ∷
    Take 2 ∷ Accept 0 0 (98 ∷ []) ∷ Take 0 ∷ Accept 2 1 (99 ∷ []) ∷ Take 2 ∷
    Accept 2 0 (100 ∷ []) ∷ Take 2 ∷ Now 30050 ∷ Accept 1 1 (101 ∷ []) ∷ Take 1 ∷ Now 150050 ∷
    Accept 1 1 (102 ∷ 65 ∷ []) ∷ Take 1 ∷ Now 158242 ∷ Send ∷ Deliver 0 Judged ∷ Reply 0 ∷ Send ∷
    Deliver 1 Judged ∷ Reply 1 ∷ Send ∷ Deliver 2 Judged ∷ Reply 2 ∷ Send ∷
    Accept 1 1 (103 ∷ []) ∷ Take 1 ∷ Send ∷ Accept 1 0 (104 ∷ []) ∷ Take 1 ∷ [])
    ≡ codes "sent 0 0:0+1 1:0+1\nanswer 0 0:0@0 1:0@0\nreport 2 0 0 delivered 0\n"
    ++ codes "report 2 1 0 delivered 0\nsent 1 0:1+1 1:1+1\nanswer 1 0:0@1 1:0@1\n"
    ++ codes "report 0 0 0 delivered 1\nreport 1 1 0 delivered 1\nsent 2 init\n"
    ++ codes "answer 2 init 0@1001\nsent 3 init\nidle\n"
    ++ codes "log 0 0 aAA!A!A~~~~AA!!AA!!~A!!A!!~~A!~!~AA~AA!!!\nlog 0 1 b\nlog 1 0 c\nlog 1 1 e\n"
    ++ codes "audit 0 2 0 1\naudit 0 0 0 1\naudit 1 2 0 1\naudit 1 1 0 1\n"
unfolding evaluated
given_id_begins_a_backoff_2 = refl

-- Wrong: an id that is given ends the backoff of an earlier refusal or loss.
pub given_id_ends_a_backoff :
    told (record default_config { batch_size = 0; sequence_limit = 1 }) 2 1 (
    Accept 0 0 (97 ∷ []) ∷ Accept 0 1 (98 ∷ []) ∷ Accept 0 0 (99 ∷ []) ∷ Accept 0 1 (100 ∷ []) ∷
    Take 0 ∷ Take 0 ∷ Take 0 ∷ Take 0 ∷ Send ∷ Deliver 0 Judged ∷ Reply 0 ∷ Now 100 ∷ Send ∷
    Drop ∷ Send ∷ Now 200 ∷ Send ∷ Now 150 ∷ Deliver 2 Judged ∷ Reply 1 ∷ Send ∷ Send ∷ Now 199 ∷
    Send ∷ Now 200 ∷ Send ∷ Deliver 4 Judged ∷ Deliver 3 Judged ∷ Reply 2 ∷ Reply 3 ∷ Send ∷ [])
    ≡ codes "sent 0 0:0+1 1:0+1\nanswer 0 0:0@0 1:0@0\nreport 0 0 0 delivered 0\n"
    ++ codes "report 0 1 0 delivered 0\nsent 1 init\nidle\nsent 2 init\nanswer 1 init 0@1001\n"
    ++ codes "sent 3 0:0+1\nidle\nidle\nsent 4 init\nanswer 2 init 0@1002\nanswer 3 0:0@1\n"
    ++ codes "report 0 0 1 delivered 1\nsent 5 1:0+1\nlog 0 0 a\nlog 0 1 c\nlog 1 0 b\n"
    ++ codes "audit 0 0 0 2\naudit 1 0 0 2\n"
unfolding evaluated
given_id_ends_a_backoff = refl

-- Wrong: an id may be asked for again as soon as one was refused.
pub refused_id_begins_no_backoff :
    told (record default_config { batch_size = 0; sequence_limit = 1 }) 2 1 (
    Accept 0 0 (97 ∷ []) ∷ Accept 0 1 (98 ∷ []) ∷ Accept 0 0 (99 ∷ []) ∷ Accept 0 1 (100 ∷ []) ∷
    Take 0 ∷ Take 0 ∷ Take 0 ∷ Take 0 ∷ Send ∷ Deliver 0 Judged ∷ Reply 0 ∷ Now 100 ∷ Send ∷
    Deliver 1 (Late (pos 7)) ∷ Reply 1 ∷ Now 50 ∷ Send ∷ Now 200 ∷ Send ∷ Now 20 ∷
    Deliver 2 (Refused (pos 45)) ∷ Reply 2 ∷ Send ∷ Now 120 ∷ Send ∷ Deliver 3 Judged ∷
    Deliver 1 Judged ∷ Reply 4 ∷ Reply 3 ∷ Send ∷ Send ∷ Drop ∷ Now 219 ∷ Send ∷ Now 220 ∷ Send ∷
    [])
    ≡ codes "sent 0 0:0+1 1:0+1\nanswer 0 0:0@0 1:0@0\nreport 0 0 0 delivered 0\n"
    ++ codes "report 0 1 0 delivered 0\nsent 1 init\nanswer 1 init 7@-1\nidle\nsent 2 init\n"
    ++ codes "answer 2 init 45@-1\nidle\nsent 3 init\nanswer 3 init 0@1002\nanswer 4 init 0@1003\n"
    ++ codes "stale 4\nsent 4 init\nsent 5 0:0+1\nidle\nsent 6 init\nlog 0 0 a\nlog 1 0 b\n"
    ++ codes "audit 0 0 0 2\naudit 1 0 0 1\n"
unfolding evaluated
refused_id_begins_no_backoff = refl

-- Wrong: an id is taken where nothing is open, wanted or not.
pub id_taken_unless_something_is_open :
    told (record default_config { batch_size = 77; request_timeout_ms = 100; delivery_timeout_ms = 100; sequence_limit = 3 }) 1 1 (
    Accept 0 0 (97 ∷ []) ∷ Accept 0 0 (98 ∷ []) ∷ Take 0 ∷ Take 0 ∷ Send ∷ Deliver 0 Judged ∷
    Reply 0 ∷ Now 1 ∷ Accept 0 0 (99 ∷ []) ∷ Accept 0 0 (100 ∷ []) ∷ Take 0 ∷ Take 0 ∷ Now 50 ∷
    Send ∷ Now 101 ∷ Tick ∷ Accept 0 0 (101 ∷ []) ∷ Take 0 ∷ Deliver 1 Judged ∷ Reply 1 ∷ Send ∷
    Deliver 2 Judged ∷ Reply 2 ∷ Accept 0 0 (102 ∷ []) ∷ Take 0 ∷ Send ∷
    Deliver 3 (Late (pos 7)) ∷ Deliver 3 Judged ∷ Reply 3 ∷ Send ∷ Reply 4 ∷ Send ∷
    Deliver 2 Judged ∷ Deliver 0 Judged ∷ [])
    ≡ codes "sent 0 0:0+2\nanswer 0 0:0@0\nreport 0 0 0 delivered 0\nreport 0 0 1 delivered 1\n"
    ++ codes "sent 1 init\nreport 0 0 2 expired\nreport 0 0 3 expired\nanswer 1 init 0@1001\n"
    ++ codes "sent 2 0:2+1\nanswer 2 0:0@2\nreport 0 0 4 delivered 2\nsent 3 init\n"
    ++ codes "answer 3 init 7@-1\nanswer 4 init 0@1003\nidle\nstale 4\nidle\nanswer 5 0:0@2\n"
    ++ codes "answer 6 0:0@0\nlog 0 0 a\nlog 0 1 b\nlog 0 2 e\naudit 0 0 0 2\naudit 0 0 4 1\n"
unfolding evaluated
id_taken_unless_something_is_open = refl

-- Wrong: an id is taken whether or not it is still wanted.
pub id_taken_unwanted :
    told (record default_config { batch_size = 77; request_timeout_ms = 100; delivery_timeout_ms = 100; sequence_limit = 3 }) 1 1 (
    Accept 0 0 (97 ∷ []) ∷ Accept 0 0 (98 ∷ []) ∷ Take 0 ∷ Take 0 ∷ Send ∷ Deliver 0 Judged ∷
    Reply 0 ∷ Now 1 ∷ Accept 0 0 (99 ∷ []) ∷ Accept 0 0 (100 ∷ []) ∷ Take 0 ∷ Take 0 ∷ Now 50 ∷
    Send ∷ Now 101 ∷ Tick ∷ Accept 0 0 (101 ∷ []) ∷ Take 0 ∷ Send ∷ Accept 0 0 (102 ∷ []) ∷
    Take 0 ∷ Deliver 1 Judged ∷ Reply 1 ∷ Send ∷ Deliver 2 Judged ∷ Reply 2 ∷ Send ∷
    Deliver 3 Judged ∷ Reply 3 ∷ Send ∷ Deliver 4 Judged ∷ Reply 4 ∷ [])
    ≡ codes "sent 0 0:0+2\nanswer 0 0:0@0\nreport 0 0 0 delivered 0\nreport 0 0 1 delivered 1\n"
    ++ codes "sent 1 init\nreport 0 0 2 expired\nreport 0 0 3 expired\nsent 2 0:2+1\n"
    ++ codes "answer 1 init 0@1001\nidle\nanswer 2 0:0@2\nreport 0 0 4 delivered 2\nsent 3 init\n"
    ++ codes "answer 3 init 0@1002\nsent 4 0:0+1\nanswer 4 0:0@3\nreport 0 0 5 delivered 3\n"
    ++ codes "log 0 0 a\nlog 0 1 b\nlog 0 2 e\nlog 0 3 f\naudit 0 0 0 2\naudit 0 0 4 2\n"
unfolding evaluated
id_taken_unwanted = refl

-- Wrong: the broker uses up no id where it answers late.
pub late_answer_uses_up_no_id_1 :
    told (record default_config { batch_size = 77; linger_ms = 1000; request_timeout_ms = 100; retry_backoff_ms = 0; sequence_limit = 1 }) 2 3 (
    Accept 2 0 (97 ∷ 65 ∷ 33 ∷ 126 ∷ 126 ∷ 126 ∷ 65 ∷ 65 ∷ 126 ∷ 126 ∷ 126 ∷ 65 ∷ 65 ∷ 126 ∷ 126 ∷ 126 ∷ 33 ∷ 65 ∷ 65 ∷ 126 ∷ 65 ∷ 33 ∷ 65 ∷ 33 ∷ 126 ∷ 65 ∷ 126 ∷ 126 ∷ 126 ∷ 33 ∷ 33 ∷ 126 ∷ 126 ∷ 65 ∷ 126 ∷ 65 ∷ 65 ∷ 126 ∷ 65 ∷ 33 ∷ 65 ∷ []) ∷
    Take 2 ∷ Send ∷ Accept 1 0 (92 ∷ 98 ∷ []) ∷ Take 1 ∷ Deliver 0 (Late (pos 7)) ∷ Reply 0 ∷
    Accept 2 1 (99 ∷ []) ∷ Accept 1 0 (100 ∷ []) ∷ Take 1 ∷ Accept 1 1 (101 ∷ []) ∷ Take 1 ∷
    Send ∷ Deliver 1 Judged ∷ Reply 1 ∷ Flush ∷ Send ∷ Reply 0 ∷ Close ∷ Now 1000 ∷
    Deliver 2 (Late (pos 2)) ∷ Reply 2 ∷ Accept 1 1 (102 ∷ []) ∷ Take 1 ∷ Send ∷
    Deliver 3 Judged ∷ Reply 3 ∷ Other 0 1 ∷ [])
    ≡ codes "sent 0 0:0+1\nanswer 0 0:7@-1\nsent 1 0:0+1\nanswer 1 0:0@0\n"
    ++ codes "report 2 0 0 delivered 0\nflushing\nsent 2 init\nstale 0\nanswer 2 init 2@-1\n"
    ++ codes "closed 1 1\nempty 1\nsent 3 init\nanswer 3 init 0@1002\n"
    ++ codes "log 0 0 aA!~~~AA~~~AA~~~!AA~A!A!~A~~~!!~~A~AA~A!A\nother 0 1\naudit 0 2 0 1\n"
unfolding evaluated
late_answer_uses_up_no_id_1 = refl

pub late_answer_uses_up_no_id_2 :
    told (record default_config { batch_size = 77; linger_ms = 1000; buffer_memory = 207; request_timeout_ms = 20; retry_backoff_ms = 10; max_in_flight_requests_per_connection = 2; sequence_limit = 1 }) 2 2 (
    Accept 1 0 (97 ∷ []) ∷ Take 1 ∷ Take 0 ∷ Take 0 ∷ Now 1000 ∷ Send ∷ Accept 0 1 (98 ∷ []) ∷
    Take 0 ∷ Accept 1 0 (99 ∷ []) ∷ Take 1 ∷ Take 1 ∷ Deliver 0 Judged ∷ Reply 0 ∷ Reply 0 ∷
    Now 2001 ∷ Tick ∷ Send ∷ Send ∷ Send ∷ Send ∷ Deliver 1 (Late (pos 2)) ∷ Reply 1 ∷
    Accept 1 1 (100 ∷ []) ∷ Now 2011 ∷ Tick ∷ Send ∷ Deliver 3 Judged ∷ Reply 2 ∷ Now 2021 ∷
    End ∷ Now 2084 ∷ Now 2093 ∷ Tick ∷ [])
    ≡ codes "empty 0\nempty 0\nsent 0 0:0+1\nempty 1\nanswer 0 0:0@0\nreport 1 0 0 delivered 0\n"
    ++ codes "stale 0\nsent 1 init\nsent 2 1:0+1\nidle\nidle\nanswer 1 init 2@-1\nsent 3 init\n"
    ++ codes "answer 2 init 0@1002\nreport 0 1 0 unknown\nreport 1 0 1 ended\nlog 0 0 a\n"
    ++ codes "audit 0 1 0 1\naudit 1 0 0 1\n"
unfolding evaluated
late_answer_uses_up_no_id_2 = refl

-- Wrong: the broker uses up an id where it refuses the request for one.
pub refused_request_uses_up_an_id_1 :
    told (record default_config { batch_size = 0; delivery_timeout_ms = 30120; retry_backoff_ms = 0; max_in_flight_requests_per_connection = 2; sequence_limit = 1 }) 1 2 (
    Accept 0 0 (97 ∷ 126 ∷ []) ∷ Take 0 ∷ Send ∷ Deliver 0 Judged ∷ Reply 0 ∷ Send ∷
    Accept 0 0 (98 ∷ 33 ∷ 33 ∷ 33 ∷ []) ∷ Take 0 ∷ Accept 1 0 (99 ∷ []) ∷ Take 1 ∷ Send ∷
    Accept 0 0 (100 ∷ []) ∷ Send ∷ Reply 0 ∷ Accept 1 0 (101 ∷ []) ∷ Take 1 ∷ Send ∷ Now 1 ∷
    Send ∷ Send ∷ Deliver 1 (Refused (pos 10)) ∷ Reply 1 ∷ Accept 0 0 (102 ∷ []) ∷ Take 0 ∷
    Send ∷ Send ∷ Deliver 2 Judged ∷ Reply 2 ∷ Send ∷ Deliver 3 Judged ∷ Reply 3 ∷ Now 30120 ∷ [])
    ≡ codes "sent 0 0:0+1\nanswer 0 0:0@0\nreport 0 0 0 delivered 0\nidle\nsent 1 init\nidle\n"
    ++ codes "stale 0\nidle\nidle\nidle\nanswer 1 init 10@-1\nsent 2 init\nidle\n"
    ++ codes "answer 2 init 0@1001\nsent 3 0:0+1\nanswer 3 0:0@1\nreport 0 0 1 delivered 1\n"
    ++ codes "log 0 0 a~\nlog 0 1 b!!!\naudit 0 0 0 2\n"
unfolding evaluated
refused_request_uses_up_an_id_1 = refl

pub refused_request_uses_up_an_id_2 :
    told (record default_config { batch_size = 0; request_timeout_ms = 20; retry_backoff_ms = 0; max_in_flight_requests_per_connection = 3; sequence_limit = 1 }) 2 1 (
    Now 100 ∷ Send ∷ Send ∷ Tick ∷ Take 0 ∷ Accept 0 0 (97 ∷ []) ∷ Take 0 ∷
    Accept 0 0 (98 ∷ []) ∷ Take 0 ∷ Accept 0 1 (92 ∷ 99 ∷ []) ∷ Take 0 ∷ Send ∷
    Deliver 0 Judged ∷ Send ∷ Reply 0 ∷ Accept 0 0 (100 ∷ []) ∷ Take 0 ∷ Send ∷
    Deliver 1 Judged ∷ Reply 1 ∷ Accept 0 1 (101 ∷ []) ∷ Take 0 ∷ Send ∷ Now 121 ∷ Send ∷ Send ∷
    Deliver 2 (Refused (pos 2)) ∷ Reply 2 ∷ Send ∷ Deliver 4 Judged ∷ Reply 3 ∷ [])
    ≡ codes "idle\nidle\nempty 0\nsent 0 0:0+1 1:0+1\nanswer 0 0:0@0 1:0@0\nidle\n"
    ++ codes "report 0 0 0 delivered 0\nreport 0 1 0 delivered 0\nsent 1 init\n"
    ++ codes "answer 1 init 0@1001\nsent 2 init\nsent 3 0:0+1\nidle\nanswer 2 init 2@-1\n"
    ++ codes "sent 4 init\nanswer 3 init 0@1002\nlog 0 0 a\nlog 1 0 \\x5cc\naudit 0 0 0 2\n"
    ++ codes "audit 1 0 0 1\n"
unfolding evaluated
refused_request_uses_up_an_id_2 = refl

-- Wrong: the log's records under former fresh ids are not this producer's.
pub records_under_former_ids_are_not_own_1 :
    told (record default_config { batch_size = 0; request_timeout_ms = 50; retry_backoff_ms = 10; max_in_flight_requests_per_connection = 3; sequence_limit = 1 }) 1 3 (
    Accept 0 0 (97 ∷ []) ∷ Accept 1 0 (98 ∷ []) ∷ Take 1 ∷ Now 0 ∷ Accept 1 0 (99 ∷ []) ∷
    Take 1 ∷ Send ∷ Accept 0 0 (100 ∷ []) ∷ Take 0 ∷ Send ∷ Now 51 ∷ Now 0 ∷ Deliver 0 Judged ∷
    Reply 0 ∷ Send ∷ Accept 0 0 (101 ∷ []) ∷ Accept 1 0 (102 ∷ []) ∷ Take 1 ∷ Reply 0 ∷
    Deliver 1 Judged ∷ Reply 1 ∷ Send ∷ Deliver 2 Judged ∷ Reply 2 ∷ Reply 2 ∷ Send ∷ Now 49 ∷
    Tick ∷ Deliver 3 Judged ∷ Reply 3 ∷ Accept 0 0 (103 ∷ 126 ∷ 126 ∷ []) ∷ Take 0 ∷ [])
    ≡ codes "sent 0 0:0+1\nidle\nanswer 0 0:0@0\nreport 1 0 0 delivered 0\nsent 1 init\nstale 0\n"
    ++ codes "answer 1 init 0@1001\nsent 2 0:0+1\nanswer 2 0:0@1\nreport 1 0 1 delivered 1\n"
    ++ codes "stale 2\nsent 3 init\nanswer 3 init 0@1002\nlog 0 0 b\nlog 0 1 c\naudit 0 1 0 2\n"
unfolding evaluated
records_under_former_ids_are_not_own_1 = refl

pub records_under_former_ids_are_not_own_2 :
    told (record default_config { batch_size = 0; linger_ms = 5; request_timeout_ms = 100; retry_backoff_ms = 0; max_in_flight_requests_per_connection = 1; sequence_limit = 1 }) 1 2 (
    Accept 0 0 (97 ∷ []) ∷ Take 0 ∷ Send ∷ Accept 1 0 (98 ∷ []) ∷ Take 1 ∷ Deliver 0 Judged ∷
    Reply 0 ∷ Send ∷ Deliver 1 Judged ∷ Reply 1 ∷ Send ∷ Deliver 2 Judged ∷ Reply 2 ∷ Take 0 ∷
    Send ∷ Now 0 ∷ Send ∷ Send ∷ Now 64 ∷ Send ∷ Send ∷ Now 8256 ∷ Send ∷ Accept 1 0 (99 ∷ []) ∷
    Take 1 ∷ Accept 1 0 (100 ∷ []) ∷ Take 1 ∷ Send ∷ Deliver 3 Judged ∷ Reply 3 ∷ [])
    ≡ codes "sent 0 0:0+1\nanswer 0 0:0@0\nreport 0 0 0 delivered 0\nsent 1 init\n"
    ++ codes "answer 1 init 0@1001\nsent 2 0:0+1\nanswer 2 0:0@1\nreport 1 0 0 delivered 1\n"
    ++ codes "empty 0\nidle\nidle\nidle\nidle\nidle\nidle\nsent 3 init\nanswer 3 init 0@1002\n"
    ++ codes "log 0 0 a\nlog 0 1 b\naudit 0 0 0 1\naudit 0 1 0 1\n"
unfolding evaluated
records_under_former_ids_are_not_own_2 = refl
