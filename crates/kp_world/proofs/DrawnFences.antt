-- Schedules that tell the rules of fences, deadlines and the end from wrong ones, with the lines
-- that bench/simulate gives them. A fact is named for the wrong rule that it refuses.
use Rattle.std.proofs.Common.{◌≡◌, pos, [], ◌∷◌, ◌++◌, refl}
use Rattle.std.specs.Prelude.{codes}
use Rattle.kp_accum.specs.Config.{default_config}
use Rattle.kp_world.specs.declared.event.Event.TheVariants.{Accept, Take, Now, Tick, Send, Deliver, Reply, Drop, Other, Close, End, Flush}
use Rattle.kp_world.specs.declared.event.Treatment.TheVariants.{Judged, Refused, Late}
use Rattle.kp_world.proofs.Evaluation.{evaluated}
use Rattle.kp_world.proofs.Schedules.{told}

-- Wrong: a rejected batch is told behind those that the fence tells.
pub rejected_told_after_the_others_1 :
    told (record default_config { batch_size = 0; buffer_memory = 210; max_request_size = 100; request_timeout_ms = 100; delivery_timeout_ms = 110; retry_backoff_ms = 0; max_in_flight_requests_per_connection = 1; sequence_limit = 1 }) 1 1 (
    Drop ∷ Tick ∷ Now 0 ∷ Tick ∷ Send ∷ Send ∷ Tick ∷ Tick ∷ Accept 0 0 (97 ∷ []) ∷ Take 0 ∷
    Take 0 ∷ Send ∷ Deliver 0 (Late (pos 10)) ∷ Deliver 0 Judged ∷ Send ∷ Now 0 ∷ Tick ∷
    Accept 0 0 (98 ∷ []) ∷ Take 0 ∷ Reply 0 ∷ Now 9 ∷ Send ∷ Now 30009 ∷ Tick ∷
    Deliver 0 Judged ∷ Deliver 0 (Refused (pos 6)) ∷ Accept 0 0 (99 ∷ []) ∷ Take 0 ∷
    Deliver 0 Judged ∷ [])
    ≡ codes "idle\nidle\nempty 0\nsent 0 0:0+1\nanswer 0 0:10@-1\nanswer 1 0:0@0\nidle\n"
    ++ codes "report 0 0 0 rejected 10\nreport 0 0 1 fenced\nidle\nanswer 2 0:0@0\n"
    ++ codes "answer 3 0:6@-1\nreport 0 0 2 fenced\nanswer 4 0:0@0\nlog 0 0 a\naudit 0 0 0 1\n"
unfolding evaluated
rejected_told_after_the_others_1 = refl

pub rejected_told_after_the_others_2 :
    told (record default_config { batch_size = 77; linger_ms = 5; delivery_timeout_ms = 30015; retry_backoff_ms = 10 }) 2 2 (
    Drop ∷ Send ∷ Send ∷ Accept 1 0 (97 ∷ []) ∷ Take 1 ∷ Send ∷ Accept 1 0 (92 ∷ 98 ∷ []) ∷
    Take 1 ∷ Send ∷ Deliver 0 (Refused (pos 42)) ∷ Reply 0 ∷ Now 5 ∷ Send ∷
    Deliver 0 (Late (pos 47)) ∷ Send ∷ Send ∷ Accept 1 1 (99 ∷ []) ∷ Tick ∷
    Accept 1 1 (100 ∷ []) ∷ Take 1 ∷ Send ∷ Now 10 ∷ Send ∷ Send ∷
    Accept 0 1 (101 ∷ 126 ∷ 33 ∷ []) ∷ Take 0 ∷ Deliver 1 (Refused (pos 35)) ∷
    Accept 0 1 (102 ∷ []) ∷ Take 0 ∷ Reply 2 ∷ Reply 0 ∷ [])
    ≡ codes "idle\nidle\nidle\nsent 0 0:0+1\nanswer 0 0:42@-1\nreport 1 0 0 rejected 42\n"
    ++ codes "report 1 0 1 fenced\nidle\nanswer 1 0:47@-1\nidle\nidle\nidle\nsent 1 1:0+1\nidle\n"
    ++ codes "answer 2 1:35@-1\nreport 0 1 0 fenced\nreport 0 1 1 fenced\n"
    ++ codes "report 1 1 0 rejected 35\nstale 0\nlog 0 0 a\naudit 0 1 0 1\naudit 1 1 0 1\n"
unfolding evaluated
rejected_told_after_the_others_2 = refl

-- Wrong: a fence tells the open batches from the last to the first.
pub fence_tells_backwards_1 :
    told (record default_config { batch_size = 0; linger_ms = 5; max_request_size = 138; request_timeout_ms = 100; delivery_timeout_ms = 225; max_in_flight_requests_per_connection = 2 }) 1 1 (
    Accept 0 0 (97 ∷ []) ∷ Take 0 ∷
    Accept 0 0 (98 ∷ 126 ∷ 33 ∷ 126 ∷ 33 ∷ 126 ∷ 65 ∷ 65 ∷ 65 ∷ 65 ∷ 33 ∷ 33 ∷ 126 ∷ 126 ∷ 126 ∷ 126 ∷ 33 ∷ 65 ∷ 126 ∷ 126 ∷ 65 ∷ 126 ∷ 65 ∷ 33 ∷ 65 ∷ 33 ∷ 33 ∷ 33 ∷ 33 ∷ 65 ∷ 126 ∷ 126 ∷ 126 ∷ []) ∷
    Take 0 ∷ Send ∷ Accept 0 0 (99 ∷ []) ∷ Take 0 ∷ Send ∷ Send ∷ Now 100 ∷ Send ∷
    Deliver 0 Judged ∷ Reply 0 ∷ Deliver 0 Judged ∷ Send ∷ Send ∷ Now 200 ∷ Tick ∷ Now 225 ∷
    Tick ∷ Now 234 ∷ Send ∷ Now 30234 ∷ Send ∷ Send ∷ Now 29234 ∷ Send ∷ Now 29239 ∷
    Accept 0 0 (100 ∷ []) ∷ Take 0 ∷ Deliver 0 (Refused (pos 19)) ∷ Now 29229 ∷ Now 29329 ∷
    Tick ∷ Reply 2 ∷ [])
    ≡ codes "sent 0 0:0+1\nidle\nidle\nidle\nanswer 0 0:0@0\nreport 0 0 0 delivered 0\n"
    ++ codes "answer 1 0:0@0\nsent 1 0:1+1\nsent 2 0:2+1\nreconnect\nreport 0 0 1 unknown\n"
    ++ codes "report 0 0 2 unknown\nidle\nidle\nidle\nidle\nreport 0 0 3 fenced\n"
    ++ codes "answer 2 0:19@-1\nstale 2\nlog 0 0 a\naudit 0 0 0 3\n"
unfolding evaluated
fence_tells_backwards_1 = refl

pub fence_tells_backwards_2 :
    told (record default_config { batch_size = 0; linger_ms = 5; request_timeout_ms = 50; max_in_flight_requests_per_connection = 3; sequence_limit = 4 }) 2 1 (
    Accept 0 0 (97 ∷ []) ∷ Take 0 ∷ Accept 0 0 (98 ∷ []) ∷ Take 0 ∷ Accept 0 1 (99 ∷ []) ∷
    Take 0 ∷ Accept 0 0 (100 ∷ []) ∷ Take 0 ∷ Accept 0 0 (101 ∷ []) ∷ Take 0 ∷
    Accept 0 0 (102 ∷ []) ∷ Take 0 ∷ Now 9 ∷ Accept 0 1 (103 ∷ 33 ∷ 33 ∷ []) ∷ Take 0 ∷
    Now 119999 ∷ Send ∷ Deliver 0 Judged ∷ Reply 0 ∷ Send ∷ Deliver 1 Judged ∷ Send ∷
    Accept 0 0 (104 ∷ []) ∷ Take 0 ∷ Send ∷ Now 119998 ∷ Now 119999 ∷ Now 120000 ∷ Tick ∷ [])
    ≡ codes "sent 0 0:0+1 1:0+1\nanswer 0 0:0@0 1:0@0\nreport 0 0 0 delivered 0\n"
    ++ codes "report 0 1 0 delivered 0\nsent 1 0:1+1 1:1+1\nanswer 1 0:0@1 1:0@1\nsent 2 0:2+1\n"
    ++ codes "sent 3 0:3+1\nreport 0 0 1 unknown\nreport 0 0 2 unknown\nreport 0 0 3 unknown\n"
    ++ codes "report 0 0 4 fenced\nreport 0 0 5 fenced\nlog 0 0 a\nlog 0 1 b\nlog 1 0 c\n"
    ++ codes "log 1 1 g!!\naudit 0 0 0 4\naudit 1 0 0 2\n"
unfolding evaluated
fence_tells_backwards_2 = refl

-- Wrong: a request all whose attempts were ended by fences stays in flight.
pub fence_leaves_requests_in_flight :
    told (record default_config { batch_size = 0; max_in_flight_requests_per_connection = 3 }) 2 2 (
    Accept 0 0 (97 ∷ []) ∷ Take 0 ∷ Send ∷ Deliver 0 Judged ∷ Reply 0 ∷ Accept 0 0 (98 ∷ []) ∷
    Accept 1 0 (99 ∷ []) ∷ Accept 0 0 (100 ∷ []) ∷ Accept 0 0 (101 ∷ []) ∷
    Accept 0 1 (102 ∷ []) ∷ Take 0 ∷ Take 1 ∷ Take 0 ∷ Take 0 ∷ Take 0 ∷ Send ∷ Send ∷ Send ∷
    Deliver 2 (Refused (pos 10)) ∷ Deliver 1 (Late (pos 10)) ∷ Flush ∷ Reply 2 ∷ Reply 1 ∷
    Reply 1 ∷ Deliver 3 Judged ∷ Send ∷ Close ∷ Accept 1 1 (122 ∷ []) ∷ Tick ∷ [])
    ≡ codes "sent 0 0:0+1\nanswer 0 0:0@0\nreport 0 0 0 delivered 0\nsent 1 1:0+1 0:1+1\n"
    ++ codes "sent 2 0:2+1\nsent 3 0:3+1\nanswer 1 0:10@-1\nanswer 2 1:10@-1 0:10@-1\nflushing\n"
    ++ codes "report 0 1 0 rejected 10\nreport 0 0 1 rejected 10\nreport 0 0 2 unknown\n"
    ++ codes "report 0 0 3 fenced\nreport 1 0 0 unknown\nflushed\nstale 1\nstale 1\n"
    ++ codes "answer 3 0:45@-1\nidle\nclosed 1 1\nlog 0 0 a\nlog 0 1 b\nlog 1 0 f\naudit 0 0 0 2\n"
    ++ codes "audit 0 1 0 1\naudit 0 0 2 1\naudit 1 0 0 1\n"
unfolding evaluated
fence_leaves_requests_in_flight = refl

-- Wrong: only the lowest open batch is looked at for its deadline.
pub deadline_of_the_lowest_open_only_1 :
    told (record default_config { batch_size = 0; max_request_size = 130; request_timeout_ms = 50; retry_backoff_ms = 10; max_in_flight_requests_per_connection = 3 }) 1 2 (
    Accept 1 0 (97 ∷ []) ∷ Now 100 ∷ Accept 0 0 (98 ∷ []) ∷ Take 0 ∷ Now 120100 ∷
    Accept 0 0 (99 ∷ []) ∷ Take 0 ∷ Accept 1 0 (100 ∷ []) ∷ Take 1 ∷ Now 120109 ∷ Now 120173 ∷
    Send ∷ Deliver 0 Judged ∷ Reply 0 ∷ Send ∷ Now 120222 ∷ Accept 0 0 (101 ∷ []) ∷ Take 0 ∷
    Send ∷ Deliver 2 Judged ∷ Send ∷ Deliver 1 Judged ∷ Flush ∷ Deliver 3 (Refused (pos 7)) ∷
    Send ∷ Send ∷ Send ∷ Reply 3 ∷ Now 120158 ∷ Tick ∷ Reply 0 ∷ Send ∷ Send ∷ Send ∷ Reply 3 ∷
    Drop ∷ Send ∷ Now 120163 ∷ Send ∷ [])
    ≡ codes "sent 0 0:0+1\nanswer 0 0:0@0\nreport 0 0 0 delivered 0\nsent 1 0:1+1\nsent 2 0:2+1\n"
    ++ codes "answer 1 0:45@-1\nsent 3 0:3+1\nanswer 2 0:0@1\nflushing\nanswer 3 0:7@-1\nidle\n"
    ++ codes "idle\nidle\nreport 0 0 1 unknown\nreport 0 0 2 unknown\nreport 1 0 0 unknown\n"
    ++ codes "flushed\nstale 0\nidle\nidle\nidle\nstale 3\nidle\nidle\nlog 0 0 b\nlog 0 1 c\n"
    ++ codes "audit 0 0 0 2\naudit 0 1 0 1\naudit 0 0 2 1\n"
unfolding evaluated
deadline_of_the_lowest_open_only_1 = refl

pub deadline_of_the_lowest_open_only_2 :
    told (record default_config { batch_size = 0; linger_ms = 1000; request_timeout_ms = 100; delivery_timeout_ms = 1150; retry_backoff_ms = 10 }) 1 2 (
    Accept 0 0 (97 ∷ []) ∷ Accept 0 0 (98 ∷ []) ∷ Send ∷ Now 120000 ∷ Send ∷
    Accept 0 0 (99 ∷ []) ∷ Send ∷ Now 120063 ∷ Accept 0 0 (100 ∷ []) ∷ Take 0 ∷ Send ∷
    Deliver 0 Judged ∷ Send ∷ Reply 0 ∷ Take 0 ∷ Now 240063 ∷ Deliver 0 (Late (pos 5)) ∷
    Now 360063 ∷ Tick ∷ Send ∷ Send ∷ Now 359963 ∷ Accept 1 0 (101 ∷ []) ∷ Take 1 ∷ Send ∷
    Accept 0 0 (102 ∷ []) ∷ Take 0 ∷ Send ∷ Now 359863 ∷ Tick ∷ Reply 0 ∷ Flush ∷ Send ∷
    Now 359963 ∷ Now 479963 ∷ Reply 0 ∷ Reply 0 ∷ Accept 1 0 (103 ∷ []) ∷ Take 1 ∷ Reply 0 ∷
    Send ∷ Accept 1 0 (104 ∷ []) ∷ Take 1 ∷ Reply 1 ∷ [])
    ≡ codes "idle\nidle\nidle\nsent 0 0:0+1\nanswer 0 0:0@0\nidle\nreport 0 0 0 delivered 0\n"
    ++ codes "answer 1 0:5@-1\nreport 0 0 1 expired\nidle\nidle\nsent 1 0:1+1\nsent 2 0:2+1\n"
    ++ codes "report 0 0 2 unknown\nreport 1 0 0 unknown\nstale 0\nflushed\nidle\nstale 0\n"
    ++ codes "stale 0\nreport 1 0 1 fenced\nstale 0\nidle\nreport 1 0 2 fenced\nstale 1\n"
    ++ codes "log 0 0 a\naudit 0 0 0 1\naudit 0 1 0 1\naudit 0 0 2 1\n"
unfolding evaluated
deadline_of_the_lowest_open_only_2 = refl

-- Wrong: a batch expires though one before it in the queue does not.
pub expiry_looks_behind_the_front_1 :
    told (record default_config { batch_size = 0; request_timeout_ms = 50; delivery_timeout_ms = 170; max_in_flight_requests_per_connection = 2 }) 2 3 (
    Now 0 ∷ Other 1 0 ∷ Accept 1 1 (97 ∷ []) ∷ Now 30000 ∷ Send ∷ Now 29990 ∷ Send ∷ Send ∷
    Now 29985 ∷ Send ∷ Now 29921 ∷ Now 29857 ∷ Tick ∷ Drop ∷ Send ∷ Now 149857 ∷ Send ∷
    Accept 0 1 (98 ∷ []) ∷ Take 0 ∷ Take 1 ∷ Accept 2 1 (99 ∷ []) ∷ Take 2 ∷ Tick ∷ Now 149847 ∷
    Tick ∷ Now 149846 ∷ Send ∷ Now 149909 ∷ Tick ∷ Deliver 0 (Late (pos 19)) ∷ Send ∷ [])
    ≡ codes "idle\nidle\nidle\nidle\nidle\nidle\nsent 0 1:0+1\nreconnect\nreport 1 1 0 expired\n"
    ++ codes "answer 0 1:19@-1\nidle\nlog 1 0 b\naudit 1 0 0 1\n"
unfolding evaluated
expiry_looks_behind_the_front_1 = refl

pub expiry_looks_behind_the_front_2 :
    told (record default_config { batch_size = 0; linger_ms = 5; buffer_memory = 138; request_timeout_ms = 50; delivery_timeout_ms = 175; retry_backoff_ms = 0; max_in_flight_requests_per_connection = 2 }) 1 2 (
    Send ∷ Send ∷ Send ∷ Accept 1 0 (97 ∷ []) ∷ Now 9 ∷ Tick ∷ Flush ∷ Send ∷
    Accept 0 0 (98 ∷ []) ∷ Take 0 ∷ Accept 1 0 (99 ∷ []) ∷ Take 1 ∷ Flush ∷ Now 183 ∷ Tick ∷
    Accept 0 0 (100 ∷ []) ∷ Take 0 ∷ Send ∷ Now 232 ∷ Take 0 ∷ Accept 1 0 (101 ∷ []) ∷ Take 1 ∷
    Now 231 ∷ Send ∷ Send ∷ Deliver 0 Judged ∷ Reply 0 ∷ Send ∷ Accept 0 0 (102 ∷ []) ∷ Take 0 ∷
    [])
    ≡ codes "idle\nidle\nidle\nflushed\nidle\nflushing\nfull 0\nsent 0 0:0+1\nfull 0\nfull 1\n"
    ++ codes "idle\nidle\nanswer 0 0:0@0\nreport 0 0 0 delivered 0\nsent 1 0:1+1\nlog 0 0 b\n"
    ++ codes "audit 0 0 0 1\naudit 0 1 0 1\n"
unfolding evaluated
expiry_looks_behind_the_front_2 = refl

-- Wrong: nothing of a queue expires while a batch of its partition is open.
pub open_batch_keeps_off_expiry_1 :
    told (record default_config { batch_size = 150; request_timeout_ms = 100; delivery_timeout_ms = 220 }) 1 3 (
    Accept 0 0 (97 ∷ []) ∷ Now 120000 ∷ Tick ∷ Now 120100 ∷ Tick ∷ Send ∷ Send ∷ Now 120163 ∷
    Send ∷ Now 120263 ∷ Send ∷ Accept 2 0 (98 ∷ []) ∷ Send ∷ Accept 1 0 (99 ∷ []) ∷ Take 1 ∷
    Send ∷ Send ∷ Accept 0 0 (100 ∷ []) ∷ Take 0 ∷ Now 120364 ∷ Tick ∷ Now 120464 ∷ Now 120564 ∷
    Tick ∷ Now 120569 ∷ Send ∷ Deliver 0 (Refused (pos 10)) ∷ Send ∷ Accept 0 0 (101 ∷ []) ∷
    Take 0 ∷ [])
    ≡ codes "idle\nidle\nidle\nidle\nidle\nsent 0 0:0+1\nidle\nreconnect\nreport 0 0 0 expired\n"
    ++ codes "report 1 0 0 unknown\nidle\nanswer 0 0:10@-1\nidle\nreport 0 0 1 fenced\n"
    ++ codes "audit 0 1 0 1\n"
unfolding evaluated
open_batch_keeps_off_expiry_1 = refl

pub open_batch_keeps_off_expiry_2 :
    told (record default_config { batch_size = 69; linger_ms = 5; max_request_size = 155; max_in_flight_requests_per_connection = 2 }) 2 1 (
    Now 9 ∷ Send ∷ Accept 0 1 (97 ∷ []) ∷ Take 0 ∷ Other 1 1 ∷ Now 0 ∷ Now 0 ∷ Tick ∷
    Accept 0 1 (98 ∷ []) ∷ Take 0 ∷ Send ∷ Accept 0 0 (99 ∷ []) ∷ Take 0 ∷ Now 0 ∷ Now 120000 ∷
    Tick ∷ Send ∷ Tick ∷ Now 120009 ∷ Flush ∷ Now 240009 ∷ Accept 0 0 (100 ∷ []) ∷ Take 0 ∷
    Send ∷ Accept 0 1 (101 ∷ []) ∷ Take 0 ∷ Accept 0 0 (102 ∷ []) ∷ Take 0 ∷
    Deliver 0 (Late (pos 2)) ∷ Send ∷ Deliver 1 Judged ∷ Reply 1 ∷ [])
    ≡ codes "idle\nsent 0 1:0+1\nreconnect\nreport 0 0 0 expired\nreport 0 1 1 expired\nidle\n"
    ++ codes "flushing\nsent 1 0:0+1 1:0+1\nanswer 0 1:2@-1\nidle\nanswer 1 0:0@0 1:0@1\n"
    ++ codes "report 0 0 1 delivered 0\nreport 0 1 0 delivered 1\nflushed\nlog 0 0 d\nother 1 0\n"
    ++ codes "log 1 1 a\naudit 0 0 1 1\naudit 1 0 0 1\n"
unfolding evaluated
open_batch_keeps_off_expiry_2 = refl

-- Wrong: the end tells queued items before open ones.
pub end_tells_the_queue_first_1 :
    told (record default_config { batch_size = 150; request_timeout_ms = 20; retry_backoff_ms = 10; max_in_flight_requests_per_connection = 1 }) 2 1 (
    Accept 0 0 (97 ∷ []) ∷ Take 0 ∷ Now 120000 ∷ Send ∷ Now 120020 ∷ Accept 0 0 (98 ∷ []) ∷
    Take 0 ∷ Send ∷ Accept 0 1 (99 ∷ []) ∷ Take 0 ∷ Send ∷ Tick ∷ Now 240021 ∷ Send ∷
    Deliver 0 (Late (pos 7)) ∷ Reply 0 ∷ Now 240011 ∷ Accept 0 1 (100 ∷ []) ∷ Take 0 ∷ Send ∷
    End ∷ Deliver 1 Judged ∷ Accept 0 1 (101 ∷ []) ∷ Reply 1 ∷ Reply 0 ∷ Deliver 1 Judged ∷
    Reply 0 ∷ Now 248203 ∷ [])
    ≡ codes "sent 0 0:0+1\nidle\nidle\nreconnect\nreport 0 0 0 unknown\nreport 0 0 1 fenced\n"
    ++ codes "sent 1 1:0+1\nanswer 0 0:7@-1\nstale 0\nidle\nreport 0 1 0 unknown\n"
    ++ codes "report 0 1 1 ended\nanswer 1 1:0@0\nended\nended\nanswer 2 1:0@0\nended\nlog 0 0 a\n"
    ++ codes "log 1 0 c\naudit 0 0 0 1\naudit 1 0 0 1\n"
unfolding evaluated
end_tells_the_queue_first_1 = refl

pub end_tells_the_queue_first_2 :
    told (record default_config { batch_size = 69; linger_ms = 5; max_request_size = 210; request_timeout_ms = 50; retry_backoff_ms = 0; max_in_flight_requests_per_connection = 1 }) 2 3 (
    Send ∷ Send ∷ Accept 2 1 (97 ∷ []) ∷ Take 2 ∷ Send ∷ Send ∷ Accept 1 0 (98 ∷ []) ∷ Take 1 ∷
    Accept 0 1 (99 ∷ []) ∷ Take 0 ∷ Deliver 0 Judged ∷ Accept 2 0 (100 ∷ []) ∷ Take 2 ∷
    Accept 0 0 (101 ∷ 33 ∷ []) ∷ Take 0 ∷ Reply 0 ∷ Accept 1 1 (102 ∷ []) ∷ Take 1 ∷
    Accept 0 1 (103 ∷ []) ∷ Send ∷ Deliver 1 (Late (pos 10)) ∷ Take 0 ∷ Send ∷ End ∷ Tick ∷
    Send ∷ Send ∷ Send ∷ [])
    ≡ codes "idle\nidle\nsent 0 1:0+1\nidle\nanswer 0 1:0@0\nreport 2 1 0 delivered 0\n"
    ++ codes "sent 1 0:0+1 1:1+1\nanswer 1 0:10@-1 1:10@-1\nidle\nreport 0 0 0 ended\n"
    ++ codes "report 0 1 0 unknown\nreport 0 1 1 ended\nreport 1 0 0 unknown\nreport 1 1 0 ended\n"
    ++ codes "report 2 0 0 ended\nended\nended\nended\nlog 0 0 b\nlog 1 0 a\nlog 1 1 c\n"
    ++ codes "audit 0 1 0 1\naudit 1 2 0 1\naudit 1 0 0 1\n"
unfolding evaluated
end_tells_the_queue_first_2 = refl

-- Wrong: after the end, an item for a fenced partition is told fenced.
pub fenced_told_after_the_end :
    told (record default_config { batch_size = 77; request_timeout_ms = 100; delivery_timeout_ms = 100; sequence_limit = 3 }) 1 1 (
    Accept 0 0 (97 ∷ []) ∷ Accept 0 0 (98 ∷ []) ∷ Take 0 ∷ Take 0 ∷ Send ∷ Deliver 0 Judged ∷
    Reply 0 ∷ Now 1 ∷ Accept 0 0 (99 ∷ []) ∷ Accept 0 0 (100 ∷ []) ∷ Take 0 ∷ Take 0 ∷ Now 50 ∷
    Send ∷ Now 101 ∷ Tick ∷ Accept 0 0 (101 ∷ []) ∷ Take 0 ∷ Send ∷ Accept 0 0 (102 ∷ []) ∷
    Take 0 ∷ Deliver 2 (Refused (pos 47)) ∷ Reply 1 ∷ Deliver 1 Judged ∷ Reply 2 ∷ Reply 2 ∷
    Accept 0 0 (103 ∷ []) ∷ Take 0 ∷ Send ∷ End ∷ Accept 0 0 (104 ∷ []) ∷ Take 0 ∷ Reply 2 ∷
    Flush ∷ [])
    ≡ codes "sent 0 0:0+2\nanswer 0 0:0@0\nreport 0 0 0 delivered 0\nreport 0 0 1 delivered 1\n"
    ++ codes "sent 1 init\nreport 0 0 2 expired\nreport 0 0 3 expired\nsent 2 0:2+1\n"
    ++ codes "answer 1 0:47@-1\nreport 0 0 4 rejected 47\nreport 0 0 5 fenced\n"
    ++ codes "answer 2 init 0@1001\nstale 2\nreport 0 0 6 fenced\nidle\nreport 0 0 7 ended\n"
    ++ codes "ended\nflushed\nlog 0 0 a\nlog 0 1 b\naudit 0 0 0 2\naudit 0 0 4 1\n"
unfolding evaluated
fenced_told_after_the_end = refl
