-- Schedules that tell the rules of gathering and lingering from wrong ones, with the lines that
-- bench/simulate gives them. A fact is named for the wrong rule that it refuses.
use Rattle.std.proofs.Common.{◌≡◌, pos, [], ◌∷◌, ◌++◌, refl}
use Rattle.std.specs.Prelude.{codes}
use Rattle.kp_accum.specs.Config.{default_config}
use Rattle.kp_world.specs.declared.event.Event.TheVariants.{Accept, Take, Now, Tick, Send, Deliver, Reply, Drop, Close, Flush}
use Rattle.kp_world.specs.declared.event.Treatment.TheVariants.{Judged, Refused, Late}
use Rattle.kp_world.proofs.Evaluation.{evaluated}
use Rattle.kp_world.proofs.Schedules.{told}

-- Wrong: a record takes the same bytes whatever its moment is.
pub moments_not_in_the_size_1 :
    told (record default_config { batch_size = 77; request_timeout_ms = 50; delivery_timeout_ms = 50; retry_backoff_ms = 10; sequence_limit = 4 }) 1 1 (
    Accept 0 0 (97 ∷ []) ∷ Take 0 ∷ Now 50 ∷ Now 8242 ∷ Accept 0 0 (98 ∷ []) ∷ Take 0 ∷
    Now 8252 ∷ Take 0 ∷ Accept 0 0 (99 ∷ []) ∷ Accept 0 0 (100 ∷ []) ∷ Take 0 ∷ Take 0 ∷ Send ∷
    Deliver 0 Judged ∷ Reply 0 ∷ Reply 0 ∷ Now 8292 ∷ Accept 0 0 (101 ∷ []) ∷ Take 0 ∷
    Accept 0 0 (102 ∷ 65 ∷ 65 ∷ 126 ∷ 65 ∷ 33 ∷ 65 ∷ 33 ∷ 33 ∷ 33 ∷ 65 ∷ 65 ∷ 33 ∷ 126 ∷ 65 ∷ 33 ∷ 33 ∷ 33 ∷ 126 ∷ 65 ∷ 126 ∷ 33 ∷ 65 ∷ 65 ∷ 65 ∷ 126 ∷ 33 ∷ 33 ∷ 126 ∷ 126 ∷ 65 ∷ []) ∷
    Take 0 ∷ Accept 0 0 (103 ∷ []) ∷ Take 0 ∷ Now 8287 ∷ Take 0 ∷ Reply 0 ∷
    Accept 0 0 (104 ∷ []) ∷ Take 0 ∷ Deliver 0 Judged ∷
    Accept 0 0 (105 ∷ 33 ∷ 33 ∷ 33 ∷ 126 ∷ 126 ∷ 33 ∷ 65 ∷ 126 ∷ 65 ∷ 126 ∷ 33 ∷ 65 ∷ 65 ∷ 126 ∷ 33 ∷ 65 ∷ 126 ∷ 33 ∷ 65 ∷ 33 ∷ 126 ∷ 33 ∷ 65 ∷ 33 ∷ 126 ∷ 65 ∷ 33 ∷ 65 ∷ 65 ∷ 126 ∷ []) ∷
    Take 0 ∷ [])
    ≡ codes "empty 0\nsent 0 0:0+1\nanswer 0 0:0@0\nreport 0 0 0 delivered 0\nstale 0\nempty 0\n"
    ++ codes "stale 0\nanswer 1 0:0@0\nlog 0 0 a\naudit 0 0 0 1\n"
unfolding evaluated
moments_not_in_the_size_1 = refl

pub moments_not_in_the_size_2 :
    told (record default_config { batch_size = 77; linger_ms = 1000; buffer_memory = 207; max_request_size = 100; request_timeout_ms = 50; delivery_timeout_ms = 1060; retry_backoff_ms = 10; max_in_flight_requests_per_connection = 2 }) 2 1 (
    Accept 0 1 (97 ∷ []) ∷ Take 0 ∷ Send ∷ Now 1000 ∷ Send ∷ Deliver 0 Judged ∷ Reply 0 ∷
    Take 0 ∷ Reply 0 ∷ Send ∷ Accept 0 1 (98 ∷ []) ∷ Take 0 ∷ Now 995 ∷ Accept 0 0 (99 ∷ []) ∷
    Take 0 ∷ Take 0 ∷ Send ∷ Flush ∷ Now 1995 ∷ Take 0 ∷ Accept 0 0 (100 ∷ []) ∷
    Accept 0 1 (101 ∷ []) ∷ Take 0 ∷ Send ∷ Now 2001 ∷ Tick ∷ Accept 0 0 (102 ∷ []) ∷ Take 0 ∷
    Accept 0 1 (103 ∷ []) ∷ Take 0 ∷ [])
    ≡ codes "idle\nsent 0 1:0+1\nanswer 0 1:0@0\nreport 0 1 0 delivered 0\nempty 0\nstale 0\n"
    ++ codes "idle\nempty 0\nidle\nflushing\nempty 0\nsent 1 0:0+1\nfull 0\nfull 0\nlog 1 0 a\n"
    ++ codes "audit 0 0 0 1\naudit 1 0 0 1\n"
unfolding evaluated
moments_not_in_the_size_2 = refl

-- Wrong: an item joins a batch only where that stays below batch.size.
pub batch_stays_below_batch_size :
    told (record default_config { batch_size = 86; linger_ms = 1000 }) 1 1 (
    Accept 0 0 (97 ∷ []) ∷ Now 63 ∷ Accept 0 0 (98 ∷ []) ∷ Now 127 ∷ Accept 0 0 (99 ∷ []) ∷
    Take 0 ∷ Take 0 ∷ Take 0 ∷ Now 62 ∷ Accept 0 0 (100 ∷ []) ∷ Take 0 ∷ Now 0 ∷
    Accept 0 0 (101 ∷ []) ∷ Take 0 ∷ Send ∷ Send ∷ Flush ∷ Send ∷ Deliver 0 Judged ∷ Reply 0 ∷
    Send ∷ Send ∷ Send ∷ Deliver 1 Judged ∷ Reply 1 ∷ [])
    ≡ codes "sent 0 0:0+3\nidle\nflushing\nidle\nanswer 0 0:0@0\nreport 0 0 0 delivered 0\n"
    ++ codes "report 0 0 1 delivered 1\nreport 0 0 2 delivered 2\nsent 1 0:3+2\nidle\nidle\n"
    ++ codes "answer 1 0:0@3\nreport 0 0 3 delivered 3\nreport 0 0 4 delivered 4\nflushed\n"
    ++ codes "log 0 0 a\nlog 0 1 b\nlog 0 2 c\nlog 0 3 d\nlog 0 4 e\naudit 0 0 0 5\n"
unfolding evaluated
batch_stays_below_batch_size = refl

-- Wrong: a batch begins when its first item is taken, and not at the item's own moment.
pub batch_begun_when_taken_1 :
    told (record default_config { batch_size = 77; linger_ms = 5; buffer_memory = 138; request_timeout_ms = 100; max_in_flight_requests_per_connection = 2 }) 3 1 (
    Now 5 ∷ Send ∷ Send ∷ Send ∷ Now 69 ∷ Send ∷ Send ∷ Now 132 ∷ Send ∷ Take 0 ∷
    Accept 0 2 (97 ∷ []) ∷ Take 0 ∷ Accept 0 0 (98 ∷ []) ∷ Take 0 ∷ Send ∷ Accept 0 2 (99 ∷ []) ∷
    Take 0 ∷ Send ∷ Deliver 0 Judged ∷ Reply 0 ∷ Now 8324 ∷ Take 0 ∷ Reply 0 ∷ Now 120132 ∷
    Tick ∷ Now 120232 ∷ Send ∷
    Accept 0 1 (100 ∷ 33 ∷ 33 ∷ 126 ∷ 65 ∷ 33 ∷ 126 ∷ 65 ∷ 65 ∷ 33 ∷ 126 ∷ 126 ∷ 126 ∷ 126 ∷ 65 ∷ 65 ∷ 33 ∷ 126 ∷ 65 ∷ 126 ∷ 33 ∷ 33 ∷ 126 ∷ 33 ∷ 65 ∷ 126 ∷ 33 ∷ 126 ∷ 33 ∷ 65 ∷ 33 ∷ []) ∷
    Deliver 0 Judged ∷ Send ∷ Now 128424 ∷ Send ∷ [])
    ≡ codes "idle\nidle\nidle\nidle\nidle\nidle\nempty 0\nidle\nfull 0\nsent 0 0:0+1 2:0+1\n"
    ++ codes "answer 0 0:0@0 2:0@0\nreport 0 0 0 delivered 0\nreport 0 2 0 delivered 0\nstale 0\n"
    ++ codes "report 0 2 1 expired\nidle\nanswer 1 0:0@0 2:0@0\nidle\nidle\nlog 0 0 b\nlog 2 0 a\n"
    ++ codes "audit 0 0 0 1\naudit 2 0 0 1\n"
unfolding evaluated
batch_begun_when_taken_1 = refl

pub batch_begun_when_taken_2 :
    told (record default_config { batch_size = 77; linger_ms = 1000; max_request_size = 150; request_timeout_ms = 100; delivery_timeout_ms = 1110; retry_backoff_ms = 0; max_in_flight_requests_per_connection = 2 }) 1 1 (
    Take 0 ∷ Send ∷ Accept 0 0 (97 ∷ []) ∷ Now 120000 ∷ Accept 0 0 (98 ∷ []) ∷ Take 0 ∷
    Now 120064 ∷ Send ∷ Deliver 0 Judged ∷ Reply 0 ∷ Send ∷ Deliver 0 Judged ∷ Tick ∷
    Deliver 0 Judged ∷ Accept 0 0 (99 ∷ []) ∷ Close ∷ Close ∷ Take 0 ∷ Send ∷ Send ∷ Reply 0 ∷
    Send ∷ Deliver 1 Judged ∷ Reply 3 ∷ Drop ∷ Send ∷ Send ∷ Now 120128 ∷ Send ∷
    Accept 0 0 (100 ∷ []) ∷ Flush ∷ Deliver 0 (Refused (pos 45)) ∷ [])
    ≡ codes "empty 0\nidle\nsent 0 0:0+1\nanswer 0 0:0@0\nreport 0 0 0 delivered 0\nidle\n"
    ++ codes "answer 1 0:0@0\nanswer 2 0:0@0\nsent 1 0:1+1\nidle\nstale 0\nidle\nanswer 3 0:0@1\n"
    ++ codes "report 0 0 1 delivered 1\nidle\nidle\nidle\nclosed 0 0\nflushed\nanswer 4 0:45@-1\n"
    ++ codes "log 0 0 a\nlog 0 1 b\naudit 0 0 0 2\n"
unfolding evaluated
batch_begun_when_taken_2 = refl

-- Wrong: batches go on lingering after a close.
pub close_readies_nothing_1 :
    told (record default_config { batch_size = 150; linger_ms = 1000; request_timeout_ms = 20; retry_backoff_ms = 10 }) 2 2 (
    Now 0 ∷ Tick ∷ Flush ∷ Send ∷ Now 9 ∷ Now 0 ∷ Tick ∷ Send ∷ Send ∷ Now 9 ∷ Send ∷
    Accept 0 1 (97 ∷ []) ∷ Take 0 ∷ Now 1009 ∷ Accept 1 1 (98 ∷ []) ∷ Take 1 ∷
    Accept 0 0 (99 ∷ []) ∷ Take 0 ∷ Close ∷ Send ∷ Accept 0 1 (100 ∷ []) ∷ Take 0 ∷ Take 1 ∷
    Accept 0 0 (101 ∷ []) ∷ Take 0 ∷ Now 1030 ∷ Tick ∷ Flush ∷ Send ∷ [])
    ≡ codes "flushed\nidle\nidle\nidle\nidle\nsent 0 0:0+1 1:0+2\nclosed 0 1\nempty 0\nempty 1\n"
    ++ codes "closed 0 0\nempty 0\nreconnect\nflushing\nidle\naudit 0 0 0 1\naudit 1 0 0 1\n"
    ++ codes "audit 1 1 0 1\n"
unfolding evaluated
close_readies_nothing_1 = refl

pub close_readies_nothing_2 :
    told (record default_config { batch_size = 77; linger_ms = 1000; delivery_timeout_ms = 31120; retry_backoff_ms = 10; max_in_flight_requests_per_connection = 2 }) 2 1 (
    Accept 0 1 (97 ∷ []) ∷ Take 0 ∷ Accept 0 1 (98 ∷ []) ∷ Take 0 ∷ Accept 0 1 (99 ∷ []) ∷
    Flush ∷ Tick ∷ Send ∷ Deliver 0 Judged ∷ Reply 0 ∷ Send ∷ Take 0 ∷ Now 0 ∷ Tick ∷ Send ∷
    Send ∷ Reply 0 ∷ Take 0 ∷ Tick ∷ Send ∷ Take 0 ∷ Close ∷ Send ∷ Now 30000 ∷ Tick ∷ Flush ∷
    Accept 0 0 (100 ∷ []) ∷ Take 0 ∷ Send ∷ [])
    ≡ codes "flushing\nsent 0 1:0+2\nanswer 0 1:0@0\nreport 0 1 0 delivered 0\n"
    ++ codes "report 0 1 1 delivered 1\nflushed\nidle\nidle\nidle\nstale 0\nempty 0\nidle\n"
    ++ codes "empty 0\nsent 1 1:2+1\nreconnect\nflushing\nclosed 0 0\nempty 0\nidle\nlog 1 0 a\n"
    ++ codes "log 1 1 b\naudit 1 0 0 3\n"
unfolding evaluated
close_readies_nothing_2 = refl

-- Wrong: while a flush waits, only the batches that it marked are ready.
pub flush_readies_marked_batches_only_1 :
    told (record default_config { batch_size = 150; linger_ms = 5; request_timeout_ms = 100; delivery_timeout_ms = 155 }) 3 3 (
    Now 5 ∷ Now 8197 ∷ Send ∷ Send ∷ Now 8192 ∷ Send ∷ Drop ∷ Accept 0 2 (97 ∷ []) ∷ Take 0 ∷
    Flush ∷ Accept 0 0 (98 ∷ []) ∷ Take 0 ∷ Accept 2 1 (99 ∷ []) ∷ Send ∷ Accept 1 1 (100 ∷ []) ∷
    Send ∷ Accept 0 1 (101 ∷ []) ∷ Take 0 ∷ Send ∷ Close ∷ Send ∷ Accept 2 0 (102 ∷ []) ∷
    Take 2 ∷ Deliver 0 (Late (pos 2)) ∷ Send ∷ Deliver 1 Judged ∷ Reply 1 ∷ Reply 0 ∷ [])
    ≡ codes "idle\nidle\nidle\nflushing\nsent 0 0:0+1 2:0+1\nidle\nsent 1 1:0+1\nidle\n"
    ++ codes "closed 2 0\nanswer 0 0:2@-1 2:2@-1\nidle\nanswer 1 1:0@0\nreport 0 1 0 delivered 0\n"
    ++ codes "log 0 0 b\nlog 1 0 e\nlog 2 0 a\naudit 0 0 0 1\naudit 1 0 0 1\naudit 2 0 0 1\n"
unfolding evaluated
flush_readies_marked_batches_only_1 = refl

pub flush_readies_marked_batches_only_2 :
    told (record default_config { batch_size = 77; linger_ms = 5; delivery_timeout_ms = 30005; max_in_flight_requests_per_connection = 2 }) 2 3 (
    Now 0 ∷ Tick ∷ Send ∷ Accept 2 0 (97 ∷ []) ∷ Take 2 ∷ Send ∷ Now 6 ∷ Send ∷
    Deliver 0 Judged ∷ Reply 0 ∷ Accept 0 0 (98 ∷ []) ∷ Take 0 ∷ Send ∷ Flush ∷
    Deliver 0 Judged ∷ Deliver 0 (Refused (pos 6)) ∷ Tick ∷ Flush ∷ Accept 1 1 (99 ∷ []) ∷
    Take 1 ∷ Send ∷ Reply 0 ∷ Reply 1 ∷ Accept 1 0 (100 ∷ []) ∷ Send ∷ Reply 2 ∷ Send ∷
    Deliver 1 (Refused (pos 19)) ∷ [])
    ≡ codes "idle\nidle\nsent 0 0:0+1\nanswer 0 0:0@0\nreport 2 0 0 delivered 0\nidle\nflushing\n"
    ++ codes "answer 1 0:0@0\nanswer 2 0:6@-1\nflushing\nsent 1 1:0+1 0:1+1\nstale 0\nstale 1\n"
    ++ codes "idle\nstale 2\nidle\nanswer 3 1:19@-1 0:19@-1\nlog 0 0 a\naudit 0 2 0 1\n"
    ++ codes "audit 0 0 0 1\naudit 1 1 0 1\n"
unfolding evaluated
flush_readies_marked_batches_only_2 = refl
