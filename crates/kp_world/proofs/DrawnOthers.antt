-- Schedules that tell the rules of logs, audits, moments and text from wrong ones, with the lines
-- that bench/simulate gives them. A fact is named for the wrong rule that it refuses.
use Rattle.std.proofs.Common.{◌≡◌, [], ◌∷◌, ◌++◌, refl}
use Rattle.std.specs.Prelude.{codes}
use Rattle.kp_accum.specs.Config.{default_config}
use Rattle.kp_world.specs.declared.event.Event.TheVariants.{Accept, Take, Now, Tick, Send, Deliver, Reply, Drop, Other, Close, End, Flush}
use Rattle.kp_world.specs.declared.event.Treatment.TheVariants.{Judged}
use Rattle.kp_world.proofs.Evaluation.{evaluated}
use Rattle.kp_world.proofs.Schedules.{told}

-- Wrong: the broker knows a producer id's last four batches.
pub broker_knows_four_batches_1 :
    told (record default_config { batch_size = 0; request_timeout_ms = 50; retry_backoff_ms = 0 }) 2 2 (
    Accept 1 0 (97 ∷ []) ∷ Take 1 ∷ Accept 1 0 (98 ∷ []) ∷ Take 1 ∷ Accept 1 0 (99 ∷ []) ∷
    Take 1 ∷ Accept 1 0 (100 ∷ []) ∷ Take 1 ∷ Accept 1 0 (101 ∷ []) ∷ Take 1 ∷
    Accept 1 0 (102 ∷ []) ∷ Take 1 ∷ Accept 1 0 (103 ∷ []) ∷ Take 1 ∷ Send ∷ Deliver 0 Judged ∷
    Reply 0 ∷ Send ∷ Deliver 1 Judged ∷ Send ∷ Deliver 2 Judged ∷ Send ∷ Deliver 3 Judged ∷
    Reply 3 ∷ Send ∷ Deliver 4 Judged ∷ Reply 4 ∷ Send ∷ Deliver 5 Judged ∷ Send ∷ Reply 1 ∷
    Now 120000 ∷ Take 1 ∷ Accept 0 1 (104 ∷ []) ∷ Take 0 ∷ Deliver 1 Judged ∷ [])
    ≡ codes "sent 0 0:0+1\nanswer 0 0:0@0\nreport 1 0 0 delivered 0\nsent 1 0:1+1\n"
    ++ codes "answer 1 0:0@1\nsent 2 0:2+1\nanswer 2 0:0@2\nsent 3 0:3+1\nanswer 3 0:0@3\n"
    ++ codes "report 1 0 3 delivered 3\nsent 4 0:4+1\nanswer 4 0:0@4\nreport 1 0 4 delivered 4\n"
    ++ codes "sent 5 0:5+1\nanswer 5 0:0@5\nidle\nreport 1 0 1 delivered 1\nempty 1\n"
    ++ codes "answer 6 0:0@1\nlog 0 0 a\nlog 0 1 b\nlog 0 2 c\nlog 0 3 d\nlog 0 4 e\nlog 0 5 f\n"
    ++ codes "audit 0 1 0 6\n"
unfolding evaluated
broker_knows_four_batches_1 = refl

pub broker_knows_four_batches_2 :
    told (record default_config { batch_size = 0; retry_backoff_ms = 10; max_in_flight_requests_per_connection = 2 }) 2 1 (
    Accept 0 0 (97 ∷ []) ∷ Take 0 ∷ Accept 0 0 (98 ∷ []) ∷ Take 0 ∷ Accept 0 0 (99 ∷ []) ∷
    Take 0 ∷ Accept 0 0 (100 ∷ 33 ∷ 33 ∷ 33 ∷ []) ∷ Take 0 ∷ Accept 0 0 (101 ∷ []) ∷ Take 0 ∷
    Accept 0 0 (102 ∷ []) ∷ Take 0 ∷ Accept 0 0 (103 ∷ []) ∷ Take 0 ∷ Send ∷ Deliver 0 Judged ∷
    Reply 0 ∷ Send ∷ Deliver 1 Judged ∷ Send ∷ Deliver 2 Judged ∷ Reply 2 ∷ Send ∷ Reply 1 ∷
    Send ∷ Deliver 3 Judged ∷ Reply 3 ∷ Send ∷ Deliver 4 Judged ∷ Reply 4 ∷ Send ∷
    Deliver 5 Judged ∷ Reply 5 ∷ Take 0 ∷ Deliver 1 Judged ∷ Flush ∷ Reply 5 ∷ [])
    ≡ codes "sent 0 0:0+1\nanswer 0 0:0@0\nreport 0 0 0 delivered 0\nsent 1 0:1+1\n"
    ++ codes "answer 1 0:0@1\nsent 2 0:2+1\nanswer 2 0:0@2\nreport 0 0 2 delivered 2\nidle\n"
    ++ codes "report 0 0 1 delivered 1\nsent 3 0:3+1\nanswer 3 0:0@3\nreport 0 0 3 delivered 3\n"
    ++ codes "sent 4 0:4+1\nanswer 4 0:0@4\nreport 0 0 4 delivered 4\nsent 5 0:5+1\n"
    ++ codes "answer 5 0:0@5\nreport 0 0 5 delivered 5\nempty 0\nanswer 6 0:0@1\nflushing\n"
    ++ codes "stale 5\nlog 0 0 a\nlog 0 1 b\nlog 0 2 c\nlog 0 3 d!!!\nlog 0 4 e\nlog 0 5 f\n"
    ++ codes "audit 0 0 0 6\n"
unfolding evaluated
broker_knows_four_batches_2 = refl

-- Wrong: a run of the audit goes on where a sender's numbers do not.
pub audit_joins_over_gaps_1 :
    told (record default_config { batch_size = 77; request_timeout_ms = 100; delivery_timeout_ms = 100; retry_backoff_ms = 0; max_in_flight_requests_per_connection = 1 }) 2 1 (
    Accept 0 0 (97 ∷ []) ∷ Now 1 ∷ Tick ∷ Now 64 ∷ Accept 0 0 (98 ∷ []) ∷ Take 0 ∷ Drop ∷ Drop ∷
    Accept 0 1 (99 ∷ []) ∷ Take 0 ∷ Drop ∷ Accept 0 0 (100 ∷ []) ∷ Take 0 ∷ Send ∷
    Accept 0 0 (101 ∷ []) ∷ Take 0 ∷ Accept 0 1 (102 ∷ []) ∷ Take 0 ∷ Deliver 0 Judged ∷
    Reply 0 ∷ Take 0 ∷ Now 164 ∷ Tick ∷ Drop ∷ Accept 0 1 (103 ∷ []) ∷ Take 0 ∷ Now 169 ∷ Tick ∷
    Send ∷ Send ∷ Tick ∷ Accept 0 0 (104 ∷ []) ∷ Take 0 ∷ Close ∷ [])
    ≡ codes "sent 0 0:0+1 1:0+1\nanswer 0 0:0@0 1:0@0\nreport 0 0 0 delivered 0\n"
    ++ codes "report 0 1 0 delivered 0\nreport 0 0 1 expired\nreport 0 0 2 expired\n"
    ++ codes "report 0 0 3 expired\nreport 0 1 1 expired\nsent 1 1:1+1\nidle\nlog 0 0 a\n"
    ++ codes "log 1 0 c\naudit 0 0 0 1\naudit 1 0 0 1\naudit 1 0 2 1\n"
unfolding evaluated
audit_joins_over_gaps_1 = refl

pub audit_joins_over_gaps_2 :
    told (record default_config { batch_size = 77; max_request_size = 130; request_timeout_ms = 50; delivery_timeout_ms = 170; retry_backoff_ms = 0; max_in_flight_requests_per_connection = 2; sequence_limit = 1 }) 2 1 (
    Send ∷ Now 1 ∷ Send ∷ Accept 0 0 (97 ∷ []) ∷ Take 0 ∷ Send ∷ Send ∷ Now 101 ∷ Take 0 ∷
    Deliver 0 Judged ∷ Reply 0 ∷ Other 1 1 ∷ Accept 0 0 (98 ∷ []) ∷ Take 0 ∷ Now 271 ∷ Take 0 ∷
    Send ∷ Deliver 1 Judged ∷ Reply 1 ∷ Reply 0 ∷ Accept 0 0 (99 ∷ []) ∷ Take 0 ∷
    Accept 0 0 (100 ∷ []) ∷ Take 0 ∷ Accept 0 0 (101 ∷ []) ∷ Take 0 ∷ Tick ∷
    Accept 0 1 (102 ∷ []) ∷ Take 0 ∷ Send ∷ Deliver 2 Judged ∷ Reply 2 ∷ Send ∷ Send ∷ [])
    ≡ codes "idle\nidle\nsent 0 0:0+1\nidle\nempty 0\nanswer 0 0:0@0\nreport 0 0 0 delivered 0\n"
    ++ codes "empty 0\nsent 1 init\nanswer 1 init 0@1001\nstale 0\nreport 0 0 1 expired\n"
    ++ codes "sent 2 1:0+1\nanswer 2 1:0@1\nreport 0 1 0 delivered 1\nsent 3 0:0+1\nidle\n"
    ++ codes "log 0 0 a\nother 1 0\nlog 1 1 f\naudit 0 0 0 1\naudit 0 0 2 1\naudit 1 0 0 1\n"
unfolding evaluated
audit_joins_over_gaps_2 = refl

-- Wrong: the moment at which a request times out wraps as an int64 does.
pub request_timeout_wraps :
    told (record default_config { batch_size = 0; linger_ms = 5; request_timeout_ms = 100; sequence_limit = 2 }) 1 1 (
    Accept 0 0 (97 ∷ []) ∷ Take 0 ∷ Now 9223372036854775807 ∷ Accept 0 0 (98 ∷ []) ∷ Take 0 ∷
    Send ∷ Tick ∷ Send ∷ Deliver 0 Judged ∷ Reply 0 ∷ Send ∷ Accept 0 0 (99 ∷ []) ∷ Take 0 ∷
    Now 9223372036854775806 ∷ Send ∷ Send ∷ Tick ∷ End ∷ [])
    ≡ codes "sent 0 0:0+1\nreport 0 0 0 unknown\nreport 0 0 1 fenced\nidle\nanswer 0 0:0@0\n"
    ++ codes "stale 0\nidle\nreport 0 0 2 fenced\nidle\nidle\nlog 0 0 a\naudit 0 0 0 1\n"
unfolding evaluated
request_timeout_wraps = refl

-- Wrong: a backslash is printed as it is.
pub backslash_is_printed :
    told default_config 1 1 (
    Accept 0 0 (92 ∷ 97 ∷ 92 ∷ []) ∷ Take 0 ∷ Send ∷ Deliver 0 Judged ∷ Reply 0 ∷
    Accept 0 0 (34 ∷ 126 ∷ 33 ∷ []) ∷ Take 0 ∷ Send ∷ Deliver 1 Judged ∷ [])
    ≡ codes "sent 0 0:0+1\nanswer 0 0:0@0\nreport 0 0 0 delivered 0\nsent 1 0:1+1\n"
    ++ codes "answer 1 0:0@1\nlog 0 0 \\x5ca\\x5c\nlog 0 1 \"~!\naudit 0 0 0 2\n"
unfolding evaluated
backslash_is_printed = refl
