-- One request carries the batches of all partitions that may send.
use Rattle.std.proofs.Common.{◌≡◌, [], ◌∷◌, ◌++◌, refl}
use Rattle.std.specs.Prelude.{codes}
use Rattle.kp_accum.specs.Config.{default_config}
use Rattle.kp_world.specs.declared.event.Event.TheVariants.{Accept, Take, Now, Tick, Send, Deliver, Reply}
use Rattle.kp_world.specs.declared.event.Treatment.TheVariants.{Judged}
use Rattle.kp_world.proofs.Evaluation.{evaluated}
use Rattle.kp_world.proofs.Schedules.{told}

pub a_request_has_a_batch_of_each_partition :
    told default_config 2 1 (
    Accept 0 0 (97 ∷ []) ∷ Accept 0 1 (98 ∷ []) ∷ Take 0 ∷ Take 0 ∷ Send
    ∷ Deliver 0 Judged ∷ Reply 0 ∷ [])
    ≡ codes "sent 0 0:0+1 1:0+1\nanswer 0 0:0@0 1:0@0\nreport 0 0 0 delivered 0\n"
    ++ codes "report 0 1 0 delivered 0\nlog 0 0 a\nlog 1 0 b\naudit 0 0 0 1\naudit 1 0 0 1\n"
unfolding evaluated
a_request_has_a_batch_of_each_partition = refl

-- Two batches of 69 bytes are above 130, so the second goes into a request of its own.
pub a_request_has_as_many_as_fit :
    told (record default_config { max_request_size = 130; batch_size = 69 }) 2 1 (
    Accept 0 0 (97 ∷ []) ∷ Accept 0 1 (98 ∷ []) ∷ Take 0 ∷ Take 0 ∷ Send ∷ Send ∷ [])
    ≡ codes "sent 0 0:0+1\nsent 1 1:0+1\naudit 0 0 0 1\naudit 1 0 0 1\n"
unfolding evaluated
a_request_has_as_many_as_fit = refl

-- The first partition is fenced at its deadline; the second, begun later, is settled by the reply
-- to both.
pub an_answer_to_a_fenced_partition_is_ignored :
    told (record default_config { request_timeout_ms = 120000 }) 2 1 (
    Accept 0 0 (97 ∷ []) ∷ Take 0 ∷ Now 100 ∷ Accept 0 1 (98 ∷ []) ∷ Take 0 ∷ Send
    ∷ Now 120000 ∷ Tick ∷ Deliver 0 Judged ∷ Reply 0 ∷ [])
    ≡ codes "sent 0 0:0+1 1:0+1\nreport 0 0 0 unknown\nanswer 0 0:0@0 1:0@0\n"
    ++ codes "report 0 1 0 delivered 0\nlog 0 0 a\nlog 1 0 b\naudit 0 0 0 1\naudit 1 0 0 1\n"
unfolding evaluated
an_answer_to_a_fenced_partition_is_ignored = refl
