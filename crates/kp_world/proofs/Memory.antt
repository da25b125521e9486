-- Records that wait take memory, up to buffer.memory.
use Rattle.std.proofs.Common.{◌≡◌, pos, [], ◌∷◌, ◌++◌, refl}
use Rattle.std.specs.Prelude.{codes, replicate}
use Rattle.kp_accum.specs.Config.{default_config}
use Rattle.kp_world.specs.declared.event.Event.TheVariants.{Accept, Take, Now, Send, Deliver, Reply}
use Rattle.kp_world.specs.declared.event.Treatment.TheVariants.{Judged, Refused}
use Rattle.kp_world.specs.Reaching.{feed}
use Rattle.kp_world.proofs.Evaluation.{evaluated}
use Rattle.kp_world.proofs.Schedules.{told}

-- Two records of 69 bytes are all; the third is refused, which makes the first two ready though
-- they linger. They are told, and the third is taken.
pub a_third_record_waits_for_memory :
    told (record default_config { buffer_memory = 138; linger_ms = 1000 }) 1 1 (
    feed 97 ++ feed 98 ++ feed 99 ++ Send ∷ Deliver 0 Judged ∷ Reply 0 ∷ Take 0 ∷ Send ∷ [])
    ≡ codes "full 0\nsent 0 0:0+2\nanswer 0 0:0@0\nreport 0 0 0 delivered 0\n"
    ++ codes "report 0 0 1 delivered 1\nidle\nlog 0 0 a\nlog 0 1 b\naudit 0 0 0 2\n"
unfolding evaluated
a_third_record_waits_for_memory = refl

-- With a value of 33 bytes a record has a charge of 101, with one of 32 bytes of 100.
pub what_no_request_can_hold_is_not_accepted :
    told (record default_config { max_request_size = 100; batch_size = 0 }) 1 1 (
    Accept 0 0 (replicate 33 97) ∷ Take 0 ∷ Accept 0 0 (replicate 32 97) ∷ Take 0 ∷ Send
    ∷ [])
    ≡ codes "large 0 0\nempty 0\nsent 0 0:0+1\naudit 0 0 0 1\n"
unfolding evaluated
what_no_request_can_hold_is_not_accepted = refl

-- The second partition's batch is still ready for want of memory, though it lingers, after an item
-- was told at the first.
pub what_is_told_at_a_fence_gives_no_memory_back :
    told (record default_config { buffer_memory = 138; linger_ms = 1000 }) 2 2 (
    Accept 0 0 (97 ∷ []) ∷ Take 0 ∷ Now 1000 ∷ Send ∷ Deliver 0 (Refused (pos 10))
    ∷ Reply 0 ∷ Accept 0 1 (98 ∷ []) ∷ Accept 0 1 (99 ∷ []) ∷ Accept 0 1 (100 ∷ []) ∷ Take 0
    ∷ Take 0 ∷ Take 0 ∷ Accept 1 0 (101 ∷ []) ∷ Take 1 ∷ Send ∷ [])
    ≡ codes "sent 0 0:0+1\nanswer 0 0:10@-1\nreport 0 0 0 rejected 10\nfull 0\n"
    ++ codes "report 1 0 0 fenced\nsent 1 1:0+2\naudit 0 0 0 1\naudit 1 0 0 2\n"
unfolding evaluated
what_is_told_at_a_fence_gives_no_memory_back = refl
