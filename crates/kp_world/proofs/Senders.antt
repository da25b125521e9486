-- Two senders, and another producer between them.
use Rattle.std.proofs.Common.{◌≡◌, [], ◌∷◌, ◌++◌, refl}
use Rattle.std.specs.Prelude.{codes}
use Rattle.kp_accum.specs.Config.{default_config}
use Rattle.kp_world.specs.declared.event.Event.TheVariants.{Accept, Take, Send, Deliver, Reply, Other}
use Rattle.kp_world.specs.declared.event.Treatment.TheVariants.{Judged}
use Rattle.kp_world.specs.Reaching.{feed}
use Rattle.kp_world.proofs.Evaluation.{evaluated}
use Rattle.kp_world.proofs.Schedules.{told}

-- The other producer has two records appended between the first batch and the second, which has a
-- record of each sender.
pub offsets_are_not_sequence_numbers :
    told default_config 1 2 (
    feed 97 ++ Send ∷ Deliver 0 Judged ∷ Reply 0 ∷ Other 0 2 ∷ Accept 1 0 (98 ∷ [])
    ∷ Take 1 ∷ feed 99 ++ Send ∷ Deliver 1 Judged ∷ Reply 1 ∷ [])
    ≡ codes "sent 0 0:0+1\nanswer 0 0:0@0\nreport 0 0 0 delivered 0\nsent 1 0:1+2\n"
    ++ codes "answer 1 0:0@3\nreport 0 0 1 delivered 4\nreport 1 0 0 delivered 3\n"
    ++ codes "log 0 0 a\nother 0 1\nother 0 2\nlog 0 3 b\nlog 0 4 c\naudit 0 0 0 1\n"
    ++ codes "audit 0 1 0 1\naudit 0 0 1 1\n"
unfolding evaluated
offsets_are_not_sequence_numbers = refl
