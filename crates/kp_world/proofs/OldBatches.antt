-- A packet comes again when its batch is older than those that the log keeps.
use Rattle.std.proofs.Common.{◌≡◌, [], ◌∷◌, ◌++◌, refl}
use Rattle.std.specs.Prelude.{codes}
use Rattle.kp_accum.specs.Config.{default_config}
use Rattle.kp_world.specs.declared.event.Event.TheVariants.{Send, Deliver, Reply}
use Rattle.kp_world.specs.declared.event.Treatment.TheVariants.{Judged}
use Rattle.kp_world.specs.Reaching.{feed}
use Rattle.kp_world.proofs.Evaluation.{evaluated}
use Rattle.kp_world.proofs.Schedules.{told}

-- Eleven batches were stored, and then the first comes again.
pub an_old_batch_is_not_stored_again :
    told (record default_config { batch_size = 0 }) 1 1 (
    feed 97 ++ feed 98 ++ feed 99 ++ feed 100 ++ feed 101 ++ feed 102 ++ feed 103
    ++ feed 104 ++ feed 105 ++ feed 106 ++ feed 107 ++ Send ∷ Deliver 0 Judged ∷ Reply 0
    ∷ Send ∷ Deliver 1 Judged ∷ Reply 1 ∷ Send ∷ Deliver 2 Judged ∷ Reply 2 ∷ Send
    ∷ Deliver 3 Judged ∷ Reply 3 ∷ Send ∷ Deliver 4 Judged ∷ Reply 4 ∷ Send
    ∷ Deliver 5 Judged ∷ Reply 5 ∷ Send ∷ Deliver 6 Judged ∷ Reply 6 ∷ Send
    ∷ Deliver 7 Judged ∷ Reply 7 ∷ Send ∷ Deliver 8 Judged ∷ Reply 8 ∷ Send
    ∷ Deliver 9 Judged ∷ Reply 9 ∷ Send ∷ Deliver 10 Judged ∷ Reply 10 ∷ Deliver 0 Judged
    ∷ Reply 11 ∷ [])
    ≡ codes "sent 0 0:0+1\nanswer 0 0:0@0\nreport 0 0 0 delivered 0\nsent 1 0:1+1\n"
    ++ codes "answer 1 0:0@1\nreport 0 0 1 delivered 1\nsent 2 0:2+1\nanswer 2 0:0@2\n"
    ++ codes "report 0 0 2 delivered 2\nsent 3 0:3+1\nanswer 3 0:0@3\n"
    ++ codes "report 0 0 3 delivered 3\nsent 4 0:4+1\nanswer 4 0:0@4\n"
    ++ codes "report 0 0 4 delivered 4\nsent 5 0:5+1\nanswer 5 0:0@5\n"
    ++ codes "report 0 0 5 delivered 5\nsent 6 0:6+1\nanswer 6 0:0@6\n"
    ++ codes "report 0 0 6 delivered 6\nsent 7 0:7+1\nanswer 7 0:0@7\n"
    ++ codes "report 0 0 7 delivered 7\nsent 8 0:8+1\nanswer 8 0:0@8\n"
    ++ codes "report 0 0 8 delivered 8\nsent 9 0:9+1\nanswer 9 0:0@9\n"
    ++ codes "report 0 0 9 delivered 9\nsent 10 0:10+1\nanswer 10 0:0@10\n"
    ++ codes "report 0 0 10 delivered 10\nanswer 11 0:46@-1\nstale 11\nlog 0 0 a\n"
    ++ codes "log 0 1 b\nlog 0 2 c\nlog 0 3 d\nlog 0 4 e\nlog 0 5 f\nlog 0 6 g\nlog 0 7 h\n"
    ++ codes "log 0 8 i\nlog 0 9 j\nlog 0 10 k\naudit 0 0 0 11\n"
unfolding evaluated
an_old_batch_is_not_stored_again = refl
