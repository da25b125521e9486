-- Correlation ids, and what goes out.
use Rattle.std.proofs.Common.{◌≡◌, List, [], ◌∷◌, pos, Some, None, refl}
use Rattle.std.specs.Prelude.{codes, Ok, Err}
use Rattle.kp_frames.specs.declared.produce.TopicProduceResponse.{TopicProduceResponse}
use Rattle.kp_rules.specs.declared.fault.CoreFault.TheVariants.{CorrelationSpent, Ended}
use Rattle.kp_rules.specs.Closing.{end_step}
use Rattle.kp_rules.specs.HandingOver.{audited}
use Rattle.kp_rules.specs.Next.{Sending}
use Rattle.kp_rules.specs.Partitions.{used}
use Rattle.kp_rules.specs.Records.{Produce, Core, quietly}
use Rattle.kp_rules.specs.Replies.{response_step}
use Rattle.kp_rules.specs.Requesting.{request_step}
use Rattle.kp_rules.proofs.Evaluation.{evaluated}
use Rattle.kp_rules.proofs.Scenes.{item, fresh, with_all, sent_at, one_sent, part, topic, reply}

-- ---- the last correlation id

abbrev last_id : Core
last_id = with_all (item 0 0 97 ∷ item 0 1 98 ∷ []) (fresh 1 2147483647)

abbrev first_batch : Sending
first_batch = record {
  partition = 0;
  batch = record { number = 0; id = 1000; sequence = 0; items = item 0 0 97 ∷ [] };
}

pub the_last_id_is_used :
    (request_step 0 0 last_id).answer
    ≡ Ok (Some (record { correlation = 2147483647; demand = Produce (first_batch ∷ []) }))
unfolding evaluated
the_last_id_is_used = refl

-- while nothing could be sent, no id is wanting
pub nothing_is_to_be_sent : (request_step 0 0 (sent_at 0 last_id)).answer ≡ Ok None
unfolding evaluated
nothing_is_to_be_sent = refl

abbrev stored : List TopicProduceResponse
stored = topic (codes "t") (part 0 (pos 0) (pos 0) ∷ []) ∷ []

abbrev answered : Core
answered = (response_step 0 (reply 2147483647 stored) (sent_at 0 last_id)).after

pub no_id_is_left : request_step 0 0 answered ≡ quietly answered (Err CorrelationSpent)
unfolding evaluated
no_id_is_left = refl

pub after_the_end_nothing_goes_out : (request_step 0 0 (end_step last_id).after).answer ≡ Err Ended
unfolding evaluated
after_the_end_nothing_goes_out = refl

-- ---- memory

pub each_record_takes_its_charge : used one_sent ≡ 138
unfolding evaluated
each_record_takes_its_charge = refl

pub what_is_told_takes_none : used answered ≡ 69
unfolding evaluated
what_is_told_takes_none = refl

-- ---- the audit

pub neighbours_are_joined :
    audited [] (item 0 0 97 ∷ item 0 1 98 ∷ item 0 3 99 ∷ [])
    ≡ (record { sender = 0; first = 0; count = 2 })
    ∷ (record { sender = 0; first = 3; count = 1 })
    ∷ []
unfolding evaluated
neighbours_are_joined = refl
