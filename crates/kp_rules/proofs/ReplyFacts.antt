-- What replies do, and which are refused.
use Rattle.std.proofs.Common.{◌≡◌, List, [], ◌∷◌, pos, negsuc, refl}
use Rattle.std.specs.Prelude.{codes, Err}
use Rattle.kp_frames.specs.declared.fault.FrameFault.TheVariants.{Mismatch, Short}
use Rattle.kp_frames.specs.declared.response.Response.{Response}
use Rattle.kp_rules.specs.declared.fault.CoreFault.TheVariants.{ReplyFault, Ended}
use Rattle.kp_rules.specs.declared.outcome.Outcome.TheVariants.{Delivered, DeliveredNoOffset, Rejected, Unsent}
use Rattle.kp_rules.specs.declared.outcome.Reason.TheVariants.{Fenced}
use Rattle.kp_rules.specs.Closing.{end_step}
use Rattle.kp_rules.specs.Records.{Core, Told}
use Rattle.kp_rules.specs.Replies.{response_step, reply_step, refuse_as, unknown}
use Rattle.kp_rules.proofs.Evaluation.{evaluated}
use Rattle.kp_rules.proofs.Scenes.{item, one_sent, both_sent, part, topic, reply, answers}

-- ---- in any order

abbrev both_stored : List Told
both_stored =
    (record { item = item 0 0 97; outcome = Delivered (pos 5) })
    ∷ (record { item = item 1 0 98; outcome = Delivered (pos 9) })
    ∷ []

pub each_partition_by_its_answer :
    (response_step 7 (answers (part 0 (pos 0) (pos 5) ∷ part 1 (pos 0) (pos 9) ∷ [])) both_sent).told
    ≡ both_stored
unfolding evaluated
each_partition_by_its_answer = refl

-- Answers in another order settle the same, in the request's order.
pub order_does_not_matter :
    response_step 7 (answers (part 1 (pos 0) (pos 9) ∷ part 0 (pos 0) (pos 5) ∷ [])) both_sent
    ≡ response_step 7 (answers (part 0 (pos 0) (pos 5) ∷ part 1 (pos 0) (pos 9) ∷ [])) both_sent
unfolding evaluated
order_does_not_matter = refl

-- ---- replies that are none to their request

-- nothing is settled, of no partition
abbrev IsRefused : Core → Response → Type 0
IsRefused s r = response_step 7 r s ≡ refuse_as (ReplyFault Mismatch) s

pub a_partition_is_missing : IsRefused both_sent (answers (part 0 (pos 0) (pos 5) ∷ []))
unfolding evaluated
a_partition_is_missing = refl

pub a_partition_is_there_twice :
    IsRefused both_sent (answers (part 0 (pos 0) (pos 5) ∷ part 0 (pos 0) (pos 5) ∷ []))
unfolding evaluated
a_partition_is_there_twice = refl

pub a_further_partition_is_there :
    IsRefused one_sent (answers (part 0 (pos 0) (pos 5) ∷ part 1 (pos 0) (pos 9) ∷ []))
unfolding evaluated
a_further_partition_is_there = refl

pub another_partition_is_there : IsRefused one_sent (answers (part 1 (pos 0) (pos 5) ∷ []))
unfolding evaluated
another_partition_is_there = refl

pub another_topic_is_there :
    IsRefused one_sent (reply 2 (topic (codes "u") (part 0 (pos 0) (pos 5) ∷ []) ∷ []))
unfolding evaluated
another_topic_is_there = refl

pub a_second_topic_is_there :
    IsRefused one_sent (reply 2 (
    topic (codes "t") (part 0 (pos 0) (pos 5) ∷ []) ∷ topic (codes "u") [] ∷ []))
unfolding evaluated
a_second_topic_is_there = refl

-- An offset below 0, or one behind which the batch's records have no offsets. The other partition
-- is not settled either.
pub an_offset_is_below_0 :
    IsRefused both_sent (answers (part 0 (pos 0) (pos 5) ∷ part 1 (pos 0) (negsuc 0) ∷ []))
unfolding evaluated
an_offset_is_below_0 = refl

pub an_offset_is_too_large :
    IsRefused one_sent (answers (part 0 (pos 0) (pos 9223372036854775807) ∷ []))
unfolding evaluated
an_offset_is_too_large = refl

-- ---- replies that name nothing in flight, or come too late

pub another_correlation_id_changes_nothing : response_step 7 (reply 3 []) one_sent ≡ unknown one_sent
unfolding evaluated
another_correlation_id_changes_nothing = refl

pub fewer_than_four_bytes_are_short : reply_step 7 (0 ∷ 0 ∷ 0 ∷ []) one_sent ≡ refuse_as (ReplyFault Short) one_sent
unfolding evaluated
fewer_than_four_bytes_are_short = refl

-- what follows the correlation id of no request in flight isn't read
pub what_is_unknown_is_not_read : reply_step 7 (0 ∷ 0 ∷ 0 ∷ 3 ∷ 255 ∷ []) one_sent ≡ unknown one_sent
unfolding evaluated
what_is_unknown_is_not_read = refl

pub after_the_end_no_reply_is_heard :
    (response_step 7 (answers (part 0 (pos 0) (pos 5) ∷ [])) (end_step one_sent).after).answer ≡ Err Ended
unfolding evaluated
after_the_end_no_reply_is_heard = refl

-- ---- codes

-- the batch stands in the log, and nobody knows where
pub an_old_batch_is_delivered :
    (response_step 7 (answers (part 0 (pos 46) (negsuc 0) ∷ [])) one_sent).told
    ≡ (record { item = item 0 0 97; outcome = DeliveredNoOffset }) ∷ []
unfolding evaluated
an_old_batch_is_delivered = refl

pub a_refused_batch_fences_its_partition :
    (response_step 7 (answers (part 0 (pos 10) (negsuc 0) ∷ [])) one_sent).told
    ≡ (record { item = item 0 0 97; outcome = Rejected (pos 10) })
    ∷ (record { item = item 0 1 98; outcome = Unsent Fenced })
    ∷ []
unfolding evaluated
a_refused_batch_fences_its_partition = refl
