use Rattle.std.proofs.Common.{◌≡◌, List, [], ◌∷◌, refl}
use Rattle.std.specs.Prelude.{Ok}
use Rattle.kp_accum.specs.Config.{checked, is_outside}
use Rattle.kp_log.specs.History.{own}
use Rattle.kp_world.specs.Events.{Reply}
use Rattle.kp_world.specs.Accounts.{IsNeverSent}
use Rattle.kp_world.specs.LogLaws.{EachDeliveryHasItsOffset, IsPrefix, ToldOffsetsStand}
use Rattle.kp_world.specs.OtherRules.{Breaks, TellsAgainstRule, settling_dropped, stored_and_dropped, sending_by, with_window, counts_open, one_wider, without_waiting, changing_first, recut, second_goes_again, settling_by, without_fence, second_is_refused, hearing_as, at_sequences, to_oldest, ticking_by, open_expires, keeping_ids, one_each, two_an_id, six_on_their_way, second_comes_first, stored_behind_another, answered_again, stored_and_late, goes_on_under_an_id}
use Rattle.kp_world.proofs.Evaluation.{evaluated}
use Rattle.kp_world.proofs.ChosenRuns.{Choice, Append, AppendLate, Repeat, Forgotten, Refuse, GiveId}
use Rattle.kp_world.proofs.BrokenLaws.{breaks, breaks_outcome_rule, told_against_rule, offset_is_missing, log_is_unlike, offset_is_anothers, offset_is_early, unsent_is_sent}
use Rattle.kp_world.proofs.needed.each_rule_is_needed.Goals as goal

one_each_passes : checked one_each ≡ Ok tt
unfolding checked is_outside
one_each_passes = refl

two_an_id_passes : checked two_an_id ≡ Ok tt
unfolding checked is_outside
two_an_id_passes = refl

seven_and_the_second_again : List Choice
seven_and_the_second_again = Append ∷ Append ∷ Append ∷ Append ∷ Append ∷ Append ∷ Append ∷ Forgotten 1 ∷ []

open_batches_counted : Breaks (sending_by (with_window counts_open)) one_each six_on_their_way EachDeliveryHasItsOffset
unfolding evaluated seven_and_the_second_again
open_batches_counted =
    breaks (sending_by (with_window counts_open)) seven_and_the_second_again one_each six_on_their_way EachDeliveryHasItsOffset one_each_passes refl
    (tt, (tt, (tt, (tt, (tt, (tt, (tt, ((refl, refl), tt)))))))) _ offset_is_missing refl

window_of_six : Breaks (sending_by (with_window one_wider)) one_each six_on_their_way EachDeliveryHasItsOffset
unfolding evaluated seven_and_the_second_again
window_of_six =
    breaks (sending_by (with_window one_wider)) seven_and_the_second_again one_each six_on_their_way EachDeliveryHasItsOffset one_each_passes refl
    (tt, (tt, (tt, (tt, (tt, (tt, (tt, ((refl, refl), tt)))))))) _ offset_is_missing refl

second_first : Breaks (sending_by without_waiting) one_each second_comes_first (IsPrefix 0)
unfolding evaluated own
second_first = breaks (sending_by without_waiting) (AppendLate ∷ []) one_each second_comes_first (IsPrefix 0) one_each_passes refl (tt, tt) _ log_is_unlike refl

recut_again : Breaks (changing_first recut) one_each second_goes_again (IsPrefix 0)
unfolding evaluated own
recut_again = breaks (changing_first recut) (Append ∷ Append ∷ []) one_each second_goes_again (IsPrefix 0) one_each_passes refl (tt, (tt, tt)) _ log_is_unlike refl

goes_on : Breaks (settling_by without_fence) two_an_id second_is_refused (IsPrefix 0)
unfolding evaluated own
goes_on =
    breaks (settling_by without_fence) (Append ∷ Refuse ∷ GiveId ∷ Append ∷ []) two_an_id second_is_refused (IsPrefix 0) two_an_id_passes refl
    (tt, (tt, ((refl, (refl, tt)), (tt, tt)))) _ log_is_unlike refl

sequence_told : Breaks (hearing_as at_sequences) one_each stored_behind_another ToldOffsetsStand
unfolding evaluated
sequence_told = breaks (hearing_as at_sequences) (Append ∷ []) one_each stored_behind_another ToldOffsetsStand one_each_passes refl ((refl, tt), (tt, tt)) _ offset_is_anothers refl

stale_settles : Breaks (hearing_as to_oldest) one_each answered_again ToldOffsetsStand
unfolding evaluated
stale_settles = breaks (hearing_as to_oldest) (Append ∷ []) one_each answered_again ToldOffsetsStand one_each_passes refl (tt, tt) _ offset_is_early refl

dropped_settles : TellsAgainstRule settling_dropped one_each stored_and_dropped (Reply 0)
unfolding evaluated
dropped_settles =
    breaks_outcome_rule settling_dropped (Append ∷ []) one_each stored_and_dropped 0 one_each_passes refl (tt, tt) _ refl (told_against_rule _ _ _ refl refl refl)

expires : Breaks (ticking_by open_expires) one_each stored_and_late (IsNeverSent 0)
unfolding evaluated
expires = breaks (ticking_by open_expires) (Append ∷ []) one_each stored_and_late (IsNeverSent 0) one_each_passes refl (tt, tt) _ unsent_is_sent refl

id_kept : Breaks keeping_ids two_an_id goes_on_under_an_id ToldOffsetsStand
unfolding evaluated
id_kept =
    breaks keeping_ids (Append ∷ Append ∷ GiveId ∷ Repeat 0 ∷ []) two_an_id goes_on_under_an_id ToldOffsetsStand two_an_id_passes refl
    (tt, (tt, ((refl, (refl, tt)), ((refl, refl, refl), tt)))) _ offset_is_early refl

pub returns : goal.returns
returns c = record {
  window_of_open_batches = open_batches_counted;
  window_of_six = window_of_six;
  second_before_first = second_first;
  retry_is_recut = recut_again;
  sequence_told = sequence_told;
  stale_settles = stale_settles;
  dropped_settles = dropped_settles;
  rejection_fences_not = goes_on;
  open_expires = expires;
  old_id_kept = id_kept;
}
