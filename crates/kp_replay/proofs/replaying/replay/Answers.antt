use Rattle.std.proofs.Common.{ℕ}
use Rattle.kp_world.specs.Accounts.{AreAccountedFor, AreInOrder, IsNeverSent}
use Rattle.kp_world.specs.Facts.{facts}
use Rattle.kp_world.specs.FreshIds.{BeginsAnew, GoesOnAlone}
use Rattle.kp_world.specs.LogLaws.{EachDeliveryHasItsOffset, EarlierIdsAreSilent, IsPrefix, NoDuplicateIsAwaited, ToldOffsetsStand}
use Rattle.kp_world.proofs.AccountLaws.{accounted, never_sent, ordered}
use Rattle.kp_world.proofs.FreshIdLemmas.{begins_anew, goes_on_alone}
use Rattle.kp_world.proofs.LogLawLemmas.{earlier_ids_are_silent, log_is_prefix, no_duplicate_is_awaited}
use Rattle.kp_world.proofs.StandingLemmas.{each_delivery_has_its_offset, told_offsets_stand}
use Rattle.kp_replay.proofs.ReplayLawLemmas.{by-law, by-law-of-each}
use Rattle.kp_replay.proofs.replaying.replay.Goals as goal

pub returns : goal.returns
returns c =
    let s = c.args.schedule in
    let r = c.bring_about.result in
    let is = c.bring_about.ensures in
    record {
      replayed = is;
      logs_are_prefixes = by-law-of-each IsPrefix s r log_is_prefix is;
      told_offsets_stand = by-law (λ w. ToldOffsetsStand (facts w)) s r told_offsets_stand is;
      accounted_for = by-law-of-each (λ p f. (i : ℕ) → AreAccountedFor i p f) s r (λ o es w way p inside i. accounted o es w i p way inside) is;
      in_order_and_once = by-law-of-each (λ p f. (i : ℕ) → AreInOrder i p f) s r (λ o es w way p inside i. ordered o es w i p way inside) is;
      unsent_is_never_sent = by-law-of-each IsNeverSent s r (λ o es w way p inside. never_sent o es w p way inside) is;
      no_duplicate_is_awaited = by-law NoDuplicateIsAwaited s r no_duplicate_is_awaited is;
      each_delivery_has_its_offset = by-law (λ w. EachDeliveryHasItsOffset (facts w)) s r each_delivery_has_its_offset is;
      each_id_begins_anew = by-law-of-each BeginsAnew s r begins_anew is;
      first_under_an_id_is_alone = by-law-of-each GoesOnAlone s r goes_on_alone is;
      earlier_ids_are_silent = by-law (λ w. EarlierIdsAreSilent (facts w)) s r earlier_ids_are_silent is;
    }
