-- The laws on logs, from what holds of every world of a run.
use Rattle.std.proofs.Common.{◌≡◌, ℕ, ◌<◌, List, [], Some, None, refl, sym, ap, ◌∙◌, subst, ⊎_elim}
use Rattle.std.specs.Prelude.{Option}
use Rattle.kp_log.specs.BrokerStep.{MayAppend}
use Rattle.kp_log.specs.History.{with_batch, records_of}
use Rattle.kp_log.proofs.PlaceLemmas.{In, In-from_contains}
use Rattle.kp_rules.specs.Attempts.{awaits, awaiting}
use Rattle.kp_rules.specs.Next.{Sending}
use Rattle.kp_rules.specs.Partitions.{present_id}
use Rattle.kp_rules.specs.Records.{Produce, Open}
use Rattle.kp_world.specs.Facts.{facts}
use Rattle.kp_world.specs.Events.{WorldEvent}
use Rattle.kp_world.specs.Client.{handed_at}
use Rattle.kp_world.specs.Delivering.{log_at}
use Rattle.kp_world.specs.LogLaws.{partition_of, IsPrefix, NoDuplicateIsAwaited, EarlierIdsAreSilent}
use Rattle.kp_world.specs.Message.{sent_of}
use Rattle.kp_world.specs.Run.{IsReached}
use Rattle.kp_world.specs.World.{World, Opening}
use Rattle.kp_world.proofs.DeliveredLemmas.{open_there}
use Rattle.kp_world.proofs.HearingLemmas.{old_not_in_flight}
use Rattle.kp_world.proofs.LawfulLemmas.{PartsIn, IsLawful}
use Rattle.kp_world.proofs.LeavingLemmas.{awaits_is}
use Rattle.kp_world.proofs.PrefixLemmas.{lands}
use Rattle.kp_world.proofs.RunLemmas.{lawful_reached}
use Rattle.kp_world.proofs.ListLemmas.{all_at}
use Rattle.kp_world.proofs.ListLemmas.{found_in}

-- ---- the log is a prefix

pub log_is_prefix : (o : Opening) (es : List WorldEvent) (w : World) → IsReached o es w → (p : ℕ) → p < o.partitions → IsPrefix p (facts w)
log_is_prefix o es w r p h =
    let cut = ((lawful_reached o es w r).agree p h).steady.cut in
    record { stored = cut.landed; rest = cut.rest; handed = cut.split; records = cut.owned ∙ ap records_of cut.appended }

-- ---- no duplicate in flight

none_awaited : (n : ℕ) (w : World) → IsLawful n w → NoDuplicateIsAwaited w
none_awaited n w g k a x code = at_option (awaiting k (partition_of a.partition (facts w))) refl
  where
    reply_in : In x.reply w.replies
    reply_in = In-from_contains w.replies x.reply x.given

    part_in : In a x.parts
    part_in = In-from_contains x.parts a x.part

    at_option : (o : Option Open) → awaiting k (partition_of a.partition (facts w)) ≡ o → o ≡ None
    at_option None is = refl
    at_option (Some o) is =
        let f = found_in (awaits k) (partition_of a.partition (facts w)).open_batches o is in
        let h : a.partition < n = subst (λ (m : ℕ). a.partition < m) g.count (open_there w.core.partitions a.partition o f.0) in
        absurd (old_not_in_flight a.partition w.core.correlation k w.core.ended (partition_of a.partition (facts w)) (handed_at a.partition w.handed) (log_at a.partition w.logs) w.packets w.replies x.reply x.parts a (g.agree a.partition h).steady reply_in x.content (sym x.correlation) part_in refl code o f.0 (awaits_is k o f.1))

pub no_duplicate_is_awaited : (o : Opening) (es : List WorldEvent) (w : World) → IsReached o es w → NoDuplicateIsAwaited w
no_duplicate_is_awaited o es w r =
    none_awaited o.partitions w (lawful_reached o es w r)

-- ---- earlier ids are silent

silent : (n : ℕ) (w : World) → IsLawful n w → EarlierIdsAreSilent (facts w)
silent n w g p b x other answer after step =
    ⊎_elim
    (λ (same : after ≡ log_at p w.logs). same)
    (λ (may : MayAppend (log_at p w.logs) (sent_of b) × (after ≡ with_batch (sent_of b) (log_at p w.logs))). absurd (other (current may.0)))
    step.change
  where
    known : (p < n) × In b (handed_at p w.handed)
    known =
        let parts : PartsIn n w.handed (Produce x.parts) = subst (PartsIn n w.handed) x.demand (g.went x.packet (In-from_contains w.packets x.packet x.sent)).parts in
        all_at (λ (y : Sending). (y.partition < n) × In y.batch (handed_at y.partition w.handed)) x.parts (record { partition = p; batch = b }) parts (In-from_contains x.parts (record { partition = p; batch = b }) x.part)

    current : MayAppend (log_at p w.logs) (sent_of b) → b.id ≡ present_id (partition_of p (facts w))
    current may =
        let both = g.agree p known.0 in
        let head = lands w.ids (partition_of p (facts w)) (handed_at p w.handed) (log_at p w.logs) both.sound both.steady.cut b known.1 may in
        both.steady.cut.current b (record { earlier = []; later = head.0; split = head.1 })

pub earlier_ids_are_silent : (o : Opening) (es : List WorldEvent) (w : World) → IsReached o es w → EarlierIdsAreSilent (facts w)
earlier_ids_are_silent o es w r =
    silent o.partitions w (lawful_reached o es w r)
