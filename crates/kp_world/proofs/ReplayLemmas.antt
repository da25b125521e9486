-- A replay is a run: in a world of a run, what the loopback broker does with a packet is what any honest one may do; so
-- each event of a replay is a step that a run may take.
use Rattle.std.proofs.Common.{◌≡◌, ℕ, ◌+◌, ◌<◌, List, [], ◌∷◌, ◌++◌, length, map, replicate, pos, ap, ⊎_elim, Some, None, refl, sym, subst, inl, inr, arith, length-append, ◌∙◌}
use Rattle.std.specs.Prelude.{Option, Result, Ok, Err, slice_get, slice_set, codes, ◌==◌}
use Rattle.std.specs.List.{AllByRecursion}
use Rattle.std.proofs.lemmas.List.{append-nil, map-append}
use Rattle.std.proofs.lemmas.List.Concat.{flat_map-append}
use Rattle.std.proofs.lemmas.List.Elements.{filter-append}
use Rattle.kp_accum.specs.declared.config.Config.{Config}
use Rattle.kp_log.specs.BrokerStep.{Answered, MayAppend, BrokerStep}
use Rattle.kp_log.specs.HandedOver.{CameBy}
use Rattle.kp_log.specs.History.{Sent, History, stored_of, records_of, of_id, with_batch, empty_history}
use Rattle.kp_log.specs.Log.{count_of}
use Rattle.kp_log.proofs.KeepingLemmas.{others_count}
use Rattle.kp_log.proofs.LogLemmas.{count_of-append}
use Rattle.kp_log.proofs.LoopbackLemmas.{loopback_step, late_step}
use Rattle.kp_log.proofs.PlaceLemmas.{In, In-head, In-tail, contains_from_In, In-append_left}
use Rattle.kp_rules.specs.Requesting.{request_step}
use Rattle.kp_rules.specs.Next.{Sending}
use Rattle.kp_rules.specs.Partitions.{partition_at}
use Rattle.kp_rules.specs.Records.{Demand, Produce, InitProducerId, HandedBatch, Partition, Core}
use Rattle.kp_rules.specs.Requesting.{Packet}
use Rattle.kp_world.specs.declared.event.Event.{Event}
use Rattle.kp_world.specs.declared.event.Event.TheVariants as schedule
use Rattle.kp_world.specs.declared.event.Treatment.{Treatment}
use Rattle.kp_world.specs.declared.event.Treatment.TheVariants.{Judged, Refused, Late}
use Rattle.kp_world.specs.Client.{handed_at, has_partition, client}
use Rattle.kp_world.specs.Delivering.{log_at, Delivery, PartDelivers, PartsDeliver, HasNone, IsFresh, Delivers, with_records, logs_with_others}
use Rattle.kp_world.specs.Events.{WorldEvent, record_at, other_records, meant, moment_after, events_of}
use Rattle.kp_world.specs.Events as event
use Rattle.kp_world.specs.Loopback.{treated, with_part, answer_to, logs_with, answers_to, next_id, with_id, delivered}
use Rattle.kp_world.specs.Message.{sent_of, Says, Answers, part_response, response_of}
use Rattle.kp_world.specs.Noting.{noted}
use Rattle.kp_world.specs.Replay.{MayTreat, MayHappen, arrived, stepped, replayed_from, replayed}
use Rattle.kp_world.specs.Run.{with_delivery, with_others_at, Steps, Run}
use Rattle.kp_world.specs.World.{PartAnswer, ReplyContent, Batches, Id, Reply, World, opening, scheduled}
use Rattle.kp_world.proofs.BrokerLemmas.{Agrees, AllAgree, Known, PartsDelivered, parts_delivered}
use Rattle.kp_world.proofs.EventLemmas.{at_sent, at_taken, OfEvent, at_client, at_only_if}
use Rattle.kp_world.proofs.FlightLemmas.{Carried}
use Rattle.kp_world.proofs.LawfulLemmas.{IsLawfulWithin}
use Rattle.kp_world.proofs.PrefixLemmas.{Cut, none_appended}
use Rattle.kp_world.proofs.RunLemmas.{parts_known, lawful_step, lawful_opening_within}
use Rattle.kp_world.proofs.SoundLemmas.{Sound, sents}
use Rattle.kp_rules.proofs.ListLemmas.{all_by, all_say, all_weaker, at_put}
use Rattle.kp_world.proofs.ListLemmas.{In-map, all_alike, all_at, in_at}
use Rattle.kp_wire.proofs.ListLemmas.{all_append}

-- ---- logs: in a replay no other producer has a record under an id

abbrev IsCounted : History → Type 0
IsCounted h = (id : ℕ) → count_of (pos id) h.records ≡ count_of (pos id) (records_of h.batches)

abbrev AreCounted : List History → Type 0
AreCounted logs = (p : ℕ) → IsCounted (log_at p logs)

counted_step : (h h' : History) (b : Sent) (a : Answered) → BrokerStep h b a h' → IsCounted h → IsCounted h'
counted_step h h' b a step c =
    ⊎_elim (λ (same : h' ≡ h). subst IsCounted (sym same) c) (λ (may : MayAppend h b × (h' ≡ with_batch b h)). subst IsCounted (sym may.1) more) step.change
  where
    more : IsCounted (with_batch b h)
    more id =
        count_of-append (pos id) h.records (stored_of b)
        ∙ omega (arith, c id, count_of-append (pos id) (records_of h.batches) (stored_of b ++ []), count_of-append (pos id) (stored_of b) [])
        ∙ ap (count_of (pos id)) (sym (flat_map-append stored_of h.batches (b ∷ [])))

counted_set : (p : ℕ) (log : History) (logs : List History) → IsCounted log → AreCounted logs → AreCounted (slice_set logs p log)
counted_set p log logs c all q = at_put IsCounted logs p q log empty_history (λ e. c) (all q)

counted_parts : (logs logs' : List History) (xs : List Sending) (answers : List PartAnswer) → PartsDeliver logs xs answers logs' → AreCounted logs → AreCounted logs'
unfolding PartsDeliver
counted_parts logs logs' [] [] d all = subst AreCounted (sym d) all
counted_parts logs logs' (x ∷ xs) (a ∷ answers) d all =
    let step : PartDelivers logs x a d.0 = d.1 in
    let log = counted_step (log_at x.partition logs) step.log (sent_of x.batch) a.answer step.step (all x.partition) in
    counted_parts d.0 logs' xs answers d.2 (subst AreCounted (sym step.after_is) (counted_set x.partition step.log logs log all))
counted_parts logs logs' [] (a ∷ answers) d all = absurd d
counted_parts logs logs' (x ∷ xs) [] d all = absurd d

counted_delivered : (w : World) (e : Demand Sending) (d : Delivery) → Delivers w e d → AreCounted w.logs → AreCounted d.logs
unfolding Delivers
counted_delivered w (Produce xs) d honest all = counted_parts w.logs d.logs xs honest.0 honest.1 all
counted_delivered w (InitProducerId p) d honest all = subst AreCounted (sym honest.1) all

counted_others : (n p : ℕ) (logs : List History) → AreCounted logs → AreCounted (logs_with_others p (other_records n) logs)
counted_others n p logs all = counted_set p (with_records (other_records n) (log_at p logs)) logs more all
  where
    more : IsCounted (with_records (other_records n) (log_at p logs))
    more id = count_of-append (pos id) (log_at p logs).records (other_records n) ∙ omega (arith, all p id, others_count id n (record_at 0 (codes "other")))

-- ---- batches

came_by : (ids : List ℕ) (t : Partition) (handed : List HandedBatch) (h : History) → Sound ids t handed h → Cut t handed h → IsCounted h → CameBy (sents handed) h
came_by ids t handed h s cut c = record {
  first = λ id. (
    of_id id (sents cut.rest),
    ap (of_id id) (ap sents cut.split ∙ map-append sent_of cut.landed cut.rest)
        ∙ filter-append (λ (b : Sent). b.id == id) (sents cut.landed) (sents cut.rest)
        ∙ ap (λ z. of_id id z ++ of_id id (sents cut.rest)) (sym cut.appended),
  );
  whole = s.came.whole;
  counted = c;
}

honest : (how : Treatment) (handed : List HandedBatch) (ids : List ℕ) (t : Partition) (h : History) (b : HandedBatch) → MayTreat how → Sound ids t handed h → Cut t handed h → IsCounted h → In b handed
    → BrokerStep h (sent_of b) (treated how h (sent_of b)).answer (treated how h (sent_of b)).history
honest Judged handed ids t h b may s cut c i =
    loopback_step (sents handed) h (sent_of b) s.in_sequence (came_by ids t handed h s cut c) (contains_from_In (sents handed) (sent_of b) (In-map sent_of b handed i))
honest (Refused code) handed ids t h b may s cut c i =
    record { change = inl refl; stands = λ e. absurd (may.0 e); is_old = λ e. absurd (may.1 e) }
honest (Late code) handed ids t h b may s cut c i = late_step h (sent_of b) code may.0 may.1

honest_parts : {most : ℕ} (how : Treatment) (n k : ℕ) (ids : List ℕ) (core : Core) (handed : List (List HandedBatch)) (packets : List Packet) (replies : List Reply) → MayTreat how → (xs : List Sending) (logs : List History)
    → length logs ≡ n → AllAgree most n ids core handed logs packets replies → AreCounted logs → Known n k handed packets xs → PartsDeliver logs xs (answers_to how logs xs) (logs_with how logs xs)
unfolding PartsDeliver answers_to logs_with
honest_parts how n k ids core handed packets replies may [] logs size all counts known = refl
honest_parts {most = most} how n k ids core handed packets replies may (x ∷ xs) logs size all counts known =
    (with_part how logs x, one, honest_parts how n k ids core handed packets replies may xs (with_part how logs x) (after.count ∙ size) after.agree counts_after (λ y i. known y (In-tail y x xs i)))
  where
    mine : (x.partition < n) × In x.batch (handed_at x.partition handed) × Carried x.partition k packets x.batch
    mine = known x (In-head x xs)

    both : Agrees most n ids core handed logs packets replies x.partition
    both = all x.partition mine.0

    one : PartDelivers logs x (answer_to how logs x) (with_part how logs x)
    one = record {
      partition = refl;
      log = (treated how (log_at x.partition logs) (sent_of x.batch)).history;
      step = honest how (handed_at x.partition handed) ids (partition_at x.partition core.partitions) (log_at x.partition logs) x.batch may both.sound both.steady.cut (counts x.partition) mine.1;
      after_is = refl;
    }

    after : PartsDelivered most n k ids core handed logs (with_part how logs x) packets replies (answer_to how logs x ∷ [])
    after = parts_delivered n k ids core handed logs (with_part how logs x) packets replies (x ∷ []) (answer_to how logs x ∷ []) size all (λ y i. known y (In-append_left y (x ∷ []) xs i)) (with_part how logs x, one, refl)

    counts_after : AreCounted (with_part how logs x)
    counts_after = counted_parts logs (with_part how logs x) (x ∷ []) (answer_to how logs x ∷ []) (with_part how logs x, one, refl) counts

-- ---- ids, which the loopback broker draws in order

abbrev AreDrawn : List ℕ → Type 0
AreDrawn ids = AllByRecursion (λ (id : ℕ). id < next_id ids) ids

next_is_fresh : {most : ℕ} (n : ℕ) (w : World) → IsLawfulWithin most n w → AreDrawn w.ids → AreCounted w.logs → IsFresh w.logs w.ids (next_id w.ids)
next_is_fresh n w g drawn counts = (
  all_weaker (λ (id : ℕ). id < next_id w.ids) (λ (id : ℕ). id ≡ next_id w.ids → ⊥) (λ id below e. omega (arith, below, e)) w.ids drawn,
  all_by (λ (h : History). HasNone h.records (next_id w.ids)) w.logs empty_history (λ p l. none p (subst (λ (m : ℕ). p < m) g.logs_count l)),
)
  where
    apart : In (next_id w.ids) w.ids → ⊥
    apart i = let below : next_id w.ids < next_id w.ids = all_at (λ (id : ℕ). id < next_id w.ids) w.ids (next_id w.ids) drawn i in omega (arith, below)

    none : (p : ℕ) → p < n → HasNone (log_at p w.logs).records (next_id w.ids)
    none p l =
        let both = g.agree p l in
        counts p (next_id w.ids) ∙ none_appended w.ids (next_id w.ids) (partition_at p w.core.partitions) (handed_at p w.handed) (log_at p w.logs) both.sound both.steady.cut apart

drawn_next : (ids : List ℕ) → AreDrawn ids → AreDrawn (with_id ids)
drawn_next ids drawn =
    let size : length (with_id ids) ≡ length ids + 1 = length-append ids (next_id ids ∷ []) in
    all_append (λ (id : ℕ). id < next_id (with_id ids)) ids (next_id ids ∷ []) (all_weaker (λ (id : ℕ). id < next_id ids) (λ (id : ℕ). id < next_id (with_id ids)) (λ id below. omega (arith, below, size)) ids drawn) (omega (arith, size), tt)

drawn_delivered : (how : Treatment) (w : World) (d : Demand Sending) → AreDrawn w.ids → AreDrawn (delivered how w d).ids
unfolding delivered
drawn_delivered how w (Produce xs) drawn = drawn
drawn_delivered Judged w (InitProducerId p) drawn = drawn_next w.ids drawn
drawn_delivered (Refused code) w (InitProducerId p) drawn = drawn
drawn_delivered (Late code) w (InitProducerId p) drawn = drawn_next w.ids drawn

-- ---- a packet

-- the ids are drawn in order, and no other producer has a record under one
abbrev IsPlain : World → Type 0
IsPlain w = AreDrawn w.ids × AreCounted w.logs

honest_id : {most : ℕ} (n : ℕ) (how : Treatment) (w : World) (p : ℕ) → MayTreat how → IsLawfulWithin most n w → IsPlain w → Delivers w (InitProducerId p) (delivered how w (InitProducerId p))
unfolding Delivers delivered
honest_id n Judged w p may g plain = (inr (next_id w.ids, next_is_fresh n w g plain.0 plain.1, refl, inr refl), refl)
honest_id n (Refused code) w p may g plain = (inl (may.0, refl), refl)
honest_id n (Late code) w p may g plain = (inr (next_id w.ids, next_is_fresh n w g plain.0 plain.1, refl, inl may.0), refl)

honest_packet : {most : ℕ} (n : ℕ) (how : Treatment) (w : World) (o : Packet) → MayTreat how → IsLawfulWithin most n w → IsPlain w → In o w.packets → Delivers w o.demand (delivered how w o.demand)
unfolding Delivers delivered
honest_packet n how w o may g plain i = at_demand o.demand refl
  where
    at_demand : (d : Demand Sending) → o.demand ≡ d → Delivers w d (delivered how w d)
    at_demand (Produce xs) is = (answers_to how w.logs xs, honest_parts how n o.correlation w.ids w.core w.handed w.packets w.replies may xs w.logs g.logs_count g.agree plain.1 (parts_known n w o xs g i is), refl, refl)
    at_demand (InitProducerId p) is = honest_id n how w p may g plain

-- ---- a reply

says_each : (all parts : List PartAnswer) → ((a : PartAnswer) → In a parts → In a all) → AllByRecursion (Says all) (map part_response parts)
says_each all [] there = tt
says_each all (a ∷ parts) there = (
  record { part = a; answered = contains_from_In all a (there a (In-head a parts)); partition = refl; code = refl; base = refl },
  says_each all parts (λ b i. there b (In-tail b a parts i)),
)

pub answers_so : (k : ℕ) (c : ReplyContent) → Answers k c (response_of k c)
answers_so k (Batches parts) = record { named = refl; says = subst (AllByRecursion (Says parts)) (sym (append-nil (map part_response parts))) (says_each parts parts (λ a i. i)) }
answers_so k (Id code id) = record { named = refl; says = (refl, λ zero. refl) }

-- ---- an event

-- the moment that the clock shows behind an event
abbrev moment_behind : ℕ → WorldEvent → ℕ
moment_behind now (event.Now moment) = moment
moment_behind now e = now

-- the world is plain still, and the clock shows what it is set to
abbrev Comes : World → WorldEvent → World → Type 0
Comes w e v = IsPlain v × (v.moment ≡ moment_behind w.moment e)

plain_client : (w : World) → IsPlain w → OfEvent (Comes w) w
unfolding noted
plain_client w plain = record {
  not_accepted = λ s p at body. ((plain, refl), (plain, refl));
  accepted = λ s p at body here there going fits. (plain, refl);
  none_taken = λ s none. (plain, refl);
  taken = λ s i there is. at_taken (Comes w (event.Take s)) s i w (plain, refl) (plain, refl);
  now = λ moment. (plain, refl);
  tick = λ node. (plain, refl);
  send = λ node. let step = request_step node w.moment w.core in at_sent (Comes w (event.Send node)) w step.after step.answer (λ line. (plain, refl)) (λ o line. (plain, refl));
  reply = λ j r is. (plain, refl);
  lost = λ node. (plain, refl);
  led = λ p node. (plain, refl);
  close = (plain, refl);
  end = (plain, refl);
  flush = (plain, refl);
}

-- a step that the event makes
abbrev Goes : World → WorldEvent → World → Type 0
Goes w e v = Steps w e v × Comes w e v

arrives : {most : ℕ} (n k : ℕ) (how : Treatment) (w v : World) → MayTreat how → IsLawfulWithin most n w → IsPlain w → arrived k how (slice_get w.packets k) w ≡ Some v → Goes w (event.Deliver k) v
unfolding with_delivery noted Steps
arrives n k how w v may g plain e = at_packet (slice_get w.packets k) refl e
  where
    at_packet : (o : Option Packet) → slice_get w.packets k ≡ o → arrived k how o w ≡ Some v → Goes w (event.Deliver k) v
    at_packet None is e' = absurd cc
    at_packet (Some o) is e' =
        let d = delivered how w o.demand in
        let x = response_of o.correlation d.content in
        let same : with_delivery o d x w ≡ v = cc in (
          record { packet = o; went_out = is; delivery = d; honest = honest_packet n how w o may g plain (in_at w.packets k o is); response = x; answers = answers_so o.correlation d.content; after_is = sym same },
          subst (λ (u : World). Comes w (event.Deliver k) u) same ((drawn_delivered how w o.demand plain.0, counted_delivered w o.demand d (honest_packet n how w o may g plain (in_at w.packets k o is)) plain.1), refl),
        )

others : (p m : ℕ) (w v : World) → with_others_at p (other_records m) w ≡ Some v → IsPlain w → Goes w (event.Other p (other_records m)) v
unfolding with_others_at noted Steps
others p m w v e plain = (
  (all_say (HasNone (other_records m)) (λ id. others_count id m (record_at 0 (codes "other"))) w.ids, e),
  at_only_if (Comes w (event.Other p (other_records m))) (has_partition p w) _ v e (λ there. ((plain.0, counted_others m p w.logs plain.1), refl)),
)

by_client : (w : World) (e : WorldEvent) (v : World) → IsPlain w → client e w ≡ Some v → Comes w e v
by_client w e v plain is = at_client (Comes w) w (plain_client w plain) e v is

steps : {most : ℕ} (n : ℕ) (e : Event) (w v : World) → MayHappen e → IsLawfulWithin most n w → IsPlain w → stepped e w ≡ Some v → Goes w (meant w.moment e) v
unfolding stepped Steps client
steps n (schedule.Deliver k how) w v may g plain e = arrives n k how w v may g plain e
steps n (schedule.Other p m) w v may g plain e = others p m w v e plain
steps n (schedule.Accept s p value) w v may g plain e = (e, by_client w (event.Accept s p w.moment (record_at w.moment value)) v plain e)
steps n (schedule.Take s) w v may g plain e = (e, by_client w (event.Take s) v plain e)
steps n (schedule.Now moment) w v may g plain e = (e, by_client w (event.Now moment) v plain e)
steps n schedule.Tick w v may g plain e = (e, by_client w (event.Tick 0) v plain e)
steps n (schedule.TickNode node) w v may g plain e = (e, by_client w (event.Tick node) v plain e)
steps n schedule.Send w v may g plain e = (e, by_client w (event.Send 0) v plain e)
steps n (schedule.SendNode node) w v may g plain e = (e, by_client w (event.Send node) v plain e)
steps n (schedule.Reply j) w v may g plain e = (e, by_client w (event.Reply j) v plain e)
steps n schedule.Drop w v may g plain e = (e, by_client w (event.Drop 0) v plain e)
steps n (schedule.DropNode node) w v may g plain e = (e, by_client w (event.Drop node) v plain e)
steps n (schedule.Leader p node) w v may g plain e =
    at_only_if (Goes w (event.Lead p node)) (has_partition p w) _ v e (λ there. (refl, by_client w (event.Lead p node) _ plain refl))
steps n schedule.Close w v may g plain e = (e, by_client w event.Close v plain e)
steps n schedule.End w v may g plain e = (e, by_client w event.End v plain e)
steps n schedule.Flush w v may g plain e = (e, by_client w event.Flush v plain e)

same_moment : (now : ℕ) (e : Event) → moment_behind now (meant now e) ≡ moment_after now e
same_moment now (schedule.Deliver k how) = refl
same_moment now (schedule.Other p m) = refl
same_moment now (schedule.Accept s p value) = refl
same_moment now (schedule.Take s) = refl
same_moment now (schedule.Now moment) = refl
same_moment now schedule.Tick = refl
same_moment now (schedule.TickNode node) = refl
same_moment now schedule.Send = refl
same_moment now (schedule.SendNode node) = refl
same_moment now (schedule.Reply j) = refl
same_moment now schedule.Drop = refl
same_moment now (schedule.DropNode node) = refl
same_moment now (schedule.Leader p node) = refl
same_moment now schedule.Close = refl
same_moment now schedule.End = refl
same_moment now schedule.Flush = refl

-- ---- a replay

is_run : {most : ℕ} (n k : ℕ) (es : List Event) (w v : World) → AllByRecursion MayHappen es → IsLawfulWithin most n w → IsPlain w → replayed_from k es w ≡ Ok v → Run w (events_of w.moment es) v
unfolding replayed_from events_of Run
is_run n k [] w v may g plain e = let same : w ≡ v = cc in sym same
is_run n k (x ∷ es) w v may g plain e =
    at_world (stepped x w) refl e (λ u s d e'. is_run n (k + 1) es u v may.1 (lawful_step n (meant w.moment x) w u s g) d e')
  where
    at_world : (o : Option World) → stepped x w ≡ o → elim o as (λ _. Result World ℕ) [ Some u ↦ replayed_from (k + 1) es u | None ↦ Err k ] ≡ Ok v
        → ((u : World) → Steps w (meant w.moment x) u → IsPlain u → replayed_from (k + 1) es u ≡ Ok v → Run u (events_of u.moment es) v) → Run w (events_of w.moment (x ∷ es)) v
    at_world None is e' later = absurd cc
    at_world (Some u) is e' later =
        let one = steps n x w u may.0 g plain is in
        let moment : u.moment ≡ moment_after w.moment x = one.1.1 ∙ same_moment w.moment x in
        (u, one.0, subst (λ (m : ℕ). Run u (events_of m es) v) moment (later u one.0 one.1.0 e'))

pub replay_is_run : (c : Config) (partitions senders : ℕ) (es : List Event) (w : World) → AllByRecursion MayHappen es → replayed es (opening (scheduled c partitions senders)) ≡ Ok w → Run (opening (scheduled c partitions senders)) (events_of 0 es) w
unfolding replayed opening
replay_is_run c partitions senders es w may e =
    is_run {most = c.max_in_flight_requests_per_connection + 1} partitions 0 es (opening (scheduled c partitions senders)) w may (lawful_opening_within (scheduled c partitions senders) (omega arith) (omega arith)) ((omega arith, tt), none) e
  where
    none : AreCounted (replicate partitions empty_history)
    none p = subst IsCounted (sym (all_alike partitions p empty_history)) (λ id. refl)
