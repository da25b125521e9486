-- What was handed over grows by the front batch, and what goes out, and what a log has, is of it.
use Rattle.std.proofs.Common.{◌≡◌, ◌⊎◌, ℕ, ◌<◌, List, [], ◌∷◌, ◌++◌, length, map, ℤ, pos, Some, None, refl, sym, ap, ◌∙◌, subst, inl, inr, ⊎_elim, append_assoc}
use Rattle.std.specs.Prelude.{Option, option_map, slice_get, false}
use Rattle.std.proofs.lemmas.List.{append-nil, map-append}
use Rattle.std.proofs.lemmas.List.Concat.{flat_map-append}
use Rattle.std.proofs.lemmas.Option.{slice_get-map, slice_get_within}
use Rattle.kp_batch.specs.declared.record.Record.{Record}
use Rattle.kp_accum.specs.declared.config.Config.{Config}
use Rattle.kp_accum.specs.declared.item.Item.{Item}
use Rattle.kp_accum.specs.Queue.{Pending, body_of}
use Rattle.kp_log.specs.declared.stored.Stored.{Stored}
use Rattle.kp_log.specs.History.{History, stored_of}
use Rattle.kp_log.specs.Log.{stored_as}
use Rattle.kp_log.proofs.PlaceLemmas.{In, In-from_contains}
use Rattle.kp_log.proofs.SegmentLemmas.{slice_get_left}
use Rattle.kp_rules.proofs.CallLemmas.{at_request}
use Rattle.kp_rules.proofs.SendingLemmas.{demand_is_sent}
use Rattle.kp_rules.specs.HandingOver.{hand_over_in, send_in}
use Rattle.kp_rules.specs.MaySend.{new_batch}
use Rattle.kp_rules.specs.Next.{Sending, flags_of, next_demand}
use Rattle.kp_rules.specs.Partitions.{partition_at}
use Rattle.kp_rules.specs.Records.{Demand, Produce, InitProducerId, HandedBatch, Partition}
use Rattle.kp_rules.specs.Requesting.{Requested, go_out, request_step}
use Rattle.kp_world.specs.Accounts.{is_among, items_of, items_handed, unsent_among}
use Rattle.kp_world.specs.Client.{grown_by, handed_at, sending}
use Rattle.kp_world.specs.Delivering.{log_at}
use Rattle.kp_world.specs.Events.{WorldEvent}
use Rattle.kp_world.specs.Events as event
use Rattle.kp_world.specs.Facts.{facts, told_in}
use Rattle.kp_world.specs.Handed.{HandsFront, GrowsByFront, GrowsAtEnd, AreHandedOver, GoesOutTheSame, AreItems}
use Rattle.kp_world.specs.LogLaws.{partition_of, as_stored, IsPrefix, WentOut}
use Rattle.kp_world.specs.Message.{sent_of}
use Rattle.kp_world.specs.Noting.{noted}
use Rattle.kp_world.specs.Run.{with_delivery, Steps, Run, IsReached}
use Rattle.kp_world.specs.World.{World, Opening}
use Rattle.kp_world.proofs.AccountedLemmas.{handed_is_sent}
use Rattle.kp_world.proofs.AccountRunLemmas.{order_reached}
use Rattle.kp_world.proofs.EventLemmas.{at_taken, OfEvent, at_step, at_run}
use Rattle.kp_world.proofs.LawfulLemmas.{PartsIn, IsLawful, GoesAgain, GoesFirst, sends_cases}
use Rattle.kp_world.proofs.ListLemmas.{all_at, got_at, in_at}
use Rattle.kp_world.proofs.LogLawLemmas.{log_is_prefix}
use Rattle.kp_world.proofs.RequestLemmas.{at_sent_out, grown_known, grown_new}
use Rattle.kp_world.proofs.RunLemmas.{lawful_step, lawful_reached}
use Rattle.kp_world.proofs.SendingLemmas.{find_open}
use Rattle.kp_world.proofs.SoundLemmas.{Sound}

-- ---- a partition when a request goes out

-- nothing was handed over, or the front batch was
abbrev Grows : Partition → List HandedBatch → Partition → List HandedBatch → Type 0
Grows t handed t' handed' =
    (handed' ≡ handed) ⊎ ((front : Pending) × (t.queue ≡ front ∷ t'.queue) × (handed' ≡ handed ++ new_batch t front ∷ []))

grows_again : (k : ℕ) (ids : List ℕ) (t : Partition) (handed : List HandedBatch) (h : History) (b : HandedBatch) → Sound ids t handed h → GoesAgain k t b → Grows t handed (send_in k t) (grown_by b handed)
grows_again k ids t handed h b s a =
    let known : In b handed = subst (λ (c : HandedBatch). In c handed) a.batch (find_open handed t.open_batches a.lowest a.waits s.opens) in
    inl (grown_known b handed (s.numbers b known))

grows_first : (k : ℕ) (c : Config) (t : Partition) (handed : List HandedBatch) (b : HandedBatch) → t.next_number ≡ length handed → GoesFirst k c t b → Grows t handed (send_in k t) (grown_by b handed)
unfolding hand_over_in
grows_first k c t handed b n a = inr (
  a.front,
  a.queue_is ∙ ap (λ (u : Partition). a.front ∷ u.queue) (sym a.after_is),
  grown_new b handed (ap (λ (x : HandedBatch). x.number) a.batch ∙ n) ∙ ap (λ (x : HandedBatch). handed ++ x ∷ []) a.batch,
)

-- ---- an event

grown : (p node : ℕ) (e : WorldEvent) (w v : World) → e ≡ event.Send node → Grows (partition_at p w.core.partitions) (handed_at p w.handed) (partition_at p v.core.partitions) (handed_at p v.handed) → GrowsByFront p e (facts w) (facts v)
grown p node e w v is g = ⊎_elim
    (λ (same : handed_at p v.handed ≡ handed_at p w.handed). inl same)
    (λ (x : (front : Pending) × ((partition_at p w.core.partitions).queue ≡ front ∷ (partition_at p v.core.partitions).queue) × (handed_at p v.handed ≡ handed_at p w.handed ++ new_batch (partition_at p w.core.partitions) front ∷ [])).
    inr (node, is, record { front = x.0; queue = x.1; handed = x.2 }))
    g

grows_sent : (n p node : ℕ) (w : World) → IsLawful n w → p < n
    → GrowsByFront p (event.Send node) (facts w) (facts (sending w (request_step node w.moment w.core).after (request_step node w.moment w.core).answer))
unfolding noted
grows_sent n p node w g l =
    at_request (λ (r : Requested). GrowsByFront p (event.Send node) (facts w) (facts (sending w r.after r.answer))) node w.moment w.core (record {
      ended = inl refl;
      idle = inl refl;
      spent = inl refl;
      out = λ going d e unspent. out d e;
    })
  where
    s : Sound w.ids (partition_at p w.core.partitions) (handed_at p w.handed) (log_at p w.logs)
    s = (g.agree p l).sound

    out : (d : Demand Sending) → next_demand node w.moment w.core ≡ Some d → GrowsByFront p (event.Send node) (facts w) (facts (sending w (go_out node w.moment w.core d).after (go_out node w.moment w.core d).answer))
    out (InitProducerId q) e = inl refl
    out (Produce xs) e =
        grown p node (event.Send node) w (sending w (go_out node w.moment w.core (Produce xs)).after (go_out node w.moment w.core (Produce xs)).answer) refl
        (at_sent_out (Grows (partition_at p w.core.partitions) (handed_at p w.handed)) node w.moment w.core xs w.handed p (demand_is_sent node w.moment w.core xs e) (g.count ∙ sym g.handed_count) (subst (λ (m : ℕ). p < m) (sym g.count) l) (record {
          passed_by = λ is. inl refl;
          sent = λ b goes only. ⊎_elim
              (λ (a : GoesAgain w.core.correlation (partition_at p w.core.partitions) b). grows_again w.core.correlation w.ids (partition_at p w.core.partitions) (handed_at p w.handed) (log_at p w.logs) b s a)
              (λ (a : GoesFirst w.core.correlation w.core.config (partition_at p w.core.partitions) b). grows_first w.core.correlation w.core.config (partition_at p w.core.partitions) (handed_at p w.handed) b s.number a)
              (sends_cases w.core.config (flags_of w.core) w.moment w.core.correlation (partition_at p w.core.partitions) b goes);
        }))

grows_event : (n p : ℕ) (w : World) → IsLawful n w → p < n → OfEvent (λ e v. GrowsByFront p e (facts w) (facts v)) w
unfolding noted
grows_event n p w g l = record {
  not_accepted = λ s q at body. (inl refl, inl refl);
  accepted = λ s q at body here there shut small. inl refl;
  none_taken = λ s none. inl refl;
  taken = λ s i here there. at_taken (λ v. GrowsByFront p (event.Take s) (facts w) (facts v)) s i w (inl refl) (inl refl);
  now = λ moment. inl refl;
  tick = λ node. inl refl;
  send = λ node. grows_sent n p node w g l;
  reply = λ j r there. inl refl;
  lost = λ node. inl refl;
  led = λ q node. inl refl;
  close = inl refl;
  end = inl refl;
  flush = inl refl;
}

grows_step : (n p : ℕ) (w : World) → IsLawful n w → p < n → (e : WorldEvent) (v : World) → Steps w e v → GrowsByFront p e (facts w) (facts v)
unfolding with_delivery noted
grows_step n p w g l e v s = at_step (λ e v. GrowsByFront p e (facts w) (facts v)) w (record {
  client = grows_event n p w g l;
  arrives = λ k o d x went honest says. inl refl;
  others = λ q records others there. inl refl;
}) e v s

pub grows_by_front : (o : Opening) (es : List WorldEvent) (w : World) (e : WorldEvent) (v : World) → IsReached o es w → Steps w e v → (p : ℕ) → p < o.partitions → GrowsByFront p e (facts w) (facts v)
grows_by_front o es w e v r s p l = grows_step o.partitions p w (lawful_reached o es w r) l e v s

-- ---- a run

at_end : (p : ℕ) (e : WorldEvent) (u w v : World) → GrowsAtEnd p (facts u) (facts w) → GrowsByFront p e (facts w) (facts v) → GrowsAtEnd p (facts u) (facts v)
at_end p e u w v g h = ⊎_elim
    (λ (same : handed_at p v.handed ≡ handed_at p w.handed). (g.0, same ∙ g.1))
    (λ (x : (node : ℕ) × (e ≡ event.Send node) × HandsFront p (facts w) (facts v)).
    let b = new_batch (partition_of p (facts w)) x.2.front in
    (g.0 ++ b ∷ [], x.2.handed ∙ ap (λ (bs : List HandedBatch). bs ++ new_batch (partition_of p (facts w)) x.2.front ∷ []) g.1 ∙ append_assoc (handed_at p u.handed) g.0 (b ∷ [])))
    h

pub grows_at_end : (o : Opening) (es : List WorldEvent) (w : World) (later : List WorldEvent) (v : World) → IsReached o es w → Run w later v → (p : ℕ) → p < o.partitions → GrowsAtEnd p (facts w) (facts v)
grows_at_end o es w later v r run p l =
    (at_run (λ (u : World). IsLawful o.partitions u × GrowsAtEnd p (facts w) (facts u)) (λ u h e x s. (lawful_step o.partitions e u x s h.0, at_end p e w u x h.1 (grows_step o.partitions p u h.0 l e x s))) later w v run
    (lawful_reached o es w r, ([], sym (append-nil (handed_at p w.handed))))).1

-- ---- packets

-- a batch that went out is at its place
at_place : (n : ℕ) (w : World) → IsLawful n w → (p : ℕ) (b : HandedBatch) → WentOut (facts w) p b → slice_get (handed_at p w.handed) b.number ≡ Some b
at_place n w g p b x =
    let parts : PartsIn n w.handed (Produce x.parts) = subst (PartsIn n w.handed) x.demand (g.went x.packet (In-from_contains w.packets x.packet x.sent)).parts in
    let known = all_at (λ (y : Sending). (y.partition < n) × In y.batch (handed_at y.partition w.handed)) x.parts (record { partition = p; batch = b }) parts (In-from_contains x.parts (record { partition = p; batch = b }) x.part) in
    let number : b.number ≡ length known.1.earlier = (g.agree p known.0).steady.cut.places known.1.earlier known.1.later b known.1.split in
    ap (λ (bs : List HandedBatch). slice_get bs b.number) known.1.split ∙ got_at known.1.earlier known.1.later b b.number number

pub are_handed_over : (o : Opening) (es : List WorldEvent) (w : World) → IsReached o es w → AreHandedOver (facts w)
are_handed_over o es w r = at_place o.partitions w (lawful_reached o es w r)

pub goes_out_the_same : (o : Opening) (es : List WorldEvent) (w : World) → IsReached o es w → GoesOutTheSame (facts w)
goes_out_the_same o es w r p b c x y same =
    let first : slice_get (handed_at p w.handed) b.number ≡ Some b = are_handed_over o es w r p b x in
    let second : slice_get (handed_at p w.handed) b.number ≡ Some c = ap (slice_get (handed_at p w.handed)) same ∙ are_handed_over o es w r p c y in
    cc

-- ---- the log, item by item

bodies_stored : (id : ℤ) (rs : List Record) → map (λ s. s.body) (stored_as id rs) ≡ rs
bodies_stored id [] = refl
bodies_stored id (r ∷ rs) = ap (λ z. r ∷ z) (bodies_stored id rs)

-- the records of batches are those of their items
pub bodies_as_stored : (bs : List HandedBatch) → map (λ s. s.body) (as_stored bs) ≡ map body_of (items_of bs)
bodies_as_stored [] = refl
bodies_as_stored (b ∷ bs) =
    map-append (λ (s : Stored). s.body) (stored_of (sent_of b)) (as_stored bs)
    ∙ ap (λ z. z ++ map (λ s. s.body) (as_stored bs)) (bodies_stored (pos b.id) (map body_of b.items))
    ∙ ap (λ z. map body_of b.items ++ z) (bodies_as_stored bs)
    ∙ sym (map-append body_of b.items (items_of bs))

-- where a list's element was made of one
got_mapped : {A B : Type 0} (f : A → B) (o : Option A) (y : B) → option_map f o ≡ Some y → (x : A) × (o ≡ Some x) × (y ≡ f x)
got_mapped f None y e = absurd cc
got_mapped f (Some x) y e = (x, refl, cc)

item_at : (bs : List HandedBatch) (k : ℕ) (s : Stored) → slice_get (as_stored bs) k ≡ Some s → (i : Item) × (slice_get (items_of bs) k ≡ Some i) × (s.body ≡ body_of i)
item_at bs k s e =
    let body : slice_get (map body_of (items_of bs)) k ≡ Some s.body =
    ap (λ z. slice_get z k) (sym (bodies_as_stored bs)) ∙ slice_get-map (λ (x : Stored). x.body) (as_stored bs) k ∙ ap (option_map (λ (x : Stored). x.body)) e in
    got_mapped body_of (slice_get (items_of bs) k) s.body (sym (slice_get-map body_of (items_of bs) k) ∙ body)

pub are_items : (o : Opening) (es : List WorldEvent) (w : World) → IsReached o es w → (p : ℕ) → p < o.partitions → AreItems p (facts w)
are_items o es w r p l k s e =
    let cut : IsPrefix p (facts w) = log_is_prefix o es w r p l in
    let it = item_at cut.stored k s (ap (λ z. slice_get z k) (sym cut.records) ∙ e) in
    let all : items_handed p (facts w) ≡ items_of cut.stored ++ items_of cut.rest = ap items_of cut.handed ∙ flat_map-append (λ (b : HandedBatch). b.items) cut.stored cut.rest in
    let there : slice_get (items_handed p (facts w)) k ≡ Some it.0 = ap (λ z. slice_get z k) all ∙ slice_get_left (items_of cut.stored) (items_of cut.rest) k (slice_get_within (items_of cut.stored) k it.0 it.1) ∙ it.1 in
    let order = order_reached o es w r in
    record {
      item = it.0;
      handed = there;
      body = it.2;
      sent = all_at (λ (i : Item). is_among i (unsent_among (told_in w.past)) ≡ false) (items_handed p (facts w)) it.0 (handed_is_sent p w order.1 (subst (λ (m : ℕ). p < m) (sym order.0.count) l)) (in_at (items_handed p (facts w)) k it.0 there);
    }
