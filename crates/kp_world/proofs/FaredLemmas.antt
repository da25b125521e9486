-- How each partition fares in a step: a call on the core leaves it so, its front batch is handed over, or it goes on under
-- an id that it is given.
use Rattle.std.proofs.Common.{◌≡◌, ◌⊎◌, ℕ, ◌<◌, Bool, true, false, List, [], ◌∷◌, ◌++◌, length, map, ℤ, pos, negsuc, Some, refl, sym, ap, ◌∙◌, subst, inl, inr, ⊎_elim}
use Rattle.std.specs.Prelude.{Ok, if◌then◌else◌, flat_map, nat_abs, slice_get, slice_set, int_le, not, ◌==◌, ◌||◌, ◌&&◌}
use Rattle.std.specs.Ordering.{int_eq}
use Rattle.std.proofs.lemmas.Bool.{eqb-true}
use Rattle.std.proofs.lemmas.Bool.Decides.{Decides-int_eq}
use Rattle.std.proofs.lemmas.List.{append-nil, get_or-map, length-map, length-set}
use Rattle.std.proofs.lemmas.List.Elements.{Contains-get_or}
use Rattle.kp_accum.specs.declared.config.Config.{Config}
use Rattle.kp_accum.specs.declared.item.Item.{Item}
use Rattle.kp_accum.specs.Queue.{Pending}
use Rattle.kp_frames.specs.declared.producer_id.InitProducerIdResponse.{InitProducerIdResponse}
use Rattle.kp_frames.specs.declared.response.ResponseBody.TheVariants as body
use Rattle.kp_log.proofs.PlaceLemmas.{In, In-head, In-tail, In-from_contains}
use Rattle.kp_rules.proofs.CallLemmas.{at_append, at_close, at_disconnect, at_end_step, at_request, at_response_going, at_tick, by_entries, idle}
use Rattle.kp_rules.proofs.ListLemmas.{at_put}
use Rattle.kp_rules.proofs.OutcomeLemmas.{answered_so, in_flight}
use Rattle.kp_rules.proofs.PartitionLemmas.{at_changed}
use Rattle.kp_rules.proofs.SendingLemmas.{demand_is_sent}
use Rattle.kp_rules.specs.Leading.{led_by, lead_step}
use Rattle.kp_rules.specs.declared.outcome.Reason.TheVariants as reason
use Rattle.kp_rules.specs.Appending.{Appends, append_step, enqueue}
use Rattle.kp_rules.specs.Closing.{close_step, end_step}
use Rattle.kp_rules.specs.Dropping.{drop_requests, disconnect_step, drop_led}
use Rattle.kp_rules.specs.Fence.{give_up}
use Rattle.kp_rules.specs.Flush.{mark, flush_step}
use Rattle.kp_rules.specs.HandingOver.{hand_over_in, send_in}
use Rattle.kp_rules.specs.MaySend.{is_confirmed, new_batch, wants_id}
use Rattle.kp_rules.specs.Mismatch.{entries_for, is_given, answers_id}
use Rattle.kp_rules.specs.Next.{Sending, flags_of, next_demand}
use Rattle.kp_rules.specs.Partitions.{partition_at, with_partition, new_partition, is_in}
use Rattle.kp_rules.specs.Records.{Demand, Produce, InitProducerId, HandedBatch, Partition, Request, Core, Told, Effect, Called, quietly}
use Rattle.kp_rules.specs.Replies.{Replies, awaited, go_on_under, give_id, settle_id, known, response_step}
use Rattle.kp_rules.specs.Requesting.{Requested, go_out, request_step}
use Rattle.kp_rules.specs.Telling.{with_partitions, at_each, at_these}
use Rattle.kp_rules.specs.Tick.{Ticks, heed_deadlines, tick_partitions, tick_step}
use Rattle.kp_log.specs.History.{History}
use Rattle.kp_world.specs.Client.{grown_by, handed_at, reply_line, sending}
use Rattle.kp_world.specs.Delivering.{log_at, given}
use Rattle.kp_world.specs.Events.{WorldEvent}
use Rattle.kp_world.specs.Events as event
use Rattle.kp_world.specs.Facts.{told_in}
use Rattle.kp_world.specs.FreshIds.{GivesId}
use Rattle.kp_world.specs.Message.{Answers}
use Rattle.kp_world.specs.Noting.{noted}
use Rattle.kp_world.specs.Run.{with_delivery, Steps}
use Rattle.kp_world.specs.Line.{Line}
use Rattle.kp_world.specs.World.{Reply, World, Happened, Id as GivenId}
use Rattle.kp_world.proofs.AccountLemmas.{told_noted}
use Rattle.kp_world.proofs.AccountRunLemmas.{IsInOrder, is_single}
use Rattle.kp_world.proofs.EventLemmas.{at_taken, OfEvent, at_step}
use Rattle.kp_world.proofs.FaringLemmas.{in_flat, Fares, fares_more, fares_same, fares_then, fares_marked, fares_queued, fares_given_up, fares_passed, passed_alike, fares_entries, fares_again, fares_led, fares_lead}
use Rattle.kp_world.proofs.HearingLemmas.{id_heard}
use Rattle.kp_world.proofs.LawfulLemmas.{IsLawful, GoesAgain, GoesFirst, sends_cases}
use Rattle.kp_world.proofs.ListLemmas.{in_at}
use Rattle.kp_world.proofs.RequestLemmas.{at_sent_out, grown_known, grown_new}
use Rattle.kp_world.proofs.SendingLemmas.{find_open}
use Rattle.kp_world.proofs.SoundLemmas.{Sound}

-- ---- calls on the core

-- the partition in this core
abbrev pub at : ℕ → Core → Partition
at p s = partition_at p s.partitions

pub record CoreFares (s : Core) (told : List Told) (s' : Core) : Type 0 where
  pub count : length s'.partitions ≡ length s.partitions
  pub each : (p : ℕ) → p < length s.partitions → Fares (at p s) told (at p s')

core_alike : (s : Core) (told : List Told) (s' : Core) → s'.partitions ≡ s.partitions → CoreFares s told s'
core_alike s told s' same = record {
  count = ap length same;
  each = λ p l. subst (λ (ts : List Partition). Fares (at p s) told (partition_at p ts)) (sym same) (fares_same (at p s) told);
}

-- each partition changed so, and nothing told
core_mapped : (f : Partition → Partition) → ((t : Partition) → Fares t [] (f t)) → (s s' : Core) → s'.partitions ≡ map f s.partitions → CoreFares s [] s'
core_mapped f k s s' e = record {
  count = ap length e ∙ length-map s.partitions f;
  each = λ p l. subst (Fares (at p s) []) (sym (ap (partition_at p) e ∙ get_or-map f s.partitions p (new_partition 0) (new_partition 0) l)) (k (at p s));
}

core_dropped : (node now : ℕ) (s : Core) → CoreFares s [] (drop_requests node now s)
unfolding drop_requests
core_dropped node now s = core_mapped (drop_led node now) (fares_led node now) s (drop_requests node now s) refl

core_flushed : (s : Core) → CoreFares s [] (flush_step s)
unfolding flush_step
core_flushed s = core_mapped mark fares_marked s (flush_step s) refl

core_each : (rule : Partition → Effect) → ((t : Partition) → Fares t (rule t).told (rule t).after) → (s : Core) → CoreFares s (at_each rule s).told (at_each rule s).after
unfolding at_each with_partitions
core_each rule k s = record {
  count = length-map s.partitions (λ t. (rule t).after);
  each = λ p l. subst (Fares (at p s) (flat_map (λ t. (rule t).told) s.partitions)) (sym (get_or-map (λ t. (rule t).after) s.partitions p (new_partition 0) (new_partition 0) l))
      (fares_more (at p s) (rule (at p s)).told (flat_map (λ t. (rule t).told) s.partitions) (rule (at p s)).after
      (λ x i. in_flat (λ t. (rule t).told) s.partitions (at p s) x (In-from_contains s.partitions (at p s) (Contains-get_or s.partitions p (new_partition 0) l)) i) (k (at p s)));
}

pub in_places : (p : ℕ) (ps : List ℕ) → is_in p ps ≡ true → In p ps
in_places p [] e = absurd cc
in_places p (q ∷ ps) e = at_test (q == p) refl e (in_places p ps)
  where
    at_test : (b : Bool) → (q == p) ≡ b → b || is_in p ps ≡ true → (is_in p ps ≡ true → In p ps) → In p (q ∷ ps)
    at_test true is e' later = subst (λ (n : ℕ). In n (q ∷ ps)) (eqb-true q p is) (In-head q ps)
    at_test false is e' later = In-tail p q ps (later e')

fares_these : (ps : List ℕ) (rule : ℕ → Partition → Effect) (s : Core) (p : ℕ) → Fares (at p s) (rule p (at p s)).told (rule p (at p s)).after → Fares (at p s) (at_these ps rule s).told (at p (at_these ps rule s).after)
unfolding at_these with_partitions
fares_these ps rule s p k =
    at_changed (Fares (at p s) (flat_map (λ q. (rule q (at q s)).told) ps)) ps (λ q t. (rule q t).after) s.partitions p
    (λ l is. fares_more (at p s) (rule p (at p s)).told (flat_map (λ q. (rule q (at q s)).told) ps) (rule p (at p s)).after (λ x i. in_flat (λ q. (rule q (at q s)).told) ps p x (in_places p ps is) i) k)
    (λ beside. fares_same (at p s) (flat_map (λ q. (rule q (at q s)).told) ps))

core_ended : (s : Core) → CoreFares s (end_step s).told (end_step s).after
core_ended s = at_end_step (λ (x : Called ℕ). CoreFares s x.told x.after) s (core_alike s [] s refl) (let k = core_each (give_up reason.Ended) (fares_given_up reason.Ended) s in record { count = k.count; each = k.each })

core_disconnected : (node now : ℕ) (s : Core) → CoreFares s [] (disconnect_step node now s)
core_disconnected node now s = at_disconnect (CoreFares s []) node now s (core_alike s [] s refl) (core_dropped node now s)

core_led : (p leader now : ℕ) (s : Core) → CoreFares s [] (lead_step p leader now s)
unfolding lead_step
core_led p leader now s = record {
  count = length-set s.partitions p moved;
  each = λ q l. at_put (Fares (at q s) []) s.partitions p q moved (new_partition 0)
      (λ same. subst (λ (n : ℕ). Fares (at n s) [] moved) (sym same) (fares_lead leader now (at p s))) (fares_same (at q s) []);
}
  where
    moved : Partition
    moved = led_by leader now (at p s)

core_closed : (s : Core) → CoreFares s [] (close_step s)
core_closed s = at_close (CoreFares s []) s (core_alike s [] s refl) (core_alike s [] (record s { closing = true }) refl)

-- no deadline acknowledges a batch
heed_alike : (c : Config) (now : ℕ) (s : Core) (p : ℕ) → p < length s.partitions → (at p (at_each (heed_deadlines c now) s).after).acknowledged ≡ (at p s).acknowledged
unfolding at_each with_partitions
heed_alike c now s p l = ap (λ (t : Partition). t.acknowledged) (get_or-map (λ t. (heed_deadlines c now t).after) s.partitions p (new_partition 0) (new_partition 0) l) ∙ passed_alike c now (at p s)

core_ticked : (node now : ℕ) (s : Core) → CoreFares s (tick_step node now s).told (tick_step node now s).after
core_ticked node now s = at_tick (λ (x : Ticks). CoreFares s x.told x.after) node now s (record {
  ended = core_alike s [] s refl;
  timed_out = passed_late (core_dropped node now s) (core_each (heed_deadlines (drop_requests node now s).config now) (fares_passed (drop_requests node now s).config now) (drop_requests node now s));
  on_time = core_each (heed_deadlines s.config now) (fares_passed s.config now) s;
})
  where
    passed_late : CoreFares s [] (drop_requests node now s) → CoreFares (drop_requests node now s) (tick_partitions heed_deadlines now true (drop_requests node now s)).told (tick_partitions heed_deadlines now true (drop_requests node now s)).after
        → CoreFares s (tick_partitions heed_deadlines now true (drop_requests node now s)).told (tick_partitions heed_deadlines now true (drop_requests node now s)).after
    passed_late first second = record {
      count = second.count ∙ first.count;
      each = λ p l.
          let here : p < length (drop_requests node now s).partitions = subst (λ (n : ℕ). p < n) (sym first.count) l in
          fares_then (at p s) (at p (drop_requests node now s)) (at p (tick_partitions heed_deadlines now true (drop_requests node now s)).after) [] (tick_partitions heed_deadlines now true (drop_requests node now s)).told
          (first.each p l) (heed_alike (drop_requests node now s).config now (drop_requests node now s) p here) (second.each p here);
    }

core_appended : (i : Item) (s : Core) → CoreFares s (append_step i s).told (append_step i s).after
core_appended i s = at_append (λ (x : Appends). CoreFares s x.told x.after) i s (record {
  outside = core_alike s [] s refl;
  past_end = λ may ended. core_alike s _ _ refl;
  by_fence = λ may going fenced. core_alike s _ _ refl;
  full = core_alike s [] (record s { exhausted = true }) refl;
  room = λ may going free fits. record {
    count = length-set s.partitions i.partition (enqueue s.config i (at i.partition s));
    each = λ p l. at_put (Fares (at p s) []) s.partitions i.partition p (enqueue s.config i (at i.partition s)) (new_partition 0)
        (λ e. subst (λ (q : ℕ). Fares (at q s) [] (enqueue s.config i (at i.partition s))) (sym e) (fares_queued s.config i (at i.partition s))) (fares_same (at p s) []);
  };
})

-- ---- a reply

-- the reply gives the partition an id, under which it goes on
record IsGiven (s : Core) (r : Reply) (p : ℕ) (x : Replies) : Type 0 where
  pub id : ℕ
  pub request : Request
  pub in_flight : awaited (pos r.correlation) s ≡ Some request
  pub demand : request.demand ≡ InitProducerId p
  pub content : r.content ≡ given id
  pub known : x.answer ≡ Ok (record { known = true; reports = 0 })
  pub wanted : wants_id s.config (at p s) ≡ true
  pub after_is : at p x.after ≡ go_on_under id (at p s)
  pub told : x.told ≡ []

abbrev Heard : Core → Reply → ℕ → Replies → Type 0
Heard s r p x = Fares (at p s) x.told (at p x.after) ⊎ IsGiven s r p x

heard_id : (now : ℕ) (s : Core) (r : Reply) (p : ℕ) (q : Request) (p' : ℕ) (x : InitProducerIdResponse) → Answers r.correlation r.content r.response → awaited r.response.correlation s ≡ Some q → q.demand ≡ InitProducerId p' → r.response.body ≡ body.InitProducerId x
    → answers_id x ≡ true → Heard s r p (known (quietly (settle_id now p' x s) 0))
unfolding answers_id
heard_id now s r p q p' x answers who demand is valid = at_given (is_given x) refl valid
  where
    answered : (code id : ℤ) × (r.content ≡ GivenId code id) × (x.error_code ≡ code) × (code ≡ pos 0 → x.producer_id ≡ id)
    answered = id_heard r.content r.response.body x answers.says is

    gained : (m : ℕ) → r.content ≡ given m → wants_id s.config (at p' s) ≡ true → Heard s r p (known (quietly (with_partition p' (go_on_under m (at p' s)) (idle s)) 0))
    gained m content wants = ⊎_elim
        (λ (f : Fares (at p s) [] (partition_at p (slice_set s.partitions p' (go_on_under m (at p' s))))). inl f)
        (λ (same : (p ≡ p') × (partition_at p (slice_set s.partitions p' (go_on_under m (at p' s))) ≡ go_on_under m (at p s))). inr (record {
          id = m;
          request = q;
          in_flight = ap (λ (k : ℤ). awaited k s) (sym answers.named) ∙ who;
          demand = demand ∙ ap InitProducerId (sym same.0);
          content = content;
          known = refl;
          wanted = subst (λ (n : ℕ). wants_id s.config (at n s) ≡ true) (sym same.0) wants;
          after_is = same.1;
          told = refl;
        }))
        (at_put (λ (u : Partition). Fares (at p s) [] u ⊎ ((p ≡ p') × (u ≡ go_on_under m (at p s)))) s.partitions p' p (go_on_under m (at p' s)) (new_partition 0)
        (λ e. inr (e, ap (λ (n : ℕ). go_on_under m (at n s)) (sym e))) (inl (fares_same (at p s) [])))

    by_wish : (m : ℕ) → r.content ≡ given m → (b : Bool) → wants_id s.config (at p' s) ≡ b
        → Heard s r p (known (quietly (if b then with_partition p' (go_on_under m (at p' s)) (idle s) else idle s) 0))
    by_wish m content true wants = gained m content wants
    by_wish m content false wants = inl (fares_same (at p s) [])

    by_id : (z : ℤ) → x.error_code ≡ pos 0 → x.producer_id ≡ z → int_le (pos 0) z && int_eq x.producer_epoch (pos 0) ≡ true → Heard s r p (known (quietly (give_id (nat_abs z) p' (idle s)) 0))
    by_id (pos m) zero_code e v =
        let code : answered.0 ≡ pos 0 = sym answered.3 ∙ zero_code in
        let id : answered.1 ≡ pos m = sym (answered.4 code) ∙ e in
        by_wish m (answered.2 ∙ ap (λ (c : ℤ). GivenId c answered.1) code ∙ ap (GivenId (pos 0)) id) (wants_id s.config (at p' s)) refl
    by_id (negsuc m) zero_code e v = absurd cc

    at_given : (b : Bool) → is_given x ≡ b → not b || (int_le (pos 0) x.producer_id && int_eq x.producer_epoch (pos 0)) ≡ true
        → Heard s r p (known (quietly (if b then give_id (nat_abs x.producer_id) p' (idle s) else record (idle s) { id_waits = Some now }) 0))
    at_given true e v = by_id x.producer_id ((Decides-int_eq x.error_code (pos 0)).0 e) refl v
    at_given false e v = inl (fares_same (at p s) [])

heard_step : (n : ℕ) (w : World) (r : Reply) → IsInOrder n w → In r w.replies → (p : ℕ) → Heard w.core r p (response_step w.moment r.response w.core)
heard_step n w r g i p = at_response_going (Heard w.core r p) w.moment r.response w.core (inl (fares_same (at p w.core) [])) (λ going. record {
  same = λ answer. inl (fares_same (at p w.core) []);
  batches = λ q ps x who demand is fits. inl (fares_these ps (λ k t. by_entries w.moment q.correlation t (entries_for k x)) w.core p
      (fares_entries w.moment q.correlation (at p w.core) (entries_for p x) (λ a rest first o open_at.
      is_single n w r g.0 i p q.correlation o a (answered_so w.core r.response q ps x who is fits p a rest first o open_at) (in_flight r.response.correlation w.core q who).1)));
  id = λ q p' x who demand is valid. heard_id w.moment w.core r p q p' x (g.0.gave r i).answers who demand is valid;
})

-- ---- a partition in a step

-- a call on the core, of which it tells
pub record PartFares (w v : World) (p : ℕ) : Type 0 where
  pub told : List Told
  pub fares : Fares (at p w.core) told (at p v.core)
  pub handed : handed_at p v.handed ≡ handed_at p w.handed
  pub noted : told_in v.past ≡ told_in w.past ++ told

-- its front batch goes out
pub record PartHands (w v : World) (p : ℕ) : Type 0 where
  pub request : ℕ
  pub front : Pending
  pub behind : List Pending
  pub queue : (at p w.core).queue ≡ front ∷ behind
  pub confirmed : is_confirmed (at p w.core) ≡ true
  pub after_is : at p v.core ≡ hand_over_in request (at p w.core) (front ∷ behind)
  pub handed : handed_at p v.handed ≡ handed_at p w.handed ++ new_batch (at p w.core) front ∷ []
  pub noted : told_in v.past ≡ told_in w.past

-- it is given an id
pub record PartGoesOn (e : WorldEvent) (w v : World) (p : ℕ) : Type 0 where
  pub id : ℕ
  pub gives : GivesId w e p id
  pub after_is : at p v.core ≡ go_on_under id (at p w.core)
  pub handed : handed_at p v.handed ≡ handed_at p w.handed
  pub noted : told_in v.past ≡ told_in w.past

pub data PartStep (e : WorldEvent) (w v : World) (p : ℕ) : Type 0 where
  Faring : PartFares w v p → PartStep e w v p
  Handing : PartHands w v p → PartStep e w v p
  GoingOn : PartGoesOn e w v p → PartStep e w v p

none_told : (past : List Happened) (answer : List Line) (flushed : Bool) → told_in (past ++ (record { answer = answer; told = []; flushed = flushed }) ∷ []) ≡ told_in past
none_told past answer flushed = told_noted past (record { answer = answer; told = []; flushed = flushed }) ∙ append-nil (told_in past)

-- the partition is as it was, and nothing was told
as_it_was : (e : WorldEvent) (p : ℕ) (w v : World) → at p v.core ≡ at p w.core → handed_at p v.handed ≡ handed_at p w.handed → told_in v.past ≡ told_in w.past → PartStep e w v p
as_it_was e p w v same handed told = Faring (record {
  told = [];
  fares = subst (Fares (at p w.core) []) (sym same) (fares_same (at p w.core) []);
  handed = handed;
  noted = told ∙ sym (append-nil (told_in w.past));
})

-- a call on the core
called : (e : WorldEvent) (p : ℕ) (w v : World) (told : List Told) → CoreFares w.core told v.core → p < length w.core.partitions → handed_at p v.handed ≡ handed_at p w.handed → told_in v.past ≡ told_in w.past ++ told → PartStep e w v p
called e p w v told k l handed noted = Faring (record { told = told; fares = k.each p l; handed = handed; noted = noted })

-- ---- a request

abbrev Sends : ℕ → Partition → List HandedBatch → Partition → List HandedBatch → Type 0
Sends k t handed t' handed' = (Fares t [] t' × (handed' ≡ handed))
    ⊎ ((front : Pending) × (behind : List Pending) × (t.queue ≡ front ∷ behind) × (is_confirmed t ≡ true) × (t' ≡ hand_over_in k t (front ∷ behind)) × (handed' ≡ handed ++ new_batch t front ∷ []))

sends_again : (k : ℕ) (ids : List ℕ) (t : Partition) (handed : List HandedBatch) (h : History) (b : HandedBatch) → Sound ids t handed h → GoesAgain k t b → Sends k t handed (send_in k t) (grown_by b handed)
sends_again k ids t handed h b s a =
    let known : In b handed = subst (λ (c : HandedBatch). In c handed) a.batch (find_open handed t.open_batches a.lowest a.waits s.opens) in
    inl (subst (Fares t []) (sym a.after_is) (fares_again k t), grown_known b handed (s.numbers b known))

sends_first : (k : ℕ) (c : Config) (t : Partition) (handed : List HandedBatch) (b : HandedBatch) → t.next_number ≡ length handed → GoesFirst k c t b → Sends k t handed (send_in k t) (grown_by b handed)
sends_first k c t handed b n a =
    inr (a.front, a.queue, a.queue_is, a.confirmed, a.after_is, grown_new b handed (ap (λ (x : HandedBatch). x.number) a.batch ∙ n) ∙ ap (λ (x : HandedBatch). handed ++ x ∷ []) a.batch)

part_sent : (n p node : ℕ) (w : World) → IsLawful n w → p < n → PartStep (event.Send node) w (sending w (request_step node w.moment w.core).after (request_step node w.moment w.core).answer) p
unfolding noted
part_sent n p node w g l =
    at_request (λ (r : Requested). PartStep (event.Send node) w (sending w r.after r.answer) p) node w.moment w.core (record {
      ended = as_it_was (event.Send node) p w _ refl refl (none_told w.past _ _);
      idle = as_it_was (event.Send node) p w _ refl refl (none_told w.past _ _);
      spent = as_it_was (event.Send node) p w _ refl refl (none_told w.past _ _);
      out = λ going d e unspent. out d e;
    })
  where
    s : Sound w.ids (at p w.core) (handed_at p w.handed) (log_at p w.logs)
    s = (g.agree p l).sound

    gone : (v : World) → told_in v.past ≡ told_in w.past → Sends w.core.correlation (at p w.core) (handed_at p w.handed) (at p v.core) (handed_at p v.handed) → PartStep (event.Send node) w v p
    gone v told x = ⊎_elim
        (λ (f : Fares (at p w.core) [] (at p v.core) × (handed_at p v.handed ≡ handed_at p w.handed)). Faring (record { told = []; fares = f.0; handed = f.1; noted = told ∙ sym (append-nil (told_in w.past)) }))
        (λ (f : (front : Pending) × (behind : List Pending) × ((at p w.core).queue ≡ front ∷ behind) × (is_confirmed (at p w.core) ≡ true) × (at p v.core ≡ hand_over_in w.core.correlation (at p w.core) (front ∷ behind)) × (handed_at p v.handed ≡ handed_at p w.handed ++ new_batch (at p w.core) front ∷ [])).
        Handing (record { request = w.core.correlation; front = f.0; behind = f.1; queue = f.2; confirmed = f.3; after_is = f.4; handed = f.5; noted = told }))
        x

    out : (d : Demand Sending) → next_demand node w.moment w.core ≡ Some d → PartStep (event.Send node) w (sending w (go_out node w.moment w.core d).after (go_out node w.moment w.core d).answer) p
    out (InitProducerId q) e = as_it_was (event.Send node) p w _ refl refl (none_told w.past _ _)
    out (Produce xs) e =
        gone (sending w (go_out node w.moment w.core (Produce xs)).after (go_out node w.moment w.core (Produce xs)).answer) (none_told w.past _ _)
        (at_sent_out (Sends w.core.correlation (at p w.core) (handed_at p w.handed)) node w.moment w.core xs w.handed p (demand_is_sent node w.moment w.core xs e) (g.count ∙ sym g.handed_count) (subst (λ (m : ℕ). p < m) (sym g.count) l) (record {
          passed_by = λ is. inl (fares_same (at p w.core) [], refl);
          sent = λ b goes only. ⊎_elim
              (λ (a : GoesAgain w.core.correlation (at p w.core) b). sends_again w.core.correlation w.ids (at p w.core) (handed_at p w.handed) (log_at p w.logs) b s a)
              (λ (a : GoesFirst w.core.correlation w.core.config (at p w.core) b). sends_first w.core.correlation w.core.config (at p w.core) (handed_at p w.handed) b s.number a)
              (sends_cases w.core.config (flags_of w.core) w.moment w.core.correlation (at p w.core) b goes);
        }))

-- ---- any event

part_replied : (n p j : ℕ) (w : World) (r : Reply) → IsInOrder n w → slice_get w.replies j ≡ Some r → let step = response_step w.moment r.response w.core in PartStep (event.Reply j) w (noted step.after (reply_line j step.answer) step.told w) p
unfolding noted
part_replied n p j w r g there =
    let step = response_step w.moment r.response w.core in
    ⊎_elim
    (λ (f : Fares (at p w.core) (response_step w.moment r.response w.core).told (at p (response_step w.moment r.response w.core).after)).
    Faring (record { told = step.told; fares = f; handed = refl; noted = told_noted w.past _ }))
    (λ (f : IsGiven w.core r p (response_step w.moment r.response w.core)).
    GoingOn (record {
      id = f.id;
      gives = record { number = j; is_reply = refl; reply = r; came = there; content = f.content; known = f.known; request = f.request; in_flight = f.in_flight; demand = f.demand; wanted = f.wanted };
      after_is = f.after_is;
      handed = refl;
      noted = told_noted w.past _ ∙ ap (λ (ts : List Told). told_in w.past ++ ts) f.told ∙ append-nil (told_in w.past);
    }))
    (heard_step n w r g (in_at w.replies j r there) p)

part_event : (n p : ℕ) (w : World) → IsInOrder n w → p < n → OfEvent (λ e v. PartStep e w v p) w
unfolding noted
part_event n p w g l = record {
  not_accepted = λ s q moment body. (as_it_was _ p w _ refl refl (none_told w.past _ _), as_it_was _ p w _ refl refl (none_told w.past _ _));
  accepted = λ s q moment body here there shut small. as_it_was _ p w _ refl refl (none_told w.past _ _);
  none_taken = λ s none. as_it_was _ p w _ refl refl (none_told w.past _ _);
  taken = λ s i here there. at_taken (λ v. PartStep (event.Take s) w v p) s i w
      (called _ p w _ (append_step i w.core).told (core_appended i w.core) within refl (told_noted w.past _))
      (called _ p w _ (append_step i w.core).told (core_appended i w.core) within refl (told_noted w.past _));
  now = λ moment. as_it_was _ p w _ refl refl (none_told w.past _ _);
  tick = λ node. called _ p w _ (tick_step node w.moment w.core).told (core_ticked node w.moment w.core) within refl (told_noted w.past _);
  send = λ node. part_sent n p node w g.0 l;
  reply = λ j r there. part_replied n p j w r g there;
  lost = λ node. called _ p w _ [] (core_disconnected node w.moment w.core) within refl (told_noted w.past _);
  led = λ q node. called _ p w _ [] (core_led q node w.moment w.core) within refl (told_noted w.past _);
  close = called _ p w _ [] (core_closed w.core) within refl (told_noted w.past _);
  end = called _ p w _ (end_step w.core).told (core_ended w.core) within refl (told_noted w.past _);
  flush = called _ p w _ [] (core_flushed w.core) within refl (told_noted w.past _);
}
  where
    within : p < length w.core.partitions
    within = subst (λ (m : ℕ). p < m) (sym g.0.count) l

pub part_step : (n p : ℕ) (w : World) → IsInOrder n w → p < n → (e : WorldEvent) (v : World) → Steps w e v → PartStep e w v p
unfolding with_delivery noted
part_step n p w g l e v s = at_step (λ e v. PartStep e w v p) w (record {
  client = part_event n p w g l;
  arrives = λ k o d x went honest says. as_it_was _ p w _ refl refl (none_told w.past _ _);
  others = λ q records others there. as_it_was _ p w _ refl refl (none_told w.past _ _);
}) e v s
