-- A batch goes out with the same records, producer id and base sequence each time.
use Rattle.std.proofs.Common.{◌≡◌, ◌⊎◌, ℕ, zero, suc, ◌<◌, ◌≤◌, Bool, true, false, List, [], ◌∷◌, length, map, get_or, replicate, Some, None, inl, inr, refl, sym, ap, ◌∙◌, subst, ⊎_elim, arith, Contains}
use Rattle.std.specs.Prelude.{Option, Result, Ok, Err, ◌==◌, nat_abs}
use Rattle.std.specs.List.{AllByRecursion}
use Rattle.std.proofs.lemmas.Bool.{eq-eqb}
use Rattle.std.proofs.lemmas.List.{get_or-map, length-map}
use Rattle.std.proofs.lemmas.List.Folds.{list_any_at}
use Rattle.std.proofs.lemmas.List.Elements.{Contains-append_cases}
use Rattle.kp_wire.proofs.ListLemmas.{all_append}
use Rattle.kp_accum.specs.declared.config.Config.{Config}
use Rattle.kp_accum.specs.declared.fault.AppendFault.TheVariants as append
use Rattle.kp_accum.specs.declared.flags.Flags.{Flags}
use Rattle.kp_accum.specs.declared.item.Item.{Item}
use Rattle.kp_frames.specs.declared.produce.ProduceResponse.{ProduceResponse}
use Rattle.kp_frames.specs.declared.producer_id.InitProducerIdResponse.{InitProducerIdResponse}
use Rattle.kp_frames.specs.declared.response.Response.{Response}
use Rattle.kp_rules.specs.declared.fault.CoreFault.{CoreFault}
use Rattle.kp_rules.specs.declared.fault.CoreFault.TheVariants as fault
use Rattle.kp_rules.specs.declared.names.Names.{Names}
use Rattle.kp_rules.specs.declared.outcome.Reason.TheVariants.{Ended}
use Rattle.kp_rules.specs.Appending.{Appends, enqueue, append_step}
use Rattle.kp_rules.specs.Attempts.{is_waiting}
use Rattle.kp_rules.specs.Calls.{Call, Append, Request, Reply, Tick, Disconnect, Lead, Close, Flush, End, Fetch, Step, answered_as, packet_in, packets_by, Life, life_of, followed_by, Lives, WentOut}
use Rattle.kp_rules.specs.Closing.{close_step, end_step}
use Rattle.kp_rules.specs.Dropping.{drop_led, drop_requests, disconnect_step}
use Rattle.kp_rules.specs.Fence.{give_up}
use Rattle.kp_rules.specs.Flush.{mark, flush_step}
use Rattle.kp_rules.specs.HandingOver.{opened_in, hand_over_in, send_in}
use Rattle.kp_rules.specs.MaySend.{new_batch, sends}
use Rattle.kp_rules.specs.Mismatch.{entries_for}
use Rattle.kp_rules.specs.Leading.{led_by, lead_step}
use Rattle.kp_rules.specs.Next.{Sending, flags_of, next_demand}
use Rattle.kp_rules.specs.Opening.{new_core}
use Rattle.kp_rules.specs.Partitions.{is_in, new_partition, partition_at, with_partition}
use Rattle.kp_rules.specs.Records.{HandedBatch, Open, Partition, Demand, Produce, InitProducerId, Core, Called}
use Rattle.kp_rules.specs.Replies.{Replies, settle_batches, go_on_under, settle_id, response_step, reply_step}
use Rattle.kp_rules.specs.Reports.{fetch_step}
use Rattle.kp_rules.specs.Requesting.{Packet, Requested, partitions_in, sent_out, go_out, request_step}
use Rattle.kp_rules.specs.Telling.{with_partitions, at_each, at_these}
use Rattle.kp_rules.specs.Tick.{Ticks, heed_deadlines, tick_partitions, tick_step}
use Rattle.kp_rules.proofs.CallLemmas.{at_append, at_id, at_reply, by_entries, at_request, at_response, at_tick, at_end_step, at_disconnect, at_close}
use Rattle.kp_rules.proofs.ListLemmas.{contains_head, all_weaker, at_contained, at_mapped, at_put, found}
use Rattle.kp_rules.proofs.OrderLemmas.{Shrinks, left_all, shrinks_led, shrinks_lead, shrinks_marked, shrinks_given_up, shrinks_passed, shrinks_entries}
use Rattle.kp_rules.proofs.PartitionLemmas.{at_changed}
use Rattle.kp_rules.proofs.SendingLemmas.{IsSent, HasPart, has_part, all_again, at_sends, demand_is_sent}

-- ---- a partition in which nothing is handed over: the next number is as it was, and what is open was open

abbrev AllOpen : (HandedBatch → Type 0) → List Open → Type 0
AllOpen P os = AllByRecursion (λ o. P o.batch) os

record IsQuiet (t u : Partition) : Type 1 where
  number : u.next_number ≡ t.next_number
  opens : (P : HandedBatch → Type 0) → AllOpen P t.open_batches → AllOpen P u.open_batches

stays : (t : Partition) → IsQuiet t t
stays t = record { number = refl; opens = λ P h. h }

then_quiet : (t u v : Partition) → IsQuiet t u → IsQuiet u v → IsQuiet t v
then_quiet t u v k l = record { number = l.number ∙ k.number; opens = λ P h. l.opens P (k.opens P h) }

shrinks_quietly : {t u : Partition} → Shrinks t u → IsQuiet t u
shrinks_quietly k = record {
  number = k.next_number;
  opens = λ P. left_all (λ (o : Open). P o.batch) (λ (o : Open). P o.batch) (λ o q e i. subst P (sym e) i) k.opens;
}

-- ---- all partitions

-- the sending of this batch for this partition
abbrev sending : ℕ → HandedBatch → Sending
sending p b = record { partition = p; batch = b }

abbrev For : (Sending → Type 0) → ℕ → HandedBatch → Type 0
For W p b = W (sending p b)

-- the partition with this number
abbrev at : ℕ → Core → Partition
at p s = partition_at p s.partitions

abbrev CoreIsQuiet : Core → Core → Type 1
CoreIsQuiet s u = (p : ℕ) → IsQuiet (at p s) (at p u)

core_stays : (s : Core) → CoreIsQuiet s s
core_stays s p = stays (at p s)

each_quiet : (f : Partition → Partition) → ((t : Partition) → Shrinks t (f t)) → (ts : List Partition) (p : ℕ)
    → IsQuiet (partition_at p ts) (partition_at p (map f ts))
each_quiet f k ts p = at_mapped (IsQuiet (partition_at p ts)) f ts p (new_partition 0) (shrinks_quietly (k (partition_at p ts))) (stays (partition_at p ts))

one_quiet : (s : Core) (i : ℕ) (v : Partition) → IsQuiet (at i s) v → CoreIsQuiet s (with_partition i v s)
one_quiet s i v k p =
    at_put (IsQuiet (at p s)) s.partitions i p v (new_partition 0) (λ e. subst (λ (n : ℕ). IsQuiet (at n s) v) (sym e) k) (stays (at p s))

-- ---- the calls that hand nothing over

append_quiet : (i : Item) (s : Core) → CoreIsQuiet s (append_step i s).after
append_quiet i s = at_append (λ (x : Appends). CoreIsQuiet s x.after) i s (record {
  outside = core_stays s;
  past_end = λ m e. core_stays s;
  by_fence = λ m e f. core_stays s;
  full = core_stays s;
  room = λ m e f r. one_quiet s i.partition (enqueue s.config i (at i.partition s)) (record { number = refl; opens = λ P h. h });
})

drops_quiet : (node now : ℕ) (s : Core) → CoreIsQuiet s (drop_requests node now s)
unfolding drop_requests
drops_quiet node now s = each_quiet (drop_led node now) (shrinks_led node now) s.partitions

ticks_quiet : (now : ℕ) (b : Bool) (s : Core) → CoreIsQuiet s (tick_partitions heed_deadlines now b s).after
unfolding at_each with_partitions
ticks_quiet now b s = each_quiet (λ t. (heed_deadlines s.config now t).after) (shrinks_passed s.config now) s.partitions

tick_quiet : (node now : ℕ) (s : Core) → CoreIsQuiet s (tick_step node now s).after
tick_quiet node now s = at_tick (λ (x : Ticks). CoreIsQuiet s x.after) node now s (record {
  ended = core_stays s;
  timed_out = λ p. then_quiet (at p s) (at p (drop_requests node now s)) (at p (tick_partitions heed_deadlines now true (drop_requests node now s)).after)
      (drops_quiet node now s p) (ticks_quiet now true (drop_requests node now s) p);
  on_time = ticks_quiet now false s;
})

end_quiet : (s : Core) → CoreIsQuiet s (end_step s).after
unfolding at_each with_partitions
end_quiet s = at_end_step (λ (x : Called ℕ). CoreIsQuiet s x.after) s (core_stays s)
    (each_quiet (λ t. (give_up Ended t).after) (shrinks_given_up Ended) s.partitions)

flush_quiet : (s : Core) → CoreIsQuiet s (flush_step s)
unfolding flush_step
flush_quiet s = each_quiet mark shrinks_marked s.partitions

lead_quiet : (p leader now : ℕ) (s : Core) → CoreIsQuiet s (lead_step p leader now s)
unfolding lead_step
lead_quiet p leader now s = one_quiet s p (led_by leader now (at p s)) (shrinks_quietly (shrinks_lead leader now (at p s)))

-- ---- a reply

batches_quiet : (now k : ℕ) (ps : List ℕ) (x : ProduceResponse) (s : Core) → CoreIsQuiet s (settle_batches now k ps x s).after
unfolding at_these with_partitions
batches_quiet now k ps x s p = at_changed (IsQuiet (at p s)) ps (λ q t. (by_entries now k t (entries_for q x)).after) s.partitions p
    (λ l is. shrinks_quietly (shrinks_entries now k (at p s) (entries_for p x))) (λ beside. stays (at p s))

id_quiet : (now p : ℕ) (x : InitProducerIdResponse) (s : Core) → CoreIsQuiet s (settle_id now p x s)
id_quiet now p x s = at_id (CoreIsQuiet s) now p x s (record {
  wanted = λ given. one_quiet s p (go_on_under (nat_abs x.producer_id) (at p s)) (record { number = refl; opens = λ P h. h });
  unwanted = core_stays s;
  refused = core_stays s;
})

response_quiet : (now : ℕ) (response : Response) (s : Core) → CoreIsQuiet s (response_step now response s).after
response_quiet now response s = at_response (λ (x : Replies). CoreIsQuiet s x.after) now response s (record {
  same = λ answer. core_stays s;
  batches = λ r ps x it demand is fits. batches_quiet now r.correlation ps x s;
  id = λ r p x it demand is fits. id_quiet now p x s;
})

reply_quiet : (now : ℕ) (content : List ℕ) (s : Core) → CoreIsQuiet s (reply_step now content s).after
reply_quiet now content s =
    at_reply (λ (x : Replies). CoreIsQuiet s x.after) now content s (λ answer. core_stays s) (λ a response e. response_quiet now response s)

-- ---- a partition whose batch goes out

-- the batch has the next number, which is given to it
abbrev IsNext : Partition → Partition → HandedBatch → Type 0
IsNext t u b = (b.number ≡ t.next_number) × (t.next_number < u.next_number)

-- What is open then was open, or is the batch that goes out; and that was open, or is the next one.
record Goes (P : HandedBatch → Type 0) (t u : Partition) (b : HandedBatch) : Type 0 where
  opens : AllOpen (λ c. P c ⊎ (c ≡ b)) u.open_batches
  grows : t.next_number ≤ u.next_number
  known : P b ⊎ IsNext t u b

goes : (P : HandedBatch → Type 0) (k : ℕ) (c : Config) (flags : Flags) (now : ℕ) (t : Partition) → AllOpen P t.open_batches
    → (b : HandedBatch) → sends c flags now t ≡ Some b → Goes P t (send_in k t) b
unfolding hand_over_in
goes P k c flags now t h = at_sends (λ b u. Goes P t u b) c flags now k t (record {
  again = λ free o e. record {
    opens = all_again (λ x. P x ⊎ (x ≡ o.batch)) k t.open_batches (still o.batch);
    grows = omega arith;
    known = inl (at_contained (λ x. P x.batch) t.open_batches o h (found is_waiting t.open_batches o e).0);
  };
  first = λ free front behind queue may. record {
    opens = all_append (λ o. P o.batch ⊎ (o.batch ≡ new_batch t front)) t.open_batches (opened_in k t front ∷ []) (still (new_batch t front)) (inr refl, tt);
    grows = omega arith;
    known = inr (refl, omega arith);
  };
})
  where
    still : (b : HandedBatch) → AllOpen (λ x. P x ⊎ (x ≡ b)) t.open_batches
    still b = all_weaker (λ o. P o.batch) (λ o. P o.batch ⊎ (o.batch ≡ b)) (λ o i. inl i) t.open_batches h

number_given : (P : HandedBatch → Type 0) (t u : Partition) (b : HandedBatch) → Goes P t u b → (P b → b.number < t.next_number)
    → b.number < u.next_number
number_given P t u b g h =
    ⊎_elim (λ (i : P b). omega (arith, h i, g.grows)) (λ (i : IsNext t u b). omega (arith, i.0, i.1)) g.known

-- ---- what holds of those that went out: their numbers were given, each open batch is one, and a number tells the batch

record IsKept (W : Sending → Type 0) (s : Core) : Type 0 where
  below : (x : Sending) → W x → x.batch.number < (at x.partition s).next_number
  opens : (p : ℕ) → AllOpen (For W p) (at p s).open_batches
  same : (x y : Sending) → W x → W y → x.partition ≡ y.partition → x.batch.number ≡ y.batch.number → x.batch ≡ y.batch

kept_on : (W : Sending → Type 0) (s u : Core) → CoreIsQuiet s u → IsKept W s → IsKept W u
kept_on W s u k h = record {
  below = λ x w. subst (λ (n : ℕ). x.batch.number < n) (sym (k x.partition).number) (h.below x w);
  opens = λ p. (k p).opens (For W p) (h.opens p);
  same = h.same;
}

-- the same of other words for the same sendings
kept_as : (W V : Sending → Type 0) → ((x : Sending) → W x → V x) → ((x : Sending) → V x → W x)
    → (s : Core) → IsKept W s → IsKept V s
kept_as W V to back s h = record {
  below = λ x v. h.below x (back x v);
  opens = λ p. all_weaker (λ o. W (sending p o.batch)) (λ o. V (sending p o.batch)) (λ o w. to (sending p o.batch) w) (at p s).open_batches (h.opens p);
  same = λ x y v w. h.same x y (back x v) (back y w);
}

-- ---- a request

part_is_in : (xs : List Sending) (n : ℕ) (d : Sending) → n < length xs → is_in (get_or xs n d).partition (partitions_in xs) ≡ true
part_is_in xs n d l = list_any_at (λ q. q == (get_or xs n d).partition) (partitions_in xs) n d.partition (omega (arith, l, length-map xs (λ x. x.partition)))
    (eq-eqb _ _ (get_or-map (λ x. x.partition) xs n d d.partition l))

abbrev With : (Sending → Type 0) → List Sending → Sending → Type 0
With W xs x = W x ⊎ Contains xs x

kept_sent : (W : Sending → Type 0) (node now : ℕ) (s : Core) (xs : List Sending) → AllByRecursion (IsSent now s) xs → IsKept W s
    → IsKept (With W xs) (sent_out node now s (Produce xs))
kept_sent W node now s xs all h = record { below = below; opens = opens; same = same }
  where
    sent : (x : Sending) → Contains xs x → IsSent now s x
    sent x c = at_contained (IsSent now s) xs x all c

    goes_at : (x : Sending) → Contains xs x → Goes (For W x.partition) (at x.partition s) (send_in s.correlation (at x.partition s)) x.batch
    goes_at x c = goes (For W x.partition) s.correlation s.config (flags_of s) now (at x.partition s) (h.opens x.partition) x.batch (sent x c).sends

    goes_for : (p : ℕ) (x : HasPart xs p) → Goes (For W p) (at p s) (send_in s.correlation (at p s)) x.it.batch
    goes_for p x = subst (λ (q : ℕ). Goes (For W q) (at q s) (send_in s.correlation (at q s)) x.it.batch) x.own (goes_at x.it x.has)

    -- ---- two that went out

    one_new : (x y : Sending) → W x → Contains xs y → x.partition ≡ y.partition → x.batch.number ≡ y.batch.number → x.batch ≡ y.batch
    one_new x y w c e n = ⊎_elim
        (λ (v : W y). h.same x y w v e n)
        (λ (v : IsNext (at y.partition s) (send_in s.correlation (at y.partition s)) y.batch).
        let l : x.batch.number < (at y.partition s).next_number = subst (λ (q : ℕ). x.batch.number < (at q s).next_number) e (h.below x w) in
        absurd (omega (arith, l, n, v.0)))
        (goes_at y c).known

    both_new : (x y : Sending) → Contains xs x → Contains xs y → x.partition ≡ y.partition → x.batch ≡ y.batch
    both_new x y c d e =
        let mine : sends s.config (flags_of s) now (at y.partition s) ≡ Some x.batch =
        subst (λ (q : ℕ). sends s.config (flags_of s) now (at q s) ≡ Some x.batch) e (sent x c).sends in
        let other = (sent y d).sends in
        cc

    same : (x y : Sending) → With W xs x → With W xs y → x.partition ≡ y.partition → x.batch.number ≡ y.batch.number → x.batch ≡ y.batch
    same x y (inl w) (inl v) e n = h.same x y w v e n
    same x y (inl w) (inr d) e n = one_new x y w d e n
    same x y (inr c) (inl v) e n = sym (one_new y x v c (sym e) (sym n))
    same x y (inr c) (inr d) e n = both_new x y c d e

    -- ---- their numbers

    below_next : (x : Sending) → With W xs x → is_in x.partition (partitions_in xs) ≡ true
        → x.batch.number < (send_in s.correlation (at x.partition s)).next_number
    below_next x (inl w) is = omega (arith, h.below x w, (goes_for x.partition (has_part xs x.partition is)).grows)
    below_next x (inr c) is = number_given (For W x.partition) (at x.partition s) (send_in s.correlation (at x.partition s)) x.batch (goes_at x c) (h.below x)

    below_still : (x : Sending) → With W xs x → (x.partition < length s.partitions → is_in x.partition (partitions_in xs) ≡ false)
        → x.batch.number < (at x.partition s).next_number
    below_still x (inl w) beside = h.below x w
    below_still x (inr c) beside =
        let there : is_in x.partition (partitions_in xs) ≡ true =
        subst (λ (y : Sending). is_in y.partition (partitions_in xs) ≡ true) c.2 (part_is_in xs c.0 x c.1) in
        let none = beside (sent x c).there in
        absurd cc

    below : (x : Sending) → With W xs x → x.batch.number < (at x.partition (sent_out node now s (Produce xs))).next_number
    below x v = at_changed (λ u. x.batch.number < u.next_number) (partitions_in xs) (λ p t. send_in s.correlation t) s.partitions x.partition
        (λ l is. below_next x v is) (below_still x v)

    -- ---- the open batches

    newly_open : (p : ℕ) → HasPart xs p → AllOpen (For (With W xs) p) (send_in s.correlation (at p s)).open_batches
    newly_open p x = all_weaker (λ o. For W p o.batch ⊎ (o.batch ≡ x.it.batch)) (λ o. For (With W xs) p o.batch)
        (λ o. ⊎_elim (λ (w : For W p o.batch). inl w)
        (λ (e : o.batch ≡ x.it.batch). inr (subst (Contains xs) (λ i. record { partition = x.own i; batch = sym e i }) x.has)))
        (send_in s.correlation (at p s)).open_batches (goes_for p x).opens

    opens : (p : ℕ) → AllOpen (For (With W xs) p) (at p (sent_out node now s (Produce xs))).open_batches
    opens p = at_changed (λ u. AllOpen (For (With W xs) p) u.open_batches) (partitions_in xs) (λ q t. send_in s.correlation t) s.partitions p
        (λ l is. newly_open p (has_part xs p is))
        (λ beside. all_weaker (λ o. For W p o.batch) (λ o. For (With W xs) p o.batch) (λ o w. inl w) (at p s).open_batches (h.opens p))

-- as if in a life, only these packets went out
abbrev only : List Packet → Life
only packets = record { appended = []; told = []; packets = packets }

abbrev And : (Sending → Type 0) → Life → Sending → Type 0
And W life x = W x ⊎ WentOut life x

none_went : (x : Sending) → WentOut (only []) x → ⊥
none_went x w = omega (arith, w.sent.1)

one_went : (packet : Packet) (x : Sending) → WentOut (only (packet ∷ [])) x → (xs : List Sending) × (packet.demand ≡ Produce xs) × Contains xs x
one_went packet x w =
    let same : packet ≡ w.packet = (at_contained (λ q. q ≡ w.packet → packet ≡ w.packet) (packet ∷ []) w.packet ((λ e. e), tt) w.sent) refl in
    (w.batches, ap (λ (q : Packet). q.demand) same ∙ w.demand, w.has)

kept_quiet : (W : Sending → Type 0) (s : Core) → IsKept W s → IsKept (And W (only [])) s
kept_quiet W s h = kept_as W (And W (only [])) (λ x w. inl w) (λ x. ⊎_elim (λ w. w) (λ none. absurd (none_went x none))) s h

kept_out : (W : Sending → Type 0) (node now : ℕ) (s : Core) (d : Demand Sending) → next_demand node now s ≡ Some d → IsKept W s
    → IsKept (And W (only (packet_in (go_out node now s d).answer))) (go_out node now s d).after
kept_out W node now s (InitProducerId p) wanted h =
    let packet : Packet = record { correlation = s.correlation; demand = InitProducerId p } in
    let none : (x : Sending) → WentOut (only (packet ∷ [])) x → W x = λ x w. let one = one_went packet x w in absurd (let e = one.1 in cc) in
    kept_as W (And W (only (packet ∷ []))) (λ x w. inl w) (λ x. ⊎_elim (λ w. w) (none x)) (go_out node now s (InitProducerId p)).after
    (kept_on W s (go_out node now s (InitProducerId p)).after (core_stays s) h)
kept_out W node now s (Produce xs) wanted h =
    kept_as (With W xs) (And W (only (packet ∷ []))) (λ x. ⊎_elim (λ w. inl w) (λ c. inr (out x c)))
    (λ x. ⊎_elim (λ w. inl w) (λ w. inr (has x w)))
    (go_out node now s (Produce xs)).after (kept_sent W node now s xs (demand_is_sent node now s xs wanted) h)
  where
    packet : Packet
    packet = record { correlation = s.correlation; demand = Produce xs }

    out : (x : Sending) → Contains xs x → WentOut (only (packet ∷ [])) x
    out x c = record { packet = packet; sent = contains_head packet []; batches = xs; demand = refl; has = c }

    has : (x : Sending) → WentOut (only (packet ∷ [])) x → Contains xs x
    has x w = let one = one_went packet x w in
        let e : Produce xs ≡ Produce one.0 = one.1 in
        let same : one.0 ≡ xs = cc in
        subst (λ (ys : List Sending). Contains ys x) same one.2

kept_request : (W : Sending → Type 0) (node now : ℕ) (s : Core) → IsKept W s
    → IsKept (And W (only (packet_in (request_step node now s).answer))) (request_step node now s).after
kept_request W node now s h = at_request (λ (x : Requested). IsKept (And W (only (packet_in x.answer))) x.after) node now s (record {
  ended = quiet;
  idle = quiet;
  spent = quiet;
  out = λ going d wanted left. kept_out W node now s d wanted h;
})
  where
    quiet : IsKept (And W (only [])) s
    quiet = kept_quiet W s h

-- ---- any call

kept_after : (W : Sending → Type 0) (s u t : Core) → CoreIsQuiet s u → t ≡ u → IsKept W s → IsKept (And W (only [])) t
kept_after W s u t k e h = subst (IsKept (And W (only []))) (sym e) (kept_quiet W u (kept_on W s u k h))

no_packet : (s : Core) (answer : Result (Option Packet) CoreFault) (why : CoreFault) → answered_as s answer ≡ Err why → packet_in answer ≡ []
no_packet s (Ok None) why e = refl
no_packet s (Ok (Some packet)) why e = absurd cc
no_packet s (Err other) why e = refl

kept_refused : (W : Sending → Type 0) (node now : ℕ) (s t : Core) (why : CoreFault) → answered_as s (request_step node now s).answer ≡ Err why
    → t ≡ (request_step node now s).after → IsKept W s → IsKept (And W (only [])) t
kept_refused W node now s t why answer after h =
    subst (IsKept (And W (only []))) (sym after)
    (subst (λ (ps : List Packet). IsKept (And W (only ps)) (request_step node now s).after)
    (no_packet s (request_step node now s).answer why answer) (kept_request W node now s h))

kept_by : (W : Sending → Type 0) (s : Core) (call : Call) (t : Core) → Step s call t → IsKept W s → IsKept (And W (only (packets_by s call))) t
kept_by W s (Append i (Err append.OutOfMemory)) t step h = kept_after W s s t (core_stays s) step.1 h
kept_by W s (Append i answer) t step h = kept_after W s (append_step i s).after t (append_quiet i s) step.1 h
kept_by W s (Request node now (Err fault.OutOfMemory)) t step h = kept_after W s s t (core_stays s) step.1 h
kept_by W s (Request node now (Err why)) t step h = kept_refused W node now s t _ step.0 step.1 h
kept_by W s (Request node now (Ok answer)) t step h =
    subst (IsKept (And W (only (packet_in (request_step node now s).answer)))) (sym step.1) (kept_request W node now s h)
kept_by W s (Reply now content (Err fault.OutOfMemory)) t step h = kept_after W s s t (core_stays s) step.1 h
kept_by W s (Reply now content answer) t step h = kept_after W s (reply_step now content s).after t (reply_quiet now content s) step.1 h
kept_by W s (Tick node now answer) t step h = kept_after W s (tick_step node now s).after t (tick_quiet node now s) step.1 h
kept_by W s (Disconnect node now) t step h =
    kept_after W s (disconnect_step node now s) t (at_disconnect (CoreIsQuiet s) node now s (core_stays s) (drops_quiet node now s)) step h
kept_by W s (Lead p leader now) t step h = kept_after W s (lead_step p leader now s) t (lead_quiet p leader now s) step h
kept_by W s Close t step h = kept_after W s (close_step s) t (at_close (CoreIsQuiet s) s (core_stays s) (core_stays s)) step h
kept_by W s Flush t step h = kept_after W s (flush_step s) t (flush_quiet s) step h
kept_by W s (End reports) t step h = kept_after W s (end_step s).after t (end_quiet s) step.1 h
kept_by W s (Fetch sender answer) t step h = kept_after W s (fetch_step sender s).after t (core_stays s) step.1 h

-- ---- all calls, one after the other

went_apart : (s : Core) (call : Call) (later life : Life) (x : Sending) → life ≡ followed_by (life_of s call) later → WentOut life x
    → WentOut (only (packets_by s call)) x ⊎ WentOut later x
went_apart s call later life x is w =
    ⊎_elim
    (λ (c : Contains (packets_by s call) w.packet). inl (record { packet = w.packet; sent = c; batches = w.batches; demand = w.demand; has = w.has }))
    (λ (c : Contains later.packets w.packet). inr (record { packet = w.packet; sent = c; batches = w.batches; demand = w.demand; has = w.has }))
    (Contains-append_cases (packets_by s call) later.packets w.packet (subst (λ (l : Life). Contains l.packets w.packet) is w.sent))

live_on : (W : Sending → Type 0) (calls : List Call) (s : Core) (life : Life) (t : Core) → IsKept W s → Lives s calls life t
    → (x y : Sending) → And W life x → And W life y → x.partition ≡ y.partition → x.batch.number ≡ y.batch.number → x.batch ≡ y.batch
unfolding Lives
live_on W [] s life t h lives x y a b = h.same x y (before x a) (before y b)
  where
    before : (z : Sending) → And W life z → W z
    before z (inl w) = w
    before z (inr w) = let none : Contains [] w.packet = subst (λ (l : Life). Contains l.packets w.packet) lives.0 w.sent in absurd (omega (arith, none.1))
live_on W (call ∷ calls) s life t h lives x y a b =
    live_on (And W (only (packets_by s call))) calls lives.0 lives.1 t (kept_by W s call lives.0 lives.2 h) lives.3 x y (from x a) (from y b)
  where
    from : (z : Sending) → And W life z → And (And W (only (packets_by s call))) lives.1 z
    from z (inl w) = inl (inl w)
    from z (inr w) = ⊎_elim (λ v. inl (inr v)) (λ v. inr v) (went_apart s call lives.1 life z lives.4 w)

nothing_open : (P : HandedBatch → Type 0) (n : ℕ) (id p : ℕ) → AllOpen P (partition_at p (replicate n (new_partition id))).open_batches
nothing_open P zero id p = tt
nothing_open P (suc n) id zero = tt
nothing_open P (suc n) id (suc p) = nothing_open P n id p

pub same_batch : (c : Config) (n : Names) (partitions senders id correlation : ℕ) (calls : List Call) (life : Life) (t : Core) (x y : Sending)
    → Lives (new_core c n partitions senders id correlation) calls life t → WentOut life x → WentOut life y
    → x.partition ≡ y.partition → x.batch.number ≡ y.batch.number → x.batch ≡ y.batch
unfolding new_core
same_batch c n partitions senders id correlation calls life t x y lives w v =
    live_on (λ x. ⊥) calls (new_core c n partitions senders id correlation) life t
    (record { below = λ x none. absurd none; opens = λ p. nothing_open (λ b. ⊥) partitions id p; same = λ x y none. absurd none }) lives x y (inr w) (inr v)
