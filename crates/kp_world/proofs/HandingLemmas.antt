-- What was taken is accounted for still when a request has gone out: a batch goes from the queue to
-- what was handed over, as it is.
use Rattle.std.proofs.Common.{◌≡◌, ℕ, ◌+◌, ◌<◌, Bool, true, false, List, [], ◌∷◌, ◌++◌, length, Some, refl, sym, ap, ◌∙◌, subst, ⊎_elim, arith, append_assoc}
use Rattle.std.specs.Prelude.{Ok, flat_map, if◌then◌else◌, slice_index, slice_index_or}
use Rattle.std.specs.List.{AllByRecursion}
use Rattle.std.proofs.lemmas.List.{append-nil}
use Rattle.std.proofs.lemmas.List.Concat.{flat_map-append}
use Rattle.kp_accum.specs.declared.config.Config.{Config}
use Rattle.kp_accum.specs.declared.flags.Flags.{Flags}
use Rattle.kp_accum.specs.declared.item.Item.{Item}
use Rattle.kp_accum.specs.Queue.{Pending}
use Rattle.kp_log.proofs.PlaceLemmas.{In}
use Rattle.kp_rules.proofs.CallLemmas.{at_request}
use Rattle.kp_rules.proofs.SendingLemmas.{demand_is_sent, demand_is_distinct}
use Rattle.kp_rules.specs.Requesting.{request_step}
use Rattle.kp_rules.specs.Attempts.{is_waiting}
use Rattle.kp_rules.specs.HandingOver.{again_in, opened_in, hand_over_in, send_again_in, send_in}
use Rattle.kp_rules.specs.MaySend.{sends}
use Rattle.kp_rules.specs.Next.{Sending, flags_of, next_demand}
use Rattle.kp_rules.specs.Partitions.{new_partition, partition_at, items_open, items_queued, untold}
use Rattle.kp_rules.specs.Records.{Demand, Produce, InitProducerId, HandedBatch, Open, Partition, Core, Told}
use Rattle.kp_rules.specs.Requesting.{Requested, partitions_in, sent_out}
use Rattle.kp_world.specs.Facts.{told_in}
use Rattle.kp_world.specs.Accepting.{for_partition}
use Rattle.kp_world.specs.Accounts.{items_of, of_sender, unsent_among}
use Rattle.kp_world.specs.Client.{grown_by, handed_at, with_sendings, with_packet, sent_line, sending}
use Rattle.kp_world.specs.Line.{Idle, Ended}
use Rattle.kp_world.specs.World.{World}
use Rattle.kp_world.proofs.TellingLemmas.{HasDistinct}
use Rattle.kp_world.proofs.AccountLemmas.{taken_for, all_taken, Accepts, Accounts, IsAccounted, sender-append, accounts_only}
use Rattle.kp_world.proofs.ConservationLemmas.{items_told}
use Rattle.kp_world.proofs.TakingLemmas.{weigh_same}
use Rattle.kp_world.proofs.WeightLemmas.{weigh}
use Rattle.kp_world.proofs.FateLemmas.{Fates, fates_handed_over}
use Rattle.kp_world.proofs.RequestLemmas.{length-with_sendings, at_sent_out}
use Rattle.kp_rules.proofs.PartitionLemmas.{length-changed_at}
use Rattle.kp_world.proofs.RequestLemmas.{grown_known, grown_new}
use Rattle.kp_world.proofs.SendingLemmas.{find_open}
use Rattle.kp_world.proofs.SoundLemmas.{Sound}
use Rattle.kp_world.proofs.TellingLemmas.{home_past}
use Rattle.kp_log.specs.History.{History}
use Rattle.kp_world.specs.Delivering.{log_at}
use Rattle.kp_world.proofs.LawfulLemmas.{IsLawful, GoesAgain, GoesFirst, sends_cases}
use Rattle.kp_wire.proofs.ListLemmas.{all_append}

-- ---- one partition

-- The front of the queue, which may be nothing, has gone to what was handed over.
pub record Goes (t : Partition) (handed : List HandedBatch) (t' : Partition) (handed' : List HandedBatch) : Type 0 where
  pub front : List Item
  pub queue : items_queued t.queue ≡ front ++ items_queued t'.queue
  pub handed_items : items_of handed' ≡ items_of handed ++ front
  pub same : untold t' ≡ untold t

goes_nowhere : (t : Partition) (handed : List HandedBatch) → Goes t handed t handed
goes_nowhere t handed = record { front = []; queue = refl; handed_items = sym (append-nil (items_of handed)); same = refl }

open_again : (k : ℕ) (os : List Open) → items_open (send_again_in k os) ≡ items_open os
unfolding send_again_in
open_again k [] = refl
open_again k (o ∷ os) = at_test (is_waiting o) (open_again k os)
  where
    at_test : (b : Bool) → items_open (send_again_in k os) ≡ items_open os → items_open (if b then again_in k o ∷ os else o ∷ send_again_in k os) ≡ items_open (o ∷ os)
    at_test true e = refl
    at_test false e = ap (λ r. o.batch.items ++ r) e

-- a batch goes out again
goes_again : (k : ℕ) (ids : List ℕ) (t : Partition) (handed : List HandedBatch) (h : History) (b : HandedBatch) → Sound ids t handed h → GoesAgain k t b → Goes t handed (send_in k t) (grown_by b handed)
unfolding untold
goes_again k ids t handed h b sound a =
    let known : In b handed = subst (λ (x : HandedBatch). In x handed) a.batch (find_open handed t.open_batches a.lowest a.waits sound.opens) in
    subst (Goes t handed (send_in k t)) (sym (grown_known b handed (sound.numbers b known))) (subst (λ (u : Partition). Goes t handed u handed) (sym a.after_is) (record {
      front = [];
      queue = refl;
      handed_items = sym (append-nil (items_of handed));
      same = ap (λ r. r ++ items_queued t.queue) (open_again k t.open_batches);
    }))

open_one_more : (os : List Open) (o : Open) → items_open (os ++ o ∷ []) ≡ items_open os ++ o.batch.items
open_one_more os o = flat_map-append (λ (x : Open). x.batch.items) os (o ∷ []) ∙ ap (λ r. items_open os ++ r) (append-nil o.batch.items)

-- the front batch is handed over
goes_first : (k : ℕ) (ids : List ℕ) (c : Config) (t : Partition) (handed : List HandedBatch) (h : History) (b : HandedBatch) → Sound ids t handed h → GoesFirst k c t b → Goes t handed (send_in k t) (grown_by b handed)
unfolding hand_over_in untold
goes_first k ids c t handed h b sound a =
    subst (Goes t handed (send_in k t)) (sym (grown_new b handed (ap (λ (x : HandedBatch). x.number) a.batch ∙ sound.number))) (subst (λ (u : Partition). Goes t handed u (handed ++ b ∷ [])) (sym a.after_is) (record {
      front = a.front.items;
      queue = ap items_queued a.queue_is;
      handed_items = flat_map-append (λ (x : HandedBatch). x.items) handed (b ∷ []) ∙ ap (λ r. items_of handed ++ r) (append-nil b.items ∙ ap (λ (x : HandedBatch). x.items) a.batch);
      same =
          ap (λ r. r ++ items_queued a.queue) (open_one_more t.open_batches (opened_in k t a.front))
          ∙ append_assoc (items_open t.open_batches) a.front.items (items_queued a.queue)
          ∙ ap (λ (q : List Pending). items_open t.open_batches ++ items_queued q) (sym a.queue_is);
    }))

goes_out : (c : Config) (f : Flags) (now k : ℕ) (ids : List ℕ) (t : Partition) (handed : List HandedBatch) (h : History) (b : HandedBatch) → Sound ids t handed h → sends c f now t ≡ Some b → Goes t handed (send_in k t) (grown_by b handed)
goes_out c f now k ids t handed h b sound e = ⊎_elim (goes_again k ids t handed h b sound) (goes_first k ids c t handed h b sound) (sends_cases c f now k t b e)

-- ---- all partitions

accounts_sent : (node now : ℕ) (s : Core) (accepted : List (List Item)) (taken : List ℕ) (handed : List (List HandedBatch)) (told : List Told) (xs : List Sending)
    → Accounts s accepted taken handed told → (ids : List ℕ) (logs : List History) → ((p : ℕ) → p < length s.partitions → Sound ids (partition_at p s.partitions) (handed_at p handed) (log_at p logs)) → next_demand node now s ≡ Some (Produce xs)
    → Accounts (sent_out node now s (Produce xs)) accepted taken (with_sendings xs handed) told
accounts_sent node now s accepted taken handed told xs a ids logs sound e = record {
  taken_count = a.taken_count;
  handed_count = length-with_sendings xs handed ∙ a.handed_count ∙ sym (length-changed_at (partitions_in xs) (λ q u. send_in s.correlation u) s.partitions);
  senders = λ s'. subst (λ (n : ℕ). Accepts n s' (slice_index_or accepted s' []) (slice_index taken s')) (sym (length-changed_at (partitions_in xs) (λ q u. send_in s.correlation u) s.partitions)) (a.senders s');
  home = home_past (sent_out node now s (Produce xs)).partitions (λ p l. subst (AllByRecursion (λ i. i.partition ≡ p)) (sym (goes p (within p l)).same) (a.home p));
  requests = all_append HasDistinct s.requests _ a.requests (demand_is_distinct node now s xs e, tt);
  fates = λ s' p l.
      let g = goes p (within p l) in
      let back = items_queued (partition_at p (sent_out node now s (Produce xs)).partitions).queue in
      let queue : of_sender s' (items_queued (partition_at p s.partitions).queue) ≡ of_sender s' g.front ++ of_sender s' back = ap (of_sender s') g.queue ∙ sender-append s' g.front back in
      let more : of_sender s' (items_of (handed_at p handed)) ++ of_sender s' g.front ≡ of_sender s' (items_of (handed_at p (with_sendings xs handed))) = sym (ap (of_sender s') g.handed_items ∙ sender-append s' (items_of (handed_at p handed)) g.front) in
      subst (λ h. Fates (taken_for s' p accepted taken) (of_sender s' back) h (of_sender s' (for_partition p (unsent_among told)))) more
      (fates_handed_over (taken_for s' p accepted taken) (of_sender s' g.front) (of_sender s' back) (of_sender s' (items_of (handed_at p handed))) (of_sender s' (for_partition p (unsent_among told)))
      (subst (λ q. Fates (taken_for s' p accepted taken) q (of_sender s' (items_of (handed_at p handed))) (of_sender s' (for_partition p (unsent_among told)))) queue (a.fates s' p (within p l))));
  weights = λ f.
      let before : weigh f (items_told told) + weigh f (flat_map untold s.partitions) ≡ weigh f (all_taken accepted taken) = a.weights f in
      let same : weigh f (flat_map untold (sent_out node now s (Produce xs)).partitions) ≡ weigh f (flat_map untold s.partitions) =
      weigh_same f (new_partition 0) s.partitions (sent_out node now s (Produce xs)).partitions (length-changed_at (partitions_in xs) (λ q u. send_in s.correlation u) s.partitions) (λ p l. ap (weigh f) (goes p l).same) in
      omega (arith, before, same);
}
  where
    within : (p : ℕ) → p < length (sent_out node now s (Produce xs)).partitions → p < length s.partitions
    within p l = subst (λ (n : ℕ). p < n) (length-changed_at (partitions_in xs) (λ q u. send_in s.correlation u) s.partitions) l

    goes : (p : ℕ) → p < length s.partitions
        → Goes (partition_at p s.partitions) (handed_at p handed) (partition_at p (sent_out node now s (Produce xs)).partitions) (handed_at p (with_sendings xs handed))
    goes p l = at_sent_out (Goes (partition_at p s.partitions) (handed_at p handed)) node now s xs handed p (demand_is_sent node now s xs e) (sym a.handed_count) l (record {
      passed_by = λ is. goes_nowhere (partition_at p s.partitions) (handed_at p handed);
      sent = λ b sends only. goes_out s.config (flags_of s) now s.correlation ids (partition_at p s.partitions) (handed_at p handed) (log_at p logs) b (sound p l) sends;
    })

-- ---- the event

accounts_asked : (node now : ℕ) (s : Core) (accepted : List (List Item)) (taken : List ℕ) (handed : List (List HandedBatch)) (told : List Told) (p : ℕ)
    → Accounts s accepted taken handed told → Accounts (sent_out node now s (InitProducerId p)) accepted taken handed told
accounts_asked node now s accepted taken handed told p a = record {
  taken_count = a.taken_count;
  handed_count = a.handed_count;
  senders = a.senders;
  home = a.home;
  requests = all_append HasDistinct s.requests _ a.requests (tt, tt);
  fates = a.fates;
  weights = a.weights;
}

pub accounts_sending : (n node : ℕ) (w : World) → IsLawful n w → IsAccounted w → IsAccounted (sending w (request_step node w.moment w.core).after (request_step node w.moment w.core).answer)
accounts_sending n node w g a = at_request (λ (x : Requested). IsAccounted (sending w x.after x.answer)) node w.moment w.core (record {
  ended = accounts_only w.core (Ended ∷ []) w a;
  idle = accounts_only w.core (Idle ∷ []) w a;
  spent = accounts_only w.core (Idle ∷ []) w a;
  out = λ going d e unspent. goes d e;
})
  where
    goes : (d : Demand Sending) → next_demand node w.moment w.core ≡ Some d → IsAccounted (sending w (sent_out node w.moment w.core d) (Ok (Some (record { correlation = w.core.correlation; demand = d }))))
    goes (Produce xs) e = accounts_only (sent_out node w.moment w.core (Produce xs)) (sent_line (length w.packets) (Produce xs) ∷ []) (with_packet (record { correlation = w.core.correlation; demand = Produce xs }) w)
        (accounts_sent node w.moment w.core w.accepted w.taken w.handed (told_in w.past) xs a w.ids w.logs (λ p l. (g.agree p (subst (λ (m : ℕ). p < m) g.count l)).sound) e)
    goes (InitProducerId p) e = accounts_only (sent_out node w.moment w.core (InitProducerId p)) (sent_line (length w.packets) (InitProducerId p) ∷ []) (with_packet (record { correlation = w.core.correlation; demand = InitProducerId p }) w)
        (accounts_asked node w.moment w.core w.accepted w.taken w.handed (told_in w.past) p a)
