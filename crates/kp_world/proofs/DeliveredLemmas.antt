-- What is told of items: that one was delivered at an offset is told only where it stands there, and
-- none is told delivered without an offset.
use Rattle.std.proofs.Common.{◌≡◌, ℕ, zero, suc, ◌<◌, List, [], ◌∷◌, ◌++◌, length, ℤ, pos, ◌+ℤ◌, refl, sym, ap, ◌∙◌, subst, arith, append_assoc}
use Rattle.std.specs.Prelude.{take}
use Rattle.std.proofs.lemmas.List.Concat.{flat_map-append}
use Rattle.kp_accum.specs.declared.item.Item.{Item}
use Rattle.kp_frames.specs.declared.produce.PartitionProduceResponse.{PartitionProduceResponse}
use Rattle.kp_frames.specs.declared.response.Response.{Response}
use Rattle.kp_log.specs.declared.stored.Stored.{Stored as Record}
use Rattle.kp_log.specs.BrokerStep.{Stands}
use Rattle.kp_log.specs.History.{History}
use Rattle.kp_log.proofs.OffsetLemmas.{stands_still}
use Rattle.kp_log.proofs.PlaceLemmas.{In, In-nil, In-from_contains}
use Rattle.kp_rules.proofs.OutcomeLemmas.{entries_of_one}
use Rattle.kp_rules.specs.declared.attempt.Attempt.TheVariants.{InFlight}
use Rattle.kp_rules.specs.declared.outcome.Outcome.TheVariants.{Delivered, DeliveredNoOffset}
use Rattle.kp_rules.specs.Causes.{IsAnswered}
use Rattle.kp_rules.specs.Mismatch.{entries_of}
use Rattle.kp_rules.specs.OutcomeRule.{Telling, TellsBy, IsDelivered, IsDuplicate, MayTell}
use Rattle.kp_rules.specs.Partitions.{partition_at}
use Rattle.kp_rules.specs.Records.{HandedBatch, Open, Partition, Core, Told}
use Rattle.kp_rules.specs.Settling.{meaning_of}
use Rattle.kp_rules.specs.OutcomeRule as call
use Rattle.kp_world.specs.Facts.{facts}
use Rattle.kp_world.specs.Accounts.{items_of, items_handed}
use Rattle.kp_world.specs.Client.{handed_at}
use Rattle.kp_world.specs.Delivering.{log_at}
use Rattle.kp_world.specs.Message.{sent_of, Says, Answers}
use Rattle.kp_world.specs.World.{PartAnswer, Batches as Parts, Reply, World}
use Rattle.std.proofs.lemmas.List.{length-take-le}
use Rattle.kp_world.proofs.TakingLemmas.{took}
use Rattle.kp_world.proofs.AccountLemmas.{IsAccounted}
use Rattle.kp_world.proofs.AccountedLemmas.{handed_home}
use Rattle.kp_world.proofs.HearingLemmas.{parts_heard, stored_code, duplicate_code, answered_batch, old_not_in_flight, same_correlation}
use Rattle.kp_world.proofs.LawfulLemmas.{IsLawful}
use Rattle.kp_world.proofs.LeavingLemmas.{awaits_is}
use Rattle.kp_world.proofs.RuledLemmas.{IsMade, MayBeToldIn}
use Rattle.kp_world.proofs.ListLemmas.{all_at}

-- ---- what is told

-- The item was handed over in a batch that stands in the log, and this is its record's offset.
pub record DeliveredAt (n : ℕ) (handed : List (List HandedBatch)) (logs : List History) (i : Item) (offset : ℤ) : Type 0 where
  pub within : i.partition < n
  pub batch : HandedBatch
  pub known : In batch (handed_at i.partition handed)
  pub front : List Item
  pub back : List Item
  pub items : batch.items ≡ front ++ i ∷ back
  pub base : ℤ
  pub stands : Stands (log_at i.partition logs).records (sent_of batch) base
  pub offset_is : offset ≡ base +ℤ pos (length front)

pub record Truly (n : ℕ) (handed : List (List HandedBatch)) (logs : List History) (t : Told) : Type 0 where
  pub delivered : (offset : ℤ) → t.outcome ≡ Delivered offset → DeliveredAt n handed logs t.item offset
  pub offset : t.outcome ≡ DeliveredNoOffset → ⊥

abbrev pub AllTruly : ℕ → List (List HandedBatch) → List History → List Told → Type 0
AllTruly n handed logs told = (t : Told) → In t told → Truly n handed logs t

-- more was handed over, and the logs have grown
pub truly_grown : (n : ℕ) (handed handed' : List (List HandedBatch)) (logs logs' : List History) → ((p : ℕ) (b : HandedBatch) → p < n → In b (handed_at p handed) → In b (handed_at p handed'))
    → ((p : ℕ) → p < n → (more : List Record) × ((log_at p logs').records ≡ (log_at p logs).records ++ more)) → (t : Told) → Truly n handed logs t → Truly n handed' logs' t
truly_grown n handed handed' logs logs' more grown t k = record {
  delivered = λ o e. let d : DeliveredAt n handed logs t.item o = k.delivered o e in let g = grown t.item.partition d.within in record {
    within = d.within;
    batch = d.batch;
    known = more t.item.partition d.batch d.within d.known;
    front = d.front;
    back = d.back;
    items = d.items;
    base = d.base;
    stands = subst (λ (rs : List Record). Stands rs (sent_of d.batch) d.base) (sym g.1) (stands_still (log_at t.item.partition logs).records g.0 (sent_of d.batch) d.base d.stands);
    offset_is = d.offset_is;
  };
  offset = k.offset;
}

-- ---- where an item is among those that were handed over

-- the item's place among all that were handed over
pub items_split : (handed : List HandedBatch) (b : HandedBatch) (i : Item) (front back : List Item) → (known : In b handed) → b.items ≡ front ++ i ∷ back
    → items_of handed ≡ (items_of known.earlier ++ front) ++ i ∷ (back ++ items_of known.later)
items_split handed b i front back known e =
    ap items_of known.split ∙ flat_map-append (λ (x : HandedBatch). x.items) known.earlier (b ∷ known.later) ∙ ap (λ z. items_of known.earlier ++ (z ++ items_of known.later)) e
    ∙ ap (λ z. items_of known.earlier ++ z) (append_assoc front (i ∷ back) (items_of known.later)) ∙ sym (append_assoc (items_of known.earlier) front (i ∷ (back ++ items_of known.later)))

-- ---- a reply that settles a batch

pub open_there : (ts : List Partition) (p : ℕ) (o : Open) → In o (partition_at p ts).open_batches → p < length ts
open_there [] p o i = absurd (In-nil o i)
open_there (t ∷ ts) zero o i = omega arith
open_there (t ∷ ts) (suc p) o i = omega (arith, open_there ts p o i)

-- the answer is a part of the reply that was given, and the batch is in flight in its request
pub record Heard (n : ℕ) (w : World) (r : Reply) (p : ℕ) (o : Open) (answer : PartitionProduceResponse) : Type 0 where
  pub within : p < n
  pub there : In o (partition_at p w.core.partitions).open_batches
  pub flies : o.attempt ≡ InFlight r.correlation
  pub parts : List PartAnswer
  pub content : r.content ≡ Parts parts
  pub part : PartAnswer
  pub known : In part parts
  pub place : part.partition ≡ p
  pub code : answer.error_code ≡ part.answer.code
  pub base : answer.base_offset ≡ part.answer.base

pub heard : (n : ℕ) (w : World) (r : Reply) (p : ℕ) (o : Open) (answer : PartitionProduceResponse) → IsLawful n w → In r w.replies → IsAnswered w.core r.response p o answer → Heard n w r p o answer
heard n w r p o answer g given x =
    let there : In o (partition_at p w.core.partitions).open_batches = In-from_contains (partition_at p w.core.partitions).open_batches o x.is_open in
    let answers : Answers r.correlation r.content r.response = (g.gave r given).answers in
    let h = parts_heard r.content r.response.body x.produce answers.says x.body_is in
    let entries : entries_of x.produce ≡ x.topic.partitions = entries_of_one x.produce x.topic x.topics in
    let says : Says h.0 answer = all_at (Says h.0) (entries_of x.produce) answer h.2 (subst (In answer) (sym entries) (In-from_contains x.topic.partitions answer x.has)) in
    record {
      within = subst (λ (m : ℕ). p < m) g.count (open_there w.core.partitions p o there);
      there = there;
      flies = awaits_is x.correlation o x.in_flight ∙ ap InFlight (same_correlation x.correlation r.correlation (x.named ∙ answers.named));
      parts = h.0;
      content = h.1;
      part = says.part;
      known = In-from_contains h.0 says.part says.answered;
      place = same_correlation says.part.partition p (sym says.partition ∙ x.partition);
      code = says.code;
      base = says.base;
    }

-- ---- what is told is true

delivered_at : (n : ℕ) (w : World) (r : Reply) (i : Item) (offset : ℤ) → IsLawful n w → IsAccounted w → In r w.replies → IsDelivered offset w.core r.response i → DeliveredAt n w.handed w.logs i offset
delivered_at n w r i offset g a given d =
    let s = d.0 in
    let p = s.partition in
    let o = s.batch in
    let h = heard n w r p o s.answer g given s.answered in
    let both = g.agree p h.within in
    let x = answered_batch p w.core.correlation r.correlation w.core.ended (partition_at p w.core.partitions) (handed_at p w.handed) (log_at p w.logs) w.packets w.replies r h.parts h.part both.steady given h.content refl h.known h.place o h.there h.flies in
    let code = stored_code h.part.answer.code (ap meaning_of (sym h.code) ∙ s.means) in
    let known : In o.batch (handed_at p w.handed) = all_at (λ (y : Open). In y.batch (handed_at p w.handed)) (partition_at p w.core.partitions).open_batches o both.sound.opens h.there in
    let at = took o.batch.items s.place i s.item in
    let mine : i.partition ≡ p = all_at (λ (j : Item). j.partition ≡ p) (items_handed p (facts w)) i (handed_home p w a (subst (λ (m : ℕ). p < m) (sym g.count) h.within)) (record { earlier = items_of known.earlier ++ take s.place o.batch.items; later = at.0 ++ items_of known.later; split = items_split (handed_at p w.handed) o.batch i (take s.place o.batch.items) at.0 known at.2 }) in
    record {
      within = subst (λ (m : ℕ). m < n) (sym mine) h.within;
      batch = o.batch;
      known = subst (λ (m : ℕ). In o.batch (handed_at m w.handed)) (sym mine) known;
      front = take s.place o.batch.items;
      back = at.0;
      items = at.2;
      base = h.part.answer.base;
      stands = subst (λ (m : ℕ). Stands (log_at m w.logs).records (sent_of o.batch) h.part.answer.base) (sym mine) (subst (λ (b : HandedBatch). Stands (log_at p w.logs).records (sent_of b) h.part.answer.base) x.1 (x.0.stored code));
      offset_is = d.1 ∙ ap (λ (z : ℤ). z +ℤ pos s.place) h.base ∙ ap (λ (m : ℕ). h.part.answer.base +ℤ pos m) (sym (length-take-le s.place o.batch.items (omega (arith, at.1))));
    }

no_duplicate : (n : ℕ) (w : World) (r : Reply) (i : Item) → IsLawful n w → In r w.replies → IsDuplicate w.core r.response i → ⊥
no_duplicate n w r i g given s =
    let p = s.partition in
    let h = heard n w r p s.batch s.answer g given s.answered in
    old_not_in_flight p w.core.correlation r.correlation w.core.ended (partition_at p w.core.partitions) (handed_at p w.handed) (log_at p w.logs) w.packets w.replies r h.parts h.part (g.agree p h.within).steady given h.content refl h.known h.place
    (duplicate_code h.part.answer.code (ap meaning_of (sym h.code) ∙ s.means)) s.batch h.there h.flies

-- what only a reply tells is told by one that was given
by_reply : (P : Core → Response → Item → Type 0) (w : World) (i : Item) (c : Telling) → IsMade w c → TellsBy P w.core c i → (r : Reply) × In r w.replies × P w.core r.response i
by_reply P w i (call.Reply now response) made k = (made.0, made.1, subst (λ (x : Response). P w.core x i) made.2 k)
by_reply P w i (call.Append j) made k = absurd k
by_reply P w i (call.Tick node now) made k = absurd k
by_reply P w i call.End made k = absurd k

pub truly_told : (n : ℕ) (w : World) (t : Told) → IsLawful n w → IsAccounted w → MayBeToldIn w t → Truly n w.handed w.logs t
unfolding MayTell
truly_told n w t g a m = record {
  delivered = λ offset e.
      let tells : TellsBy (IsDelivered offset) w.core m.0 t.item = subst (MayTell w.core m.0 t.item) e m.2 in
      let k = by_reply (IsDelivered offset) w t.item m.0 m.1 tells in
      delivered_at n w k.0 t.item offset g a k.1 k.2;
  offset = λ e.
      let tells : TellsBy IsDuplicate w.core m.0 t.item = subst (MayTell w.core m.0 t.item) e m.2 in
      let k = by_reply IsDuplicate w t.item m.0 m.1 tells in
      no_duplicate n w k.0 t.item g k.1 k.2;
}
