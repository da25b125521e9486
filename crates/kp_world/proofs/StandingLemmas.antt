-- A record whose offset was told stands there, at its place among the own records.
use Rattle.std.proofs.Common.{◌≡◌, ℕ, suc, ◌+◌, ◌<◌, Bool, true, false, cond, List, [], ◌∷◌, ◌++◌, length, map, ℤ, pos, ◌+ℤ◌, refl, sym, ap, ◌∙◌, ⊎_elim, arith, length-append, append_assoc}
use Rattle.std.specs.List.{flat_map, filter}
use Rattle.std.specs.Ordering.{int_eq}
use Rattle.std.proofs.lemmas.Bool.Decides.{Decides-int_eq}
use Rattle.std.proofs.lemmas.List.{map-append, length-map}
use Rattle.std.proofs.lemmas.List.Concat.{flat_map-append}
use Rattle.kp_batch.specs.declared.record.Record.{Record}
use Rattle.kp_accum.specs.declared.item.Item.{Item}
use Rattle.kp_accum.specs.Queue.{body_of}
use Rattle.kp_log.specs.declared.stored.Stored.{Stored}
use Rattle.kp_log.specs.BrokerStep.{Stands}
use Rattle.kp_log.specs.HandedOver.{Follows}
use Rattle.kp_log.specs.History.{History, stored_of, records_of, own, is_under}
use Rattle.kp_log.specs.Log.{count_of, stored_as}
use Rattle.kp_log.proofs.LogLemmas.{length-stored_as, int_eq_same}
use Rattle.kp_log.proofs.PlaceLemmas.{In, In-from_contains, contains_from_In, cut_cases}
use Rattle.kp_rules.specs.Records.{HandedBatch, Partition}
use Rattle.kp_world.specs.Accounts.{items_of}
use Rattle.kp_world.specs.Facts.{facts, told_in}
use Rattle.kp_world.specs.Events.{WorldEvent}
use Rattle.kp_world.specs.Client.{handed_at}
use Rattle.kp_world.specs.Delivering.{log_at}
use Rattle.kp_world.specs.LogLaws.{partition_of, StandsAt, ToldOffsetsStand, EachDeliveryHasItsOffset}
use Rattle.kp_world.specs.Message.{sent_of}
use Rattle.kp_world.specs.Run.{IsReached}
use Rattle.kp_world.specs.World.{World, Opening}
use Rattle.kp_world.proofs.BrokerLemmas.{Agrees}
use Rattle.kp_world.proofs.LawfulLemmas.{IsLawful}
use Rattle.kp_world.proofs.PrefixLemmas.{Cut, own-append, own_known, follows, stored_landed}
use Rattle.kp_world.proofs.RunLemmas.{lawful_reached}
use Rattle.kp_world.proofs.SoundLemmas.{Sound, sents}
use Rattle.kp_world.proofs.DeliveredLemmas.{DeliveredAt, items_split}
use Rattle.kp_world.proofs.AccountLemmas.{}
use Rattle.kp_world.proofs.TruthLemmas.{truthful_reached}

-- ---- places among an id's records

-- a record of the id counts
pub counts_first : (id : ℤ) (s : Stored) (ys : List Stored) → s.producer_id ≡ id → count_of id (s ∷ ys) ≡ 0 → ⊥
counts_first id s ys h n =
    let is = ap (λ (z : ℤ). int_eq z id) h ∙ int_eq_same id in
    let more : suc (count_of id ys) ≡ 0 = sym (ap (λ (b : Bool). cond b (suc (count_of id ys)) (count_of id ys)) is) ∙ n in
    omega arith

-- equal counts before two records of one id: the same place
same_place : (id : ℤ) (xs ys : List Stored) (p q : Stored) (u v : List Stored) → p.producer_id ≡ id → q.producer_id ≡ id → xs ++ p ∷ u ≡ ys ++ q ∷ v → count_of id xs ≡ count_of id ys → length xs ≡ length ys
same_place id [] [] p q u v hp hq e n = refl
same_place id [] (y ∷ ys) p q u v hp hq e n = let same : p ≡ y = cc in absurd (counts_first id y ys (ap (λ (s : Stored). s.producer_id) (sym same) ∙ hp) (sym n))
same_place id (x ∷ xs) [] p q u v hp hq e n = let same : x ≡ q = cc in absurd (counts_first id x xs (ap (λ (s : Stored). s.producer_id) same ∙ hq) n)
same_place id (x ∷ xs) (y ∷ ys) p q u v hp hq e n =
    let same : x ≡ y = cc in
    let next : xs ++ p ∷ u ≡ ys ++ q ∷ v = cc in
    ap suc (same_place id xs ys p q u v hp hq next (less (int_eq y.producer_id id) (sym (ap (λ (s : Stored). cond (int_eq s.producer_id id) (suc (count_of id xs)) (count_of id xs)) same) ∙ n)))
  where
    less : (b : Bool) → cond b (suc (count_of id xs)) (count_of id xs) ≡ cond b (suc (count_of id ys)) (count_of id ys) → count_of id xs ≡ count_of id ys
    less true m = omega arith
    less false m = m

-- the own records have all of an own id
count_own : (id : ℕ) (ids : List ℕ) (xs : List Stored) → In id ids → count_of (pos id) (own ids xs) ≡ count_of (pos id) xs
unfolding own
count_own id ids [] i = refl
count_own id ids (x ∷ xs) i = at_test (int_eq x.producer_id (pos id)) refl (count_own id ids xs i)
  where
    kept : int_eq x.producer_id (pos id) ≡ true → own ids (x ∷ []) ≡ x ∷ []
    kept is =
        let its : x.producer_id ≡ pos id = (Decides-int_eq x.producer_id (pos id)).0 is in
        let one : x ∷ [] ≡ stored_as (pos id) (x.body ∷ []) = ap (λ (z : ℤ). let s : Stored = record { producer_id = z; body = x.body } in s ∷ []) its in
        ap (own ids) one ∙ own_known id ids (x.body ∷ []) i ∙ sym one

    under_it : (b : Bool) → cond b (x ∷ []) [] ≡ x ∷ [] → b ≡ true
    under_it true e = refl
    under_it false e = absurd cc

    other : (b c : Bool) → int_eq x.producer_id (pos id) ≡ false → count_of (pos id) (filter (is_under (map pos ids)) xs) ≡ count_of (pos id) xs
        → count_of (pos id) (cond b (x ∷ filter (is_under (map pos ids)) xs) (filter (is_under (map pos ids)) xs)) ≡ count_of (pos id) xs
    other true c is e = ap (λ (t : Bool). cond t (suc (count_of (pos id) (filter (is_under (map pos ids)) xs))) (count_of (pos id) (filter (is_under (map pos ids)) xs))) is ∙ e
    other false c is e = e

    at_test : (b : Bool) → int_eq x.producer_id (pos id) ≡ b → count_of (pos id) (filter (is_under (map pos ids)) xs) ≡ count_of (pos id) xs
        → count_of (pos id) (cond (is_under (map pos ids) x) (x ∷ filter (is_under (map pos ids)) xs) (filter (is_under (map pos ids)) xs)) ≡ cond (int_eq x.producer_id (pos id)) (suc (count_of (pos id) xs)) (count_of (pos id) xs)
    at_test true is e =
        ap (λ (t : Bool). count_of (pos id) (cond t (x ∷ filter (is_under (map pos ids)) xs) (filter (is_under (map pos ids)) xs))) (under_it (is_under (map pos ids) x) (kept is))
        ∙ ap (λ (n : ℕ). cond (int_eq x.producer_id (pos id)) (suc n) n) e
    at_test false is e =
        other (is_under (map pos ids) x) true is e ∙ sym (ap (λ (t : Bool). cond t (suc (count_of (pos id) xs)) (count_of (pos id) xs)) is)

-- as many records as items
length_records : (bs : List HandedBatch) → length (records_of (sents bs)) ≡ length (flat_map (λ (b : HandedBatch). b.items) bs)
length_records [] = refl
length_records (b ∷ bs) =
    let first : length (stored_of (sent_of b)) ≡ length b.items = length-stored_as (pos b.id) (map body_of b.items) ∙ length-map b.items body_of in
    omega (arith, length-append (stored_of (sent_of b)) (records_of (sents bs)), length-append b.items (flat_map (λ (c : HandedBatch). c.items) bs), first, length_records bs)

-- ---- the own records before a stored batch are those of the batches that were handed over before it

own_before : (ids : List ℕ) (t : Partition) (handed : List HandedBatch) (h : History) → Sound ids t handed h → (cut : Cut t handed h) → (b : HandedBatch) (i : In b handed) (base : ℤ) (s : Stands h.records (sent_of b) base)
    → length (own t.ids s.before) ≡ length (flat_map (λ (c : HandedBatch). c.items) i.earlier)
own_before ids t handed h sound cut b i base s =
    ⊎_elim
    (λ (k : (more : _) × (cut.landed ≡ i.earlier ++ b ∷ more)). there k.0 k.1)
    (λ (k : (more : _) × (cut.rest ≡ more ++ b ∷ i.later) × (i.earlier ≡ cut.landed ++ more)). absurd (stored_landed ids t handed h sound cut b (record { some_records = place.some_records; base = base; stands = s }) (record { earlier = k.0; later = i.later; split = k.1 })))
    (cut_cases i.earlier b i.later cut.landed cut.rest (sym i.split ∙ cut.split))
  where
    place : Follows (sents i.earlier) (sent_of b)
    place = follows ids t handed h sound i.earlier i.later b i.split

    there : (more : List HandedBatch) → cut.landed ≡ i.earlier ++ b ∷ more → length (own t.ids s.before) ≡ length (flat_map (λ (c : HandedBatch). c.items) i.earlier)
    there more e = by_first (sent_of b).bodies refl ∙ length_records i.earlier
      where
        left : own t.ids h.records ≡ own t.ids s.before ++ (stored_of (sent_of b) ++ own t.ids s.after)
        left = ap (own t.ids) s.split ∙ own-append t.ids s.before (stored_of (sent_of b) ++ s.after) ∙ ap (λ z. own t.ids s.before ++ z) (own-append t.ids (stored_of (sent_of b)) s.after ∙ ap (λ z. z ++ own t.ids s.after) (own_known b.id t.ids (sent_of b).bodies (sound.under b i)))

        right : own t.ids h.records ≡ records_of (sents i.earlier) ++ (stored_of (sent_of b) ++ records_of (sents more))
        right = cut.owned ∙ ap records_of cut.appended ∙ ap (λ z. records_of (sents z)) e ∙ ap records_of (map-append sent_of i.earlier (b ∷ more)) ∙ flat_map-append stored_of (sents i.earlier) (sents (b ∷ more))

        counts : count_of (pos b.id) (own t.ids s.before) ≡ count_of (pos b.id) (records_of (sents i.earlier))
        counts = count_own b.id t.ids s.before (sound.under b i) ∙ s.place ∙ place.sequence

        by_first : (rs : List Record) → (sent_of b).bodies ≡ rs → length (own t.ids s.before) ≡ length (records_of (sents i.earlier))
        by_first [] none = absurd (let some : 0 < length (sent_of b).bodies = place.some_records in let size : length (sent_of b).bodies ≡ 0 = ap length none in omega arith)
        by_first (r ∷ rs) is =
            let one = ap (λ z. own t.ids s.before ++ (stored_as (pos b.id) z ++ own t.ids s.after)) is in
            let two = ap (λ z. records_of (sents i.earlier) ++ (stored_as (pos b.id) z ++ records_of (sents more))) is in
            let first : Stored = record { producer_id = pos b.id; body = r } in
            same_place (pos b.id) (own t.ids s.before) (records_of (sents i.earlier)) first first (stored_as (pos b.id) rs ++ own t.ids s.after) (stored_as (pos b.id) rs ++ records_of (sents more)) refl refl (sym one ∙ sym left ∙ right ∙ two) counts

-- ---- the laws

stands_at : (n : ℕ) (w : World) (i : Item) (offset : ℤ) → IsLawful n w → DeliveredAt n w.handed w.logs i offset → StandsAt (facts w) i offset
stands_at n w i offset g d = record {
  earlier = items_of d.known.earlier ++ d.front;
  later = d.back ++ items_of d.known.later;
  handed = items_split (handed_at i.partition w.handed) d.batch i d.front d.back d.known d.items;
  id = d.batch.id;
  known = contains_from_In (partition_of i.partition (facts w)).ids d.batch.id (both.sound.under d.batch d.known);
  before = d.stands.before ++ stored d.front;
  after = stored d.back ++ d.stands.after;
  record_is = d.stands.split ∙ ap (λ z. d.stands.before ++ (z ++ d.stands.after)) (ap stored d.items ∙ stored-append d.front (i ∷ d.back))
      ∙ ap (λ z. d.stands.before ++ z) (append_assoc (stored d.front) (stored (i ∷ d.back)) d.stands.after) ∙ sym (append_assoc d.stands.before (stored d.front) (stored (i ∷ d.back) ++ d.stands.after));
  offset_is = d.offset_is ∙ ap (λ (z : ℤ). z +ℤ pos (length d.front)) d.stands.offset ∙ ap (λ (m : ℕ). pos m) (sym (length-append d.stands.before (stored d.front) ∙ ap (λ (m : ℕ). length d.stands.before + m) (length_stored d.front)));
  place = ap length (own-append (partition_of i.partition (facts w)).ids d.stands.before (stored d.front) ∙ ap (λ z. own (partition_of i.partition (facts w)).ids d.stands.before ++ z) (own_known d.batch.id (partition_of i.partition (facts w)).ids (map body_of d.front) (both.sound.under d.batch d.known)))
      ∙ length-append (own (partition_of i.partition (facts w)).ids d.stands.before) (stored d.front)
      ∙ ap (λ (m : ℕ). m + length (stored d.front)) (own_before w.ids (partition_of i.partition (facts w)) (handed_at i.partition w.handed) (log_at i.partition w.logs) both.sound both.steady.cut d.batch d.known d.base d.stands)
      ∙ ap (λ (m : ℕ). length (items_of d.known.earlier) + m) (length_stored d.front) ∙ sym (length-append (items_of d.known.earlier) d.front);
}
  where
    stored : List Item → List Stored
    stored is = stored_as (pos d.batch.id) (map body_of is)

    stored-append : (xs ys : List Item) → stored_as (pos d.batch.id) (map body_of (xs ++ ys)) ≡ stored_as (pos d.batch.id) (map body_of xs) ++ stored_as (pos d.batch.id) (map body_of ys)
    stored-append xs ys = ap (stored_as (pos d.batch.id)) (map-append body_of xs ys) ∙ map-append (λ (r : Record). let s : Stored = record { producer_id = pos d.batch.id; body = r } in s) (map body_of xs) (map body_of ys)

    length_stored : (xs : List Item) → length (stored_as (pos d.batch.id) (map body_of xs)) ≡ length xs
    length_stored xs = length-stored_as (pos d.batch.id) (map body_of xs) ∙ length-map xs body_of

    both : Agrees 5 n w.ids w.core w.handed w.logs w.packets w.replies i.partition
    both = g.agree i.partition d.within

pub told_offsets_stand : (o : Opening) (es : List WorldEvent) (w : World) → IsReached o es w → ToldOffsetsStand (facts w)
told_offsets_stand o es w r t offset x is =
    stands_at o.partitions w t.item offset (lawful_reached o es w r) ((truthful_reached o es w r t (In-from_contains (told_in w.past) t x)).delivered offset is)

pub each_delivery_has_its_offset : (o : Opening) (es : List WorldEvent) (w : World) → IsReached o es w → EachDeliveryHasItsOffset (facts w)
each_delivery_has_its_offset o es w r t x is =
    (truthful_reached o es w r t (In-from_contains (told_in w.past) t x)).offset is
