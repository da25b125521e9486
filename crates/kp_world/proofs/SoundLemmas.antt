-- A partition, what was handed over for it, and its log: they agree, whatever happens.
use Rattle.std.proofs.Common.{◌≡◌, ℕ, ◌+◌, ◌<◌, List, [], ◌∷◌, ◌++◌, length, map, pos, Some, None, refl, sym, ap, ◌∙◌, subst, ⊎_elim, arith, length-append}
use Rattle.std.specs.Prelude.{Option, unwrap_or, All}
use Rattle.std.specs.List.{AllByRecursion, last_or}
use Rattle.std.proofs.lemmas.Bool.{ne_eqb}
use Rattle.std.proofs.lemmas.List.{map-append, length-map}
use Rattle.std.proofs.lemmas.List.Concat.{flat_map-append}
use Rattle.std.proofs.lemmas.List.Elements.{All-nil, All-weaker, All-push}
use Rattle.kp_accum.specs.Queue.{Pending, body_of}
use Rattle.kp_log.specs.declared.stored.Stored.{Stored}
use Rattle.kp_log.specs.HandedOver.{Follows, AreInSequence, IsStored}
use Rattle.kp_log.specs.History.{Sent, History, stored_of, records_of, with_batch, empty_history}
use Rattle.kp_log.specs.Log.{count_of}
use Rattle.kp_log.proofs.KeepingLemmas.{nothing_handed, one_more_handed}
use Rattle.kp_log.proofs.OffsetLemmas.{stored_still, stands_last}
use Rattle.kp_log.proofs.LogLemmas.{count_of-append, count_of_own, count_of_others}
use Rattle.kp_log.proofs.PlaceLemmas.{In, In-nil, In-head, In-tail, In-append_left, In-append_right}
use Rattle.kp_log.proofs.SequenceLemmas.{ids_apart}
use Rattle.kp_rules.specs.Replies.{go_on_under}
use Rattle.kp_rules.specs.HandingOver.{opened_in, hand_over_in}
use Rattle.kp_rules.specs.MaySend.{new_batch}
use Rattle.kp_rules.specs.Partitions.{new_partition, present_id}
use Rattle.kp_rules.specs.Records.{HandedBatch, Open, Partition}
use Rattle.kp_world.specs.Delivering.{HasNone, AreOthers, with_records}
use Rattle.kp_world.specs.Message.{sent_of}
use Rattle.kp_world.proofs.KeepingLemmas.{HasItems, OpenIn, Keeps}
use Rattle.kp_rules.proofs.ListLemmas.{all_weaker}
use Rattle.kp_world.proofs.ListLemmas.{all_at, one_more}
use Rattle.kp_wire.proofs.ListLemmas.{all_append}

-- the batches as a broker sees them
abbrev pub sents : List HandedBatch → List Sent
sents handed = map sent_of handed

-- how many records of these batches are under the last of these ids
abbrev pub count_under : List ℕ → List HandedBatch → ℕ
count_under ids handed = count_of (pos (unwrap_or (last_or None ids) 0)) (records_of (sents handed))

-- A log: all batches that were appended stand in it as a whole, and it has no other records under an id that was drawn.
pub record Came (drawn : List ℕ) (h : History) : Type 0 where
  pub whole : All (IsStored h.records) h.batches
  pub counted : (id : ℕ) → In id drawn → count_of (pos id) h.records ≡ count_of (pos id) (records_of h.batches)

came_empty : (drawn : List ℕ) → Came drawn empty_history
came_empty drawn = record { whole = All-nil (IsStored []); counted = λ id i. refl }

pub came_others : (drawn : List ℕ) (h : History) (records : List Stored) → AreOthers drawn records → Came drawn h → Came drawn (with_records records h)
came_others drawn h records none came = record {
  whole = All-weaker (IsStored h.records) (IsStored (with_records records h).records) (stored_still h.records records) h.batches came.whole;
  counted = λ id i. count_of-append (pos id) h.records records ∙ omega (arith, came.counted id i, all_at (HasNone records) drawn id none i);
}

-- it begins at the count of its id
pub came_appended : (drawn : List ℕ) (h : History) (b : Sent) → 0 < length b.bodies → Came drawn h → count_of (pos b.id) h.records ≡ b.sequence → Came drawn (with_batch b h)
came_appended drawn h b some came is = record {
  whole = All-push (IsStored (with_batch b h).records) h.batches b
      (All-weaker (IsStored h.records) (IsStored (with_batch b h).records) (stored_still h.records (stored_of b)) h.batches came.whole)
      (record { some_records = some; base = pos (length h.records); stands = stands_last h.records b is });
  counted = λ id i.
      count_of-append (pos id) h.records (stored_of b)
      ∙ omega (arith, came.counted id i, count_of-append (pos id) (records_of h.batches) (stored_of b ++ []), count_of-append (pos id) (stored_of b) [])
      ∙ ap (count_of (pos id)) (sym (flat_map-append stored_of h.batches (b ∷ [])));
}

-- A partition, of all ids that were drawn, with what was handed over for it, and its history.
pub record Sound (drawn : List ℕ) (t : Partition) (handed : List HandedBatch) (h : History) : Type 0 where
  pub number : t.next_number ≡ length handed
  pub sequence : t.next_sequence ≡ count_under t.ids handed
  pub in_sequence : AreInSequence (sents handed)
  pub came : Came drawn h
  pub numbers : (b : HandedBatch) → In b handed → b.number < length handed
  pub under : (b : HandedBatch) → In b handed → In b.id t.ids
  pub present : In (present_id t) t.ids
  pub drawn_all : (id : ℕ) → In id t.ids → In id drawn
  pub opens : OpenIn handed t.open_batches
  pub queue : AllByRecursion HasItems t.queue

-- ---- what keeps it

pub sound_kept : (drawn : List ℕ) (t t' : Partition) (handed : List HandedBatch) (h : History)
    → Sound drawn t handed h → Keeps t t' → Sound drawn t' handed h
sound_kept drawn t t' handed h s k = record {
  number = k.number ∙ s.number;
  sequence = k.sequence ∙ (s.sequence ∙ ap (λ (ids : List ℕ). count_under ids handed) (sym k.ids));
  in_sequence = s.in_sequence;
  came = s.came;
  numbers = s.numbers;
  under = λ b i. subst (λ (ids : List ℕ). In b.id ids) (sym k.ids) (s.under b i);
  present = subst (λ (ids : List ℕ). In (unwrap_or (last_or None ids) 0) ids) (sym k.ids) s.present;
  drawn_all = λ id i. s.drawn_all id (subst (λ (ids : List ℕ). In id ids) k.ids i);
  opens = k.opens handed s.opens;
  queue = k.queue s.queue;
}

pub sound_history : (drawn : List ℕ) (t : Partition) (handed : List HandedBatch) (h h' : History)
    → Sound drawn t handed h → Came drawn h' → Sound drawn t handed h'
sound_history drawn t handed h h' s c = record {
  number = s.number;
  sequence = s.sequence;
  in_sequence = s.in_sequence;
  came = c;
  numbers = s.numbers;
  under = s.under;
  present = s.present;
  drawn_all = s.drawn_all;
  opens = s.opens;
  queue = s.queue;
}

-- ---- the beginning

pub sound_new : (id : ℕ) → Sound (id ∷ []) (new_partition id) [] empty_history
sound_new id = record {
  number = refl;
  sequence = refl;
  in_sequence = nothing_handed;
  came = came_empty (id ∷ []);
  numbers = λ b i. absurd (In-nil b i);
  under = λ b i. absurd (In-nil b i);
  present = In-head id [];
  drawn_all = λ i at. at;
  opens = tt;
  queue = tt;
}

-- ---- a batch is handed over

abbrev new : Partition → Pending → Sent
new t front = sent_of (new_batch t front)

sents_more : (handed : List HandedBatch) (b : HandedBatch) → sents (handed ++ b ∷ []) ≡ sents handed ++ sent_of b ∷ []
sents_more handed b = map-append sent_of handed (b ∷ [])

count_one_more : (id : ℕ) (handed : List HandedBatch) (b : HandedBatch) → b.id ≡ id
    → count_of (pos id) (records_of (sents (handed ++ b ∷ [])))
    ≡ count_of (pos id) (records_of (sents handed)) + length b.items
count_one_more id handed b same =
    let split : records_of (sents (handed ++ b ∷ [])) ≡ records_of (sents handed)
    ++ records_of (sent_of b ∷ []) = ap records_of (sents_more handed b)
    ∙ flat_map-append stored_of (sents handed) (sent_of b ∷ []) in
    let parts : count_of (pos id) (records_of (sents (handed ++ b ∷ [])))
    ≡ count_of (pos id) (records_of (sents handed)) + count_of (pos id)
    (records_of (sent_of b ∷ [])) = ap (count_of (pos id)) split
    ∙ count_of-append (pos id) (records_of (sents handed)) (records_of (sent_of b ∷ [])) in
    let last : count_of (pos id) (stored_of (sent_of b) ++ [])
    ≡ count_of (pos id) (stored_of (sent_of b)) + 0 = count_of-append (pos id)
    (stored_of (sent_of b)) [] in
    let own : count_of (pos id) (stored_of (sent_of b))
    ≡ length (map body_of b.items) = ap (λ (n : ℕ). count_of (pos n) (stored_of (sent_of b)))
    (sym same) ∙ count_of_own (pos b.id) (map body_of b.items) in
    let size : length (map body_of b.items) ≡ length b.items = length-map b.items body_of in
    omega (arith, parts, last, own, size)

pub opens_more : (handed : List HandedBatch) (b : HandedBatch) (os : List Open) → OpenIn handed os → OpenIn (handed ++ b ∷ []) os
opens_more handed b os h = all_weaker (λ (o : Open). In o.batch handed)
    (λ (o : Open). In o.batch (handed ++ b ∷ [])) (λ o i. In-append_left o.batch handed (b ∷ []) i)
    os h

pub opens_last : (handed : List HandedBatch) (o : Open) (os : List Open) → In o.batch handed
    → OpenIn handed os → OpenIn handed (os ++ o ∷ [])
opens_last handed o os i h = all_append (λ (x : Open). In x.batch handed) os (o ∷ []) h (i, tt)

pub sound_handed : (drawn : List ℕ) (t : Partition) (handed : List HandedBatch) (h : History) (request : ℕ) (front : Pending) (rest : List Pending)
    → Sound drawn t handed h → t.queue ≡ front ∷ rest → Sound drawn (hand_over_in request t (front ∷ rest)) (handed ++ new_batch t front ∷ []) h
unfolding hand_over_in
sound_handed drawn t handed h request front rest s queue = record {
  number = omega (arith, all, s.number);
  sequence = let m : count_under t.ids (handed ++ new_batch t front ∷ []) ≡ count_under t.ids handed + length front.items = count_one_more (present_id t) handed (new_batch t front) refl in omega (arith, s.sequence, m);
  in_sequence = subst AreInSequence (sym (sents_more handed (new_batch t front))) (one_more_handed (sents handed) (new t front) s.in_sequence follows);
  came = s.came;
  numbers = λ x i. ⊎_elim (λ (j : In x handed). omega (arith, all, s.numbers x j)) (λ (same : x ≡ new_batch t front). let m : x.number ≡ t.next_number = ap (λ (y : HandedBatch). y.number) same in omega (arith, all, s.number, m)) (one_more handed (new_batch t front) x i);
  under = λ x i. ⊎_elim (λ (j : In x handed). s.under x j) (λ (same : x ≡ new_batch t front). subst (λ (y : HandedBatch). In y.id t.ids) (sym same) s.present) (one_more handed (new_batch t front) x i);
  present = s.present;
  drawn_all = s.drawn_all;
  opens = opens_last (handed ++ new_batch t front ∷ []) (opened_in request t front) t.open_batches (In-append_right (new_batch t front) handed (new_batch t front ∷ []) (In-head (new_batch t front) [])) (opens_more handed (new_batch t front) t.open_batches s.opens);
  queue = first.1;
}
  where
    first : AllByRecursion HasItems (front ∷ rest)
    first = subst (AllByRecursion HasItems) queue s.queue

    some : 0 < length (map body_of front.items)
    some = let size : length (map body_of front.items) ≡ length front.items = length-map front.items body_of in omega (arith, size, first.0)

    follows : Follows (sents handed) (new t front)
    follows = record { some_records = some; sequence = s.sequence }

    all : length (handed ++ new_batch t front ∷ []) ≡ length handed + 1
    all = length-append handed (new_batch t front ∷ [])

-- ---- a fresh id

pub count_none : (id : ℕ) (handed : List HandedBatch) → ((b : HandedBatch) → In b handed → b.id ≡ id → ⊥)
    → count_of (pos id) (records_of (sents handed)) ≡ 0
count_none id [] h = refl
count_none id (b ∷ handed) h =
    let rest : count_of (pos id) (records_of (sents handed))
    ≡ 0 = count_none id handed (λ c i e. h c (In-tail c b handed i) e) in
    let parts : count_of (pos id) (records_of (sents (b ∷ handed)))
    ≡ count_of (pos id) (stored_of (sent_of b)) + count_of (pos id)
    (records_of (sents handed)) = count_of-append (pos id) (stored_of (sent_of b))
    (records_of (sents handed)) in
    let none : count_of (pos id) (stored_of (sent_of b))
    ≡ 0 = count_of_others (pos id) (pos b.id) (map body_of b.items)
    (ids_apart b.id id (ne_eqb b.id id (h b (In-head b handed)))) in
    omega (arith, rest, parts, none)

pub last_is : (o : Option ℕ) (ids : List ℕ) (id : ℕ) → last_or o (ids ++ id ∷ []) ≡ Some id
last_is o [] id = refl
last_is o (x ∷ ids) id = last_is (Some x) ids id

pub sound_fresh : (drawn : List ℕ) (id : ℕ) (t : Partition) (handed : List HandedBatch) (h : History)
    → Sound drawn t handed h → In id drawn → (In id t.ids → ⊥) → Sound drawn (go_on_under id t) handed h
sound_fresh drawn id t handed h s known fresh = record {
  number = s.number;
  sequence = sym (ap (λ (o : Option ℕ). count_of (pos (unwrap_or o 0)) (records_of (sents handed)))
      (last_is None t.ids id) ∙ count_none id handed
      (λ b i e. fresh (subst (λ (n : ℕ). In n t.ids) e (s.under b i))));
  in_sequence = s.in_sequence;
  came = s.came;
  numbers = s.numbers;
  under = λ b i. In-append_left b.id t.ids (id ∷ []) (s.under b i);
  present = subst (λ (o : Option ℕ). In (unwrap_or o 0) (t.ids ++ id ∷ []))
      (sym (last_is None t.ids id)) (In-append_right id t.ids (id ∷ []) (In-head id []));
  drawn_all = λ i at. ⊎_elim (λ (j : In i t.ids). s.drawn_all i j) (λ (same : i ≡ id). subst (λ (n : ℕ). In n drawn) (sym same) known) (one_more t.ids id i at);
  opens = s.opens;
  queue = s.queue;
}
