-- What a partition's log has of the batches that were handed over for it: the first so many, in order.
-- Whatever comes to an honest broker, only the first of the others can be appended.
use Rattle.std.proofs.Common.{◌≡◌, ◌⊎◌, ℕ, suc, ◌+◌, ◌<◌, Bool, true, false, cond, List, [], ◌∷◌, ◌++◌, length, map, ℤ, pos, refl, sym, ap, ◌∙◌, subst, inl, inr, ⊎_elim, arith, length-append, append_assoc}
use Rattle.std.specs.Prelude.{Option, None, unwrap_or, ◌==◌, ◌||◌}
use Rattle.std.specs.List.{filter, list_any, last_or}
use Rattle.std.specs.Ordering.{int_eq}
use Rattle.std.proofs.lemmas.Bool.{eqb-true}
use Rattle.std.proofs.lemmas.List.{append-nil, map-append}
use Rattle.std.proofs.lemmas.List.Concat.{flat_map-append}
use Rattle.std.proofs.lemmas.List.Elements.{filter-append}
use Rattle.kp_batch.specs.declared.record.Record.{Record}
use Rattle.kp_accum.specs.Queue.{Pending}
use Rattle.kp_log.specs.declared.stored.Stored.{Stored}
use Rattle.kp_log.specs.BrokerStep.{MayAppend}
use Rattle.kp_log.specs.HandedOver.{Follows, IsStored}
use Rattle.kp_log.specs.History.{History, stored_of, records_of, with_batch, empty_history, is_under, own}
use Rattle.kp_log.specs.Log.{count_of, stored_as}
use Rattle.kp_log.proofs.LogLemmas.{count_of-append, count_of_own, int_eq_same}
use Rattle.kp_log.proofs.PlaceLemmas.{In, In-nil, In-cons, In-head, In-append_left, In-append_right, cut_cases}
use Rattle.kp_rules.specs.Replies.{go_on_under}
use Rattle.kp_rules.specs.HandingOver.{hand_over_in}
use Rattle.kp_rules.specs.MaySend.{is_confirmed, new_batch}
use Rattle.kp_rules.specs.Partitions.{new_partition, present_id}
use Rattle.kp_rules.specs.Records.{HandedBatch, Open, Partition}
use Rattle.kp_world.specs.Delivering.{HasNone, AreOthers, with_records}
use Rattle.kp_world.specs.Message.{sent_of}
use Rattle.kp_world.proofs.LeavingLemmas.{Leaves}
use Rattle.kp_world.proofs.SoundLemmas.{Sound, sents, count_none, last_is}
use Rattle.kp_world.proofs.ListLemmas.{all_at, all_in, one_more}

-- ---- records under these ids

pub any_known : (id : ℕ) (ids : List ℕ) → In id ids → list_any (int_eq (pos id)) (map pos ids) ≡ true
any_known id [] i = absurd (In-nil id i)
any_known id (x ∷ ids) i = ⊎_elim (λ (same : id ≡ x). subst (λ (n : ℕ). int_eq (pos id) (pos n) || list_any (int_eq (pos id)) (map pos ids) ≡ true) same (ap (λ (b : Bool). b || list_any (int_eq (pos id)) (map pos ids)) (int_eq_same (pos id)))) (λ (j : In id ids). at_test (int_eq (pos id) (pos x)) (any_known id ids j)) (In-cons id x ids i)
  where
    at_test : (b : Bool) → list_any (int_eq (pos id)) (map pos ids) ≡ true → b || list_any (int_eq (pos id)) (map pos ids) ≡ true
    at_test true e = refl
    at_test false e = e

any_last : (z : ℤ) (id : ℕ) (ids : List ℕ) → int_eq z (pos id) ≡ false → list_any (int_eq z) (map pos (ids ++ id ∷ [])) ≡ list_any (int_eq z) (map pos ids)
any_last z id [] e = ap (λ (b : Bool). b || false) e
any_last z id (x ∷ ids) e = ap (λ (b : Bool). int_eq z (pos x) || b) (any_last z id ids e)

pub own-append : (ids : List ℕ) (xs ys : List Stored) → own ids (xs ++ ys) ≡ own ids xs ++ own ids ys
unfolding own
own-append ids xs ys = filter-append (is_under (map pos ids)) xs ys

pub own_known : (id : ℕ) (ids : List ℕ) (rs : List Record) → In id ids → own ids (stored_as (pos id) rs) ≡ stored_as (pos id) rs
unfolding own
own_known id ids [] i = refl
own_known id ids (r ∷ rs) i =
    let first : Stored = record { producer_id = pos id; body = r } in
    ap (λ (b : Bool). cond b (first ∷ filter (is_under (map pos ids)) (stored_as (pos id) rs)) (filter (is_under (map pos ids)) (stored_as (pos id) rs))) (any_known id ids i)
    ∙ ap (λ (z : List Stored). first ∷ z) (own_known id ids rs i)

-- none of these records is under one of these ids
own_others : (ids : List ℕ) (rs : List Stored) → AreOthers ids rs → own ids rs ≡ []
unfolding own
own_others [] rs none = nothing rs
  where
    nothing : (rs : List Stored) → filter (is_under []) rs ≡ []
    nothing [] = refl
    nothing (r ∷ rs) = nothing rs
own_others (id ∷ ids) rs none = both rs none.0 (own_others ids rs none.1)
  where
    both : (rs : List Stored) → count_of (pos id) rs ≡ 0 → filter (is_under (map pos ids)) rs ≡ [] → filter (is_under (map pos (id ∷ ids))) rs ≡ []
    both [] e f = refl
    both (r ∷ rs) e f = at_tests (int_eq r.producer_id (pos id)) (is_under (map pos ids) r) e f (both rs)
      where
        at_tests : (b c : Bool) → cond b (suc (count_of (pos id) rs)) (count_of (pos id) rs) ≡ 0 → cond c (r ∷ filter (is_under (map pos ids)) rs) (filter (is_under (map pos ids)) rs) ≡ []
            → (count_of (pos id) rs ≡ 0 → filter (is_under (map pos ids)) rs ≡ [] → filter (is_under (map pos (id ∷ ids))) rs ≡ [])
            → cond (b || c) (r ∷ filter (is_under (map pos (id ∷ ids))) rs) (filter (is_under (map pos (id ∷ ids))) rs) ≡ []
        at_tests true c e' f' later = absurd (omega (arith, e'))
        at_tests false true e' f' later = absurd cc
        at_tests false false e' f' later = later e' f'

own_fresh : (id : ℕ) (ids : List ℕ) (xs : List Stored) → count_of (pos id) xs ≡ 0 → own (ids ++ id ∷ []) xs ≡ own ids xs
unfolding own
own_fresh id ids [] e = refl
own_fresh id ids (x ∷ xs) e = at_test (int_eq x.producer_id (pos id)) refl (λ k. own_fresh id ids xs k) e
  where
    at_test : (b : Bool) → int_eq x.producer_id (pos id) ≡ b → (count_of (pos id) xs ≡ 0 → filter (is_under (map pos (ids ++ id ∷ []))) xs ≡ filter (is_under (map pos ids)) xs)
        → cond b (suc (count_of (pos id) xs)) (count_of (pos id) xs) ≡ 0
        → cond (is_under (map pos (ids ++ id ∷ [])) x) (x ∷ filter (is_under (map pos (ids ++ id ∷ []))) xs) (filter (is_under (map pos (ids ++ id ∷ []))) xs)
        ≡ cond (is_under (map pos ids) x) (x ∷ filter (is_under (map pos ids)) xs) (filter (is_under (map pos ids)) xs)
    at_test true is later e' = absurd (omega arith)
    at_test false is later e' =
        ap (λ (b : Bool). cond b (x ∷ filter (is_under (map pos (ids ++ id ∷ []))) xs) (filter (is_under (map pos (ids ++ id ∷ []))) xs)) (any_last x.producer_id id ids is)
        ∙ ap (λ (z : List Stored). cond (is_under (map pos ids) x) (x ∷ z) z) (later e')

-- ---- how many records of these batches are under an id

abbrev pub records_under : ℕ → List HandedBatch → ℕ
records_under id bs = count_of (pos id) (records_of (sents bs))

abbrev pub size : HandedBatch → ℕ
size b = length (sent_of b).bodies

pub under-append : (id : ℕ) (xs ys : List HandedBatch) → records_under id (xs ++ ys) ≡ records_under id xs + records_under id ys
under-append id xs ys = ap (λ z. count_of (pos id) (records_of z)) (map-append sent_of xs ys) ∙ ap (count_of (pos id)) (flat_map-append stored_of (sents xs) (sents ys)) ∙ count_of-append (pos id) (records_of (sents xs)) (records_of (sents ys))

pub under_more : (id : ℕ) (xs ys : List HandedBatch) (b : HandedBatch) → b.id ≡ id → records_under id (xs ++ b ∷ ys) ≡ records_under id xs + (size b + records_under id ys)
under_more id xs ys b same =
    let first : count_of (pos id) (stored_of (sent_of b)) ≡ size b = ap (λ (n : ℕ). count_of (pos n) (stored_of (sent_of b))) (sym same) ∙ count_of_own (pos b.id) (sent_of b).bodies in
    let later : records_under id (b ∷ ys) ≡ count_of (pos id) (stored_of (sent_of b)) + records_under id ys = count_of-append (pos id) (stored_of (sent_of b)) (records_of (sents ys)) in
    omega (arith, under-append id xs (b ∷ ys), first, later)

-- ---- the log and what was handed over

-- What was handed over is what is in the log, and then the rest, all under the present id. The rest has two batches only
-- where a record under that id is in the log.
pub record Cut (t : Partition) (handed : List HandedBatch) (h : History) : Type 0 where
  pub landed : List HandedBatch
  pub rest : List HandedBatch
  pub split : handed ≡ landed ++ rest
  pub appended : h.batches ≡ sents landed
  pub owned : own t.ids h.records ≡ records_of h.batches
  pub places : (earlier later : List HandedBatch) (b : HandedBatch) → handed ≡ earlier ++ b ∷ later → b.number ≡ length earlier
  pub current : (b : HandedBatch) → In b rest → b.id ≡ present_id t
  pub first : 1 < length rest → 0 < count_of (pos (present_id t)) h.records
  pub heard : t.acknowledged ≡ true → 0 < count_of (pos (present_id t)) h.records

pub follows : (ids : List ℕ) (t : Partition) (handed : List HandedBatch) (h : History) → Sound ids t handed h → (earlier later : List HandedBatch) (b : HandedBatch) → handed ≡ earlier ++ b ∷ later → Follows (sents earlier) (sent_of b)
follows ids t handed h s earlier later b e = s.in_sequence.each (sents earlier) (sents later) (sent_of b) (ap sents e ∙ map-append sent_of earlier (b ∷ later))

-- what was handed over is under an id that was drawn
drawn_for : (ids : List ℕ) (t : Partition) (handed : List HandedBatch) (h : History) → Sound ids t handed h → (b : HandedBatch) → In b handed → In b.id ids
drawn_for ids t handed h s b i = s.drawn_all b.id (s.under b i)

-- the count of an id's records in the log
pub counted : (ids : List ℕ) (t : Partition) (handed : List HandedBatch) (h : History) → Sound ids t handed h → (cut : Cut t handed h) → (id : ℕ) → In id ids → count_of (pos id) h.records ≡ records_under id cut.landed
counted ids t handed h s cut id i =
    s.came.counted id i ∙ ap (λ z. count_of (pos id) (records_of z)) cut.appended

-- a batch that is stored isn't among the rest
pub stored_landed : (ids : List ℕ) (t : Partition) (handed : List HandedBatch) (h : History) → Sound ids t handed h → (cut : Cut t handed h) → (b : HandedBatch) → IsStored h.records (sent_of b) → In b cut.rest → ⊥
stored_landed ids t handed h s cut b stored i =
    let split : handed ≡ (cut.landed ++ i.earlier) ++ b ∷ i.later = cut.split ∙ ap (λ z. cut.landed ++ z) i.split ∙ sym (append_assoc cut.landed i.earlier (b ∷ i.later)) in
    let place : Follows (sents (cut.landed ++ i.earlier)) (sent_of b) = follows ids t handed h s (cut.landed ++ i.earlier) i.later b split in
    let before = under-append b.id cut.landed i.earlier in
    let all = counted ids t handed h s cut b.id (drawn_for ids t handed h s b (record { earlier = cut.landed ++ i.earlier; later = i.later; split = split })) in
    let parts : count_of (pos b.id) h.records ≡ count_of (pos b.id) stored.stands.before + (count_of (pos b.id) (stored_of (sent_of b)) + count_of (pos b.id) stored.stands.after) =
    ap (count_of (pos b.id)) stored.stands.split ∙ count_of-append (pos b.id) stored.stands.before (stored_of (sent_of b) ++ stored.stands.after) ∙ ap (λ (n : ℕ). count_of (pos b.id) stored.stands.before + n) (count_of-append (pos b.id) (stored_of (sent_of b)) stored.stands.after) in
    let own_part : count_of (pos b.id) (stored_of (sent_of b)) ≡ size b = count_of_own (pos b.id) (sent_of b).bodies in
    let sequence : b.sequence ≡ records_under b.id (cut.landed ++ i.earlier) = place.sequence in
    let at : count_of (pos b.id) stored.stands.before ≡ b.sequence = stored.stands.place in
    let some : 0 < size b = place.some_records in
    omega (arith, before, all, parts, own_part, sequence, at, some)

-- Of what was handed over only the first batch of the rest may be appended.
pub lands : (ids : List ℕ) (t : Partition) (handed : List HandedBatch) (h : History) → Sound ids t handed h → (cut : Cut t handed h) → (b : HandedBatch) → In b handed → MayAppend h (sent_of b)
    → (later : List HandedBatch) × (cut.rest ≡ b ∷ later)
lands ids t handed h s cut b i may =
    ⊎_elim
    (λ (k : (more : _) × (cut.landed ≡ i.earlier ++ b ∷ more)). absurd (there k.0 k.1))
    (λ (k : (more : _) × (cut.rest ≡ more ++ b ∷ i.later) × (i.earlier ≡ cut.landed ++ more)). ahead k.0 k.1 k.2)
    (cut_cases i.earlier b i.later cut.landed cut.rest (sym i.split ∙ cut.split))
  where
    place : Follows (sents i.earlier) (sent_of b)
    place = follows ids t handed h s i.earlier i.later b i.split

    all : count_of (pos b.id) h.records ≡ records_under b.id cut.landed
    all = counted ids t handed h s cut b.id (drawn_for ids t handed h s b i)

    there : (more : List HandedBatch) → cut.landed ≡ i.earlier ++ b ∷ more → ⊥
    there more e =
        let sum : records_under b.id cut.landed ≡ records_under b.id i.earlier + (size b + records_under b.id more) = ap (records_under b.id) e ∙ under_more b.id i.earlier more b refl in
        let sequence : b.sequence ≡ records_under b.id i.earlier = place.sequence in
        let some : 0 < size b = place.some_records in
        ⊎_elim
        (λ (k : count_of (pos b.id) h.records ≡ b.sequence). omega (arith, k, sum, sequence, some, all))
        (λ (k : count_of (pos b.id) h.records ≡ 0). omega (arith, k, sum, some, all))
        may

    ahead : (more : List HandedBatch) → cut.rest ≡ more ++ b ∷ i.later → i.earlier ≡ cut.landed ++ more → (later : List HandedBatch) × (cut.rest ≡ b ∷ later)
    ahead [] e f = (i.later, e)
    ahead (u ∷ us) e f =
        let its : b.id ≡ present_id t = cut.current b (record { earlier = u ∷ us; later = i.later; split = e }) in
        let one : u.id ≡ b.id = cut.current u (record { earlier = []; later = us ++ b ∷ i.later; split = e }) ∙ sym its in
        let first_place : Follows (sents cut.landed) (sent_of u) = follows ids t handed h s cut.landed (us ++ b ∷ i.later) u (cut.split ∙ ap (λ z. cut.landed ++ z) e) in
        let sum : records_under b.id i.earlier ≡ records_under b.id cut.landed + (size u + records_under b.id us) = ap (records_under b.id) f ∙ under_more b.id cut.landed us u one in
        let long : length cut.rest ≡ suc (length us + suc (length i.later)) = ap length e ∙ ap suc (length-append us (b ∷ i.later)) in
        let first : 0 < count_of (pos (present_id t)) h.records = cut.first (omega (arith, long)) in
        let some : 0 < count_of (pos b.id) h.records = subst (λ (n : ℕ). 0 < count_of (pos n) h.records) (sym its) first in
        let sequence : b.sequence ≡ records_under b.id i.earlier = place.sequence in
        let some_u : 0 < size u = first_place.some_records in
        absurd (⊎_elim
        (λ (k : count_of (pos b.id) h.records ≡ b.sequence). omega (arith, k, sum, sequence, some_u, all))
        (λ (k : count_of (pos b.id) h.records ≡ 0). omega (arith, k, some))
        may)

-- it begins at the count of its id's records
pub lands_at : (ids : List ℕ) (t : Partition) (handed : List HandedBatch) (h : History) → Sound ids t handed h → (cut : Cut t handed h) → (b : HandedBatch) (later : List HandedBatch) → cut.rest ≡ b ∷ later → count_of (pos b.id) h.records ≡ b.sequence
lands_at ids t handed h s cut b later e =
    let split : handed ≡ cut.landed ++ b ∷ later = cut.split ∙ ap (λ z. cut.landed ++ z) e in
    counted ids t handed h s cut b.id (drawn_for ids t handed h s b (record { earlier = cut.landed; later = later; split = split })) ∙ sym (follows ids t handed h s cut.landed later b split).sequence

-- ---- what keeps it

pub cut_empty : (id : ℕ) → Cut (new_partition id) [] empty_history
unfolding own
cut_empty id = record {
  landed = [];
  rest = [];
  split = refl;
  appended = refl;
  owned = refl;
  places = λ earlier later b e. absurd (In-nil b (record { earlier = earlier; later = later; split = e }));
  current = λ b i. absurd (In-nil b i);
  first = λ l. absurd (omega arith);
  heard = λ a. absurd cc;
}

-- a call of the core that acknowledges only what is stored
pub cut_kept : (ids : List ℕ) (t t' : Partition) (handed : List HandedBatch) (h : History) (e : Bool) → Sound ids t handed h → Cut t handed h
    → Leaves (λ b. IsStored h.records (sent_of b)) e t t' → Cut t' handed h
cut_kept ids t t' handed h e s cut l = record {
  landed = cut.landed;
  rest = cut.rest;
  split = cut.split;
  appended = cut.appended;
  owned = subst (λ (is : List ℕ). own is h.records ≡ records_of h.batches) (sym l.keeps.ids) cut.owned;
  places = cut.places;
  current = λ b i. cut.current b i ∙ sym present;
  first = λ n. same (cut.first n);
  heard = λ a. same (⊎_elim (λ (b : t.acknowledged ≡ true). cut.heard b) (λ (x : (o : Open) × In o t.open_batches × IsStored h.records (sent_of o.batch) × (o.batch.id ≡ present_id t)). some x.0 x.2 x.3) (l.acknowledged a));
}
  where
    present : present_id t' ≡ present_id t
    present = ap (λ (is : List ℕ). unwrap_or (last_or None is) 0) l.keeps.ids

    same : 0 < count_of (pos (present_id t)) h.records → 0 < count_of (pos (present_id t')) h.records
    same n = subst (λ (i : ℕ). 0 < count_of (pos i) h.records) (sym present) n

    some : (o : Open) → IsStored h.records (sent_of o.batch) → o.batch.id ≡ present_id t → 0 < count_of (pos (present_id t)) h.records
    some o stored its =
        let parts : count_of (pos o.batch.id) h.records ≡ count_of (pos o.batch.id) stored.stands.before + (count_of (pos o.batch.id) (stored_of (sent_of o.batch)) + count_of (pos o.batch.id) stored.stands.after) =
        ap (count_of (pos o.batch.id)) stored.stands.split ∙ count_of-append (pos o.batch.id) stored.stands.before (stored_of (sent_of o.batch) ++ stored.stands.after) ∙ ap (λ (n : ℕ). count_of (pos o.batch.id) stored.stands.before + n) (count_of-append (pos o.batch.id) (stored_of (sent_of o.batch)) stored.stands.after) in
        let own_part : count_of (pos o.batch.id) (stored_of (sent_of o.batch)) ≡ size o.batch = count_of_own (pos o.batch.id) (sent_of o.batch).bodies in
        let any : 0 < size o.batch = stored.some_records in
        subst (λ (i : ℕ). 0 < count_of (pos i) h.records) its (omega (arith, parts, own_part, any))

-- ---- the log grows

-- a log with some records more
pub record Grown (t : Partition) (handed : List HandedBatch) (h h' : History) : Type 0 where
  pub cut : Cut t handed h'
  pub more : List Stored
  pub records : h'.records ≡ h.records ++ more

more_counted : (id : ℕ) (xs ys : List Stored) → 0 < count_of (pos id) xs → 0 < count_of (pos id) (xs ++ ys)
more_counted id xs ys n = omega (arith, count_of-append (pos id) xs ys)

pub grown_same : (t : Partition) (handed : List HandedBatch) (h : History) → Cut t handed h → Grown t handed h h
grown_same t handed h cut = record { cut = cut; more = []; records = sym (append-nil h.records) }

pub grown_others : (ids : List ℕ) (t : Partition) (handed : List HandedBatch) (h : History) (records : List Stored) → Sound ids t handed h → AreOthers ids records → Cut t handed h → Grown t handed h (with_records records h)
grown_others ids t handed h records s others cut = record {
  cut = record {
    landed = cut.landed;
    rest = cut.rest;
    split = cut.split;
    appended = cut.appended;
    owned = own-append t.ids h.records records ∙ ap (λ z. own t.ids h.records ++ z) (own_others t.ids records none) ∙ append-nil (own t.ids h.records) ∙ cut.owned;
    places = cut.places;
    current = cut.current;
    first = λ l. more_counted (present_id t) h.records records (cut.first l);
    heard = λ a. more_counted (present_id t) h.records records (cut.heard a);
  };
  more = records;
  records = refl;
}
  where
    none : AreOthers t.ids records
    none = all_in (HasNone records) t.ids (λ id i. all_at (HasNone records) ids id others (s.drawn_all id i))

pub grown_appended : (ids : List ℕ) (t : Partition) (handed : List HandedBatch) (h : History) → Sound ids t handed h → (cut : Cut t handed h) (b : HandedBatch) (later : List HandedBatch) → cut.rest ≡ b ∷ later → In b handed
    → Grown t handed h (with_batch (sent_of b) h)
grown_appended ids t handed h s cut b later e i = record {
  cut = record {
    landed = cut.landed ++ b ∷ [];
    rest = later;
    split = cut.split ∙ ap (λ z. cut.landed ++ z) e ∙ sym (append_assoc cut.landed (b ∷ []) later);
    appended = ap (λ z. z ++ sent_of b ∷ []) cut.appended ∙ sym (map-append sent_of cut.landed (b ∷ []));
    owned = own-append t.ids h.records (stored_of (sent_of b)) ∙ ap (λ z. own t.ids h.records ++ z) (own_known b.id t.ids (sent_of b).bodies (s.under b i)) ∙ ap (λ z. z ++ stored_of (sent_of b)) cut.owned
        ∙ ap (λ z. records_of h.batches ++ z) (sym (append-nil (stored_of (sent_of b)))) ∙ sym (flat_map-append stored_of h.batches (sent_of b ∷ []));
    places = cut.places;
    current = λ c j. cut.current c (behind c j);
    first = λ l. more_counted (present_id t) h.records (stored_of (sent_of b)) (cut.first (longer l));
    heard = λ a. more_counted (present_id t) h.records (stored_of (sent_of b)) (cut.heard a);
  };
  more = stored_of (sent_of b);
  records = refl;
}
  where
    behind : (c : HandedBatch) → In c later → In c cut.rest
    behind c j = subst (λ (z : List HandedBatch). In c z) (sym e) (In-append_right c (b ∷ []) later j)

    longer : 1 < length later → 1 < length cut.rest
    longer l = let long : length cut.rest ≡ suc (length later) = ap length e in omega (arith, l, long)

-- ---- a batch is handed over

pub confirmed : (n : ℕ) (a : Bool) → (n == 0) || a ≡ true → (n ≡ 0) ⊎ (a ≡ true)
confirmed n true e = inr refl
confirmed n false e = at_test (n == 0) refl e
  where
    at_test : (b : Bool) → (n == 0) ≡ b → b || false ≡ true → (n ≡ 0) ⊎ (false ≡ true)
    at_test true is e' = inl (eqb-true n 0 is)
    at_test false is e' = absurd cc

pub cut_handed : (ids : List ℕ) (t : Partition) (handed : List HandedBatch) (h : History) (k : ℕ) (front : Pending) (queue : List Pending) → Sound ids t handed h → Cut t handed h → is_confirmed t ≡ true
    → Cut (hand_over_in k t (front ∷ queue)) (handed ++ new_batch t front ∷ []) h
unfolding hand_over_in is_confirmed
cut_handed ids t handed h k front queue s cut may = record {
  landed = cut.landed;
  rest = cut.rest ++ new_batch t front ∷ [];
  split = ap (λ z. z ++ new_batch t front ∷ []) cut.split ∙ append_assoc cut.landed cut.rest (new_batch t front ∷ []);
  appended = cut.appended;
  owned = cut.owned;
  places = λ earlier later b e. place earlier later b (cut_cases earlier b later handed (new_batch t front ∷ []) (sym e));
  current = λ b i. ⊎_elim (λ (j : In b cut.rest). cut.current b j) (λ (same : b ≡ new_batch t front). ap (λ (c : HandedBatch). c.id) same) (one_more cut.rest (new_batch t front) b i);
  first = first cut.rest refl;
  heard = cut.heard;
}
  where
    at_end : (earlier more later : List HandedBatch) (b : HandedBatch) → new_batch t front ∷ [] ≡ more ++ b ∷ later → earlier ≡ handed ++ more → b.number ≡ length earlier
    at_end earlier [] later b e is =
        let same : new_batch t front ≡ b = cc in
        let number : t.next_number ≡ b.number = ap (λ (c : HandedBatch). c.number) same in
        let long : length earlier ≡ length handed + 0 = ap length is ∙ length-append handed [] in
        let all : t.next_number ≡ length handed = s.number in
        omega (arith, number, long, all)
    at_end earlier (c ∷ more) later b e is = let none : [] ≡ more ++ b ∷ later = cc in absurd (In-nil b (record { earlier = more; later = later; split = none }))

    place : (earlier later : List HandedBatch) (b : HandedBatch) → ((more : List HandedBatch) × (handed ≡ earlier ++ b ∷ more)) ⊎ ((more : List HandedBatch) × (new_batch t front ∷ [] ≡ more ++ b ∷ later) × (earlier ≡ handed ++ more)) → b.number ≡ length earlier
    place earlier later b x =
        ⊎_elim
        (λ (y : (more : _) × (handed ≡ earlier ++ b ∷ more)). cut.places earlier y.0 b y.1)
        (λ (y : (more : _) × (new_batch t front ∷ [] ≡ more ++ b ∷ later) × (earlier ≡ handed ++ more)). at_end earlier y.0 later b y.1 y.2)
        x

    first : (rest : List HandedBatch) → cut.rest ≡ rest → 1 < length (rest ++ new_batch t front ∷ []) → 0 < count_of (pos (present_id t)) h.records
    first [] e l = absurd (omega (arith, l))
    first (u ∷ us) e l =
        let split : handed ≡ cut.landed ++ u ∷ us = cut.split ∙ ap (λ z. cut.landed ++ z) e in
        let its : u.id ≡ present_id t = cut.current u (record { earlier = []; later = us; split = e }) in
        let some : 0 < size u = (follows ids t handed h s cut.landed us u split).some_records in
        let sum : records_under (present_id t) handed ≡ records_under (present_id t) cut.landed + (size u + records_under (present_id t) us) = ap (records_under (present_id t)) split ∙ under_more (present_id t) cut.landed us u its in
        let sequence : t.next_sequence ≡ records_under (present_id t) handed = s.sequence in
        ⊎_elim (λ (none : t.next_sequence ≡ 0). absurd (omega (arith, none, sum, sequence, some))) (λ (a : t.acknowledged ≡ true). cut.heard a) (confirmed t.next_sequence t.acknowledged may)

-- ---- a fresh id

-- Where nothing is left of what was handed over, the partition may go on under an id under which nothing was.
pub cut_fresh : (ids : List ℕ) (t : Partition) (handed : List HandedBatch) (h : History) (id : ℕ) → Sound ids (go_on_under id t) handed h → (cut : Cut t handed h) → cut.rest ≡ [] → Cut (go_on_under id t) handed h
cut_fresh ids t handed h id s cut none = record {
  landed = cut.landed;
  rest = [];
  split = cut.split ∙ ap (λ z. cut.landed ++ z) none;
  appended = cut.appended;
  owned = own_fresh id t.ids h.records nothing ∙ cut.owned;
  places = cut.places;
  current = λ b i. absurd (In-nil b i);
  first = λ l. absurd (omega arith);
  heard = λ a. absurd cc;
}
  where
    nothing : count_of (pos id) h.records ≡ 0
    nothing =
        let all : handed ≡ cut.landed = cut.split ∙ ap (λ z. cut.landed ++ z) none ∙ append-nil cut.landed in
        s.came.counted id (s.drawn_all id (In-append_right id t.ids (id ∷ []) (In-head id []))) ∙ ap (λ z. count_of (pos id) (records_of z)) cut.appended ∙ ap (records_under id) (sym all)
        ∙ ap (λ (o : Option ℕ). records_under (unwrap_or o 0) handed) (sym (last_is None t.ids id)) ∙ sym s.sequence

-- ---- an id is drawn

-- no batch that was appended is under an id that was never drawn
pub none_appended : (ids : List ℕ) (id : ℕ) (t : Partition) (handed : List HandedBatch) (h : History) → Sound ids t handed h → Cut t handed h → (In id ids → ⊥) → count_of (pos id) (records_of h.batches) ≡ 0
none_appended ids id t handed h s cut fresh =
    ap (λ z. count_of (pos id) (records_of z)) cut.appended
    ∙ count_none id cut.landed (λ b i e. fresh (subst (λ (m : ℕ). In m ids) e (drawn_for ids t handed h s b (subst (λ (bs : List HandedBatch). In b bs) (sym cut.split) (In-append_left b cut.landed cut.rest i)))))

-- Where nobody has a record under it, and it was never drawn before, what is known of the ids drawn is so with it.
pub sound_drawn : (ids : List ℕ) (id : ℕ) (t : Partition) (handed : List HandedBatch) (h : History) → Sound ids t handed h → Cut t handed h → (In id ids → ⊥) → HasNone h.records id → Sound (ids ++ id ∷ []) t handed h
sound_drawn ids id t handed h s cut fresh none = record {
  number = s.number;
  sequence = s.sequence;
  in_sequence = s.in_sequence;
  came = record { whole = s.came.whole; counted = λ m i. ⊎_elim (λ (j : In m ids). s.came.counted m j) (λ (same : m ≡ id). subst Counted (sym same) (none ∙ sym (none_appended ids id t handed h s cut fresh))) (one_more ids id m i) };
  numbers = s.numbers;
  under = s.under;
  present = s.present;
  drawn_all = λ m at. In-append_left m ids (id ∷ []) (s.drawn_all m at);
  opens = s.opens;
  queue = s.queue;
}
  where
    Counted : ℕ → Type 0
    Counted m = count_of (pos m) h.records ≡ count_of (pos m) (records_of h.batches)
