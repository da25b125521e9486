-- What holds of each partition in every world of a run: its audit is of what was handed over, its ids are distinct, and
-- the first batch under an id was told stored before a second one was handed over.
use Rattle.std.proofs.Common.{◌≡◌, ℕ, ◌+◌, ◌<◌, Bool, true, false, List, [], ◌∷◌, ◌++◌, length, pos, replicate, Some, None, refl, sym, ap, ◌∙◌, subst, ⊎_elim, arith, append_assoc}
use Rattle.std.specs.Prelude.{Option, option_map, unwrap_or, if◌then◌else◌, ◌==◌, ◌||◌}
use Rattle.std.specs.List.{AllByRecursion, last_or}
use Rattle.std.proofs.lemmas.Bool.{and_parts, eqb-true, ne_eqb}
use Rattle.std.proofs.lemmas.List.{append-nil, get_or-map, get_or-replicate, length-replicate}
use Rattle.std.proofs.lemmas.List.Concat.{flat_map-append}
use Rattle.std.proofs.lemmas.List.Folds.{list_any-append}
use Rattle.kp_accum.specs.declared.item.Item.{Item}
use Rattle.kp_accum.specs.Queue.{Pending}
use Rattle.kp_log.specs.History.{History}
use Rattle.kp_log.specs.Log.{count_of}
use Rattle.kp_log.proofs.PlaceLemmas.{In, In-nil, In-head, In-tail, In-append_left, In-append_right, cut_cases}
use Rattle.kp_rules.specs.declared.run.Run.{Run}
use Rattle.kp_rules.specs.Auditing.{opened, unaudited, without_audits}
use Rattle.kp_rules.specs.HandingOver.{audited, with_audited, hand_over_in}
use Rattle.kp_rules.specs.InOrder.{AreDistinct}
use Rattle.kp_rules.specs.MaySend.{is_confirmed, new_batch}
use Rattle.kp_rules.specs.Opening.{new_core}
use Rattle.kp_rules.specs.Partitions.{is_in, new_partition, partition_at, present_id}
use Rattle.kp_rules.specs.Records.{HandedBatch, Open, Partition, Told}
use Rattle.kp_rules.specs.Replies.{go_on_under}
use Rattle.kp_world.specs.Accounts.{items_of}
use Rattle.kp_world.specs.Client.{handed_at}
use Rattle.kp_world.specs.Delivering.{log_at}
use Rattle.kp_world.specs.Events.{WorldEvent}
use Rattle.kp_world.specs.Facts.{told_in}
use Rattle.kp_world.specs.FreshIds.{GivesId}
use Rattle.kp_world.specs.Run.{Steps, IsReached}
use Rattle.kp_world.specs.World.{World, Opening, opening}
use Rattle.kp_world.proofs.AccountRunLemmas.{IsInOrder, order_step, order_opening}
use Rattle.kp_world.proofs.EventLemmas.{at_run}
use Rattle.kp_world.proofs.FaredLemmas.{at, PartStep, Faring, Handing, GoingOn, part_step}
use Rattle.kp_world.proofs.FaringLemmas.{Fares, FirstIsHeard, WasHeard, all_heard_more}
use Rattle.kp_world.proofs.HearingLemmas.{asks_by, names_its, same_correlation}
use Rattle.kp_world.proofs.LawfulLemmas.{IsLawful}
use Rattle.kp_world.proofs.ListLemmas.{all_at, in_at, one_more}
use Rattle.kp_world.proofs.PrefixLemmas.{Cut, confirmed, counted, follows, records_under, size, under-append, under_more}
use Rattle.kp_world.proofs.RunLemmas.{first_core}
use Rattle.kp_world.proofs.SoundLemmas.{Sound}

-- ---- batches under one id

-- A batch behind another one under its id has a sequence number above 0.
not_first : (ids : List ℕ) (t : Partition) (handed : List HandedBatch) (h : History) → Sound ids t handed h → (b c : HandedBatch) → b.id ≡ c.id → c.sequence ≡ 0 → (front more later : List HandedBatch) → handed ≡ (front ++ b ∷ more) ++ c ∷ later → ⊥
not_first ids t handed h s b c same first front more later e =
    let there : handed ≡ front ++ b ∷ (more ++ c ∷ later) = e ∙ append_assoc front (b ∷ more) (c ∷ later) in
    let sequence : c.sequence ≡ records_under c.id (front ++ b ∷ more) = (follows ids t handed h s (front ++ b ∷ more) later c e).sequence in
    let some : 0 < size b = (follows ids t handed h s front (more ++ c ∷ later) b there).some_records in
    let sum : records_under c.id (front ++ b ∷ more) ≡ records_under c.id front + (size b + records_under c.id more) = under_more c.id front more b same in
    omega (arith, sequence, some, sum, first)

-- There is one batch with sequence number 0 under an id.
first_is_one : (ids : List ℕ) (t : Partition) (handed : List HandedBatch) (h : History) → Sound ids t handed h → (b c : HandedBatch) → In b handed → In c handed → b.id ≡ c.id → b.sequence ≡ 0 → c.sequence ≡ 0 → b ≡ c
first_is_one ids t handed h s b c i j same first second =
    ⊎_elim
    (λ (k : (more : _) × (j.earlier ≡ i.earlier ++ b ∷ more)). absurd (not_first ids t handed h s b c same second i.earlier k.0 j.later (j.split ∙ ap (λ z. z ++ c ∷ j.later) k.1)))
    (λ (k : (more : _) × (c ∷ j.later ≡ more ++ b ∷ i.later) × (i.earlier ≡ j.earlier ++ more)). at_more k.0 k.1 k.2)
    (cut_cases i.earlier b i.later j.earlier (c ∷ j.later) (sym i.split ∙ j.split))
  where
    at_more : (more : List HandedBatch) → c ∷ j.later ≡ more ++ b ∷ i.later → i.earlier ≡ j.earlier ++ more → b ≡ c
    at_more [] e f = let it : c ≡ b = cc in sym it
    at_more (u ∷ us) e f =
        let it : c ≡ u = cc in
        absurd (not_first ids t handed h s c b (sym same) first j.earlier us i.later (i.split ∙ ap (λ z. z ++ b ∷ i.later) (f ∙ ap (λ (y : HandedBatch). j.earlier ++ y ∷ us) (sym it))))

-- ---- one partition

pub record Kept (audits : Bool) (t : Partition) (handed : List HandedBatch) (told : List Told) : Type 0 where
  pub audit : t.audit ≡ (if audits then Some (audited [] (items_of handed)) else None)
  pub distinct : AreDistinct t.ids
  pub heard : t.acknowledged ≡ true → (b : HandedBatch) → In b handed → b.id ≡ present_id t → b.sequence ≡ 0 → AllByRecursion (WasHeard told) b.items
  pub second : (b c : HandedBatch) → In b handed → In c handed → b.id ≡ c.id → b.sequence ≡ 0 → b.number < c.number → AllByRecursion (WasHeard told) b.items

kept_fares : (audits : Bool) (ids : List ℕ) (t t' : Partition) (handed : List HandedBatch) (h : History) (told more : List Told) → Sound ids t handed h → Kept audits t handed told → Fares t more t' → Kept audits t' handed (told ++ more)
kept_fares audits ids t t' handed h told more s k f = record {
  audit = f.audit ∙ k.audit;
  distinct = subst AreDistinct (sym f.ids) k.distinct;
  heard = λ a b i e z. ⊎_elim
      (λ (before : t.acknowledged ≡ true). all_heard_more told (told ++ more) (λ x j. In-append_left x told more j) b.items (k.heard before b i (e ∙ present) z))
      (λ (x : FirstIsHeard t more). now x b i e z)
      (f.heard a);
  second = λ b c i j e z l. all_heard_more told (told ++ more) (λ x m. In-append_left x told more m) b.items (k.second b c i j e z l);
}
  where
    present : present_id t' ≡ present_id t
    present = ap (λ (is : List ℕ). unwrap_or (last_or None is) 0) f.ids

    now : FirstIsHeard t more → (b : HandedBatch) → In b handed → b.id ≡ present_id t' → b.sequence ≡ 0 → AllByRecursion (WasHeard (told ++ more)) b.items
    now x b i e z =
        let parts = and_parts (x.it.batch.sequence == 0) (x.it.batch.id == present_id t) x.first in
        let there : In x.it.batch handed = all_at (λ (o : Open). In o.batch handed) t.open_batches x.it s.opens x.there in
        let same : b ≡ x.it.batch = first_is_one ids t handed h s b x.it.batch i there (e ∙ present ∙ sym (eqb-true x.it.batch.id (present_id t) parts.1)) z (eqb-true x.it.batch.sequence 0 parts.0) in
        subst (λ (c : HandedBatch). AllByRecursion (WasHeard (told ++ more)) c.items) (sym same) (all_heard_more more (told ++ more) (λ y j. In-append_right y told more j) x.it.batch.items x.heard)

-- ---- a batch is handed over

pub audited-append : (runs : List Run) (xs ys : List Item) → audited (audited runs xs) ys ≡ audited runs (xs ++ ys)
unfolding audited
audited-append runs [] ys = refl
audited-append runs (x ∷ xs) ys = audited-append (with_audited x runs) xs ys

audit_more : (audits : Bool) (audit : Option (List Run)) (xs ys : List Item) → audit ≡ (if audits then Some (audited [] xs) else None) → option_map (λ runs. audited runs ys) audit ≡ (if audits then Some (audited [] (xs ++ ys)) else None)
audit_more true audit xs ys e = ap (option_map (λ (runs : List Run). audited runs ys)) e ∙ ap (λ (runs : List Run). Some runs) (audited-append [] xs ys)
audit_more false audit xs ys e = ap (option_map (λ (runs : List Run). audited runs ys)) e

kept_handed : (audits : Bool) (ids : List ℕ) (t : Partition) (handed : List HandedBatch) (h : History) (request : ℕ) (front : Pending) (behind : List Pending) (told : List Told) → Sound ids t handed h → Cut t handed h → Kept audits t handed told → is_confirmed t ≡ true
    → Kept audits (hand_over_in request t (front ∷ behind)) (handed ++ new_batch t front ∷ []) told
unfolding hand_over_in is_confirmed
kept_handed audits ids t handed h request front behind told s cut k may = record {
  audit = audit_more audits t.audit (items_of handed) front.items k.audit ∙ ap (λ is. if audits then Some (audited [] is) else None) (sym items);
  distinct = k.distinct;
  heard = λ a b i e z. ⊎_elim
      (λ (j : In b handed). k.heard a b j e z)
      (λ (same : b ≡ new_batch t front). let none : b.sequence ≡ t.next_sequence = ap (λ (c : HandedBatch). c.sequence) same in absurd (some_handed a (sym none ∙ z)))
      (one_more handed (new_batch t front) b i);
  second = λ b c i j e z l. ⊎_elim
      (λ (x : In b handed). ⊎_elim
      (λ (y : In c handed). k.second b c x y e z l)
      (λ (same : c ≡ new_batch t front). first b x (e ∙ ap (λ (d : HandedBatch). d.id) same) z)
      (one_more handed (new_batch t front) c j))
      (λ (same : b ≡ new_batch t front). absurd (none_above b c j same l))
      (one_more handed (new_batch t front) b i);
}
  where
    items : items_of (handed ++ new_batch t front ∷ []) ≡ items_of handed ++ front.items
    items = flat_map-append (λ (b : HandedBatch). b.items) handed (new_batch t front ∷ []) ∙ ap (λ is. items_of handed ++ is) (append-nil front.items)

    -- where the first batch under the present id was acknowledged, some records were handed over under it
    some_handed : t.acknowledged ≡ true → t.next_sequence ≡ 0 → ⊥
    some_handed a z =
        let in_log : 0 < count_of (pos (present_id t)) h.records = cut.heard a in
        let landed : count_of (pos (present_id t)) h.records ≡ records_under (present_id t) cut.landed = counted ids t handed h s cut (present_id t) (s.drawn_all (present_id t) s.present) in
        let sum : records_under (present_id t) handed ≡ records_under (present_id t) cut.landed + records_under (present_id t) cut.rest = ap (records_under (present_id t)) cut.split ∙ under-append (present_id t) cut.landed cut.rest in
        let sequence : t.next_sequence ≡ records_under (present_id t) handed = s.sequence in
        omega (arith, in_log, landed, sum, sequence, z)

    first : (b : HandedBatch) → In b handed → b.id ≡ present_id t → b.sequence ≡ 0 → AllByRecursion (WasHeard told) b.items
    first b x e z = ⊎_elim (λ (none : t.next_sequence ≡ 0). absurd (not_none none)) (λ (a : t.acknowledged ≡ true). k.heard a b x e z) (confirmed t.next_sequence t.acknowledged may)
      where
        not_none : t.next_sequence ≡ 0 → ⊥
        not_none none =
            let some : 0 < size b = (follows ids t handed h s x.earlier x.later b x.split).some_records in
            let sum : records_under (present_id t) handed ≡ records_under (present_id t) x.earlier + (size b + records_under (present_id t) x.later) = ap (records_under (present_id t)) x.split ∙ under_more (present_id t) x.earlier x.later b e in
            let sequence : t.next_sequence ≡ records_under (present_id t) handed = s.sequence in
            omega (arith, some, sum, sequence, none)

    none_above : (b c : HandedBatch) → In c (handed ++ new_batch t front ∷ []) → b ≡ new_batch t front → b.number < c.number → ⊥
    none_above b c j same l =
        let number : b.number ≡ t.next_number = ap (λ (d : HandedBatch). d.number) same in
        let all : t.next_number ≡ length handed = s.number in
        ⊎_elim
        (λ (y : In c handed). let below : c.number < length handed = s.numbers c y in omega (arith, number, all, below, l))
        (λ (newest : c ≡ new_batch t front). let its : c.number ≡ t.next_number = ap (λ (d : HandedBatch). d.number) newest in omega (arith, number, its, l))
        (one_more handed (new_batch t front) c j)

-- ---- a fresh id

none_more : (x : ℕ) (ids : List ℕ) (id : ℕ) → is_in x ids ≡ false → (id == x) ≡ false → is_in x (ids ++ id ∷ []) ≡ false
none_more x ids id e f = list_any-append (λ (q : ℕ). q == x) ids (id ∷ []) ∙ ap (λ (b : Bool). b || ((id == x) || false)) e ∙ ap (λ (b : Bool). b || false) f

distinct_more : (ids : List ℕ) (id : ℕ) → AreDistinct ids → (In id ids → ⊥) → AreDistinct (ids ++ id ∷ [])
distinct_more [] id d other = (refl, tt)
distinct_more (x ∷ ids) id d other = (
  none_more x ids id d.0 (ne_eqb id x (λ e. other (subst (λ (n : ℕ). In n (x ∷ ids)) (sym e) (In-head x ids)))),
  distinct_more ids id d.1 (λ i. other (In-tail id x ids i)),
)

kept_going_on : (audits : Bool) (t : Partition) (handed : List HandedBatch) (told : List Told) (id : ℕ) → (In id t.ids → ⊥) → Kept audits t handed told → Kept audits (go_on_under id t) handed told
kept_going_on audits t handed told id other k = record {
  audit = k.audit;
  distinct = distinct_more t.ids id k.distinct other;
  heard = λ a. absurd cc;
  second = k.second;
}

-- an id that is given is none of the partition's
spare : (n p : ℕ) (w : World) (e : WorldEvent) (id : ℕ) → IsLawful n w → p < n → GivesId w e p id → In id (at p w.core).ids → ⊥
spare n p w e id g l x i =
    let q = names_its (pos x.reply.correlation) w.core x.request x.in_flight in
    (g.gave x.reply (in_at w.replies x.number x.reply x.came)).spare id x.request x.content q.0 (asks_by x.request.demand p x.demand) (same_correlation x.request.correlation x.reply.correlation q.1) p l i

-- ---- every step

abbrev pub IsKept : ℕ → Bool → World → Type 0
IsKept n audits w = (p : ℕ) → p < n → Kept audits (at p w.core) (handed_at p w.handed) (told_in w.past)

kept_step : (n : ℕ) (audits : Bool) (w : World) → IsInOrder n w → IsKept n audits w → (e : WorldEvent) (v : World) → Steps w e v → IsKept n audits v
kept_step n audits w g k e v st p l = at_part (part_step n p w g l e v st)
  where
    s : Sound w.ids (at p w.core) (handed_at p w.handed) (log_at p w.logs)
    s = (g.0.agree p l).sound

    at_part : PartStep e w v p → Kept audits (at p v.core) (handed_at p v.handed) (told_in v.past)
    at_part (Faring x) =
        subst (λ (ts : List Told). Kept audits (at p v.core) (handed_at p v.handed) ts) (sym x.noted)
        (subst (λ (hs : List HandedBatch). Kept audits (at p v.core) hs (told_in w.past ++ x.told)) (sym x.handed)
        (kept_fares audits w.ids (at p w.core) (at p v.core) (handed_at p w.handed) (log_at p w.logs) (told_in w.past) x.told s (k p l) x.fares))
    at_part (Handing x) =
        subst (λ (ts : List Told). Kept audits (at p v.core) (handed_at p v.handed) ts) (sym x.noted)
        (subst (λ (hs : List HandedBatch). Kept audits (at p v.core) hs (told_in w.past)) (sym x.handed)
        (subst (λ (t : Partition). Kept audits t (handed_at p w.handed ++ new_batch (at p w.core) x.front ∷ []) (told_in w.past)) (sym x.after_is)
        (kept_handed audits w.ids (at p w.core) (handed_at p w.handed) (log_at p w.logs) x.request x.front x.behind (told_in w.past) s (g.0.agree p l).steady.cut (k p l) x.confirmed)))
    at_part (GoingOn x) =
        subst (λ (ts : List Told). Kept audits (at p v.core) (handed_at p v.handed) ts) (sym x.noted)
        (subst (λ (hs : List HandedBatch). Kept audits (at p v.core) hs (told_in w.past)) (sym x.handed)
        (subst (λ (t : Partition). Kept audits t (handed_at p w.handed) (told_in w.past)) (sym x.after_is)
        (kept_going_on audits (at p w.core) (handed_at p w.handed) (told_in w.past) x.id (spare n p w e x.id g.0 l x.gives) (k p l))))

-- ---- from the opening world

kept_new : (id : ℕ) → Kept true (new_partition id) [] []
unfolding audited
kept_new id = record {
  audit = refl;
  distinct = (refl, tt);
  heard = λ a. absurd cc;
  second = λ b c i. absurd (In-nil b i);
}

kept_unaudited : (id : ℕ) → Kept false (unaudited (new_partition id)) [] []
kept_unaudited id = record {
  audit = refl;
  distinct = (refl, tt);
  heard = λ a. absurd cc;
  second = λ b c i. absurd (In-nil b i);
}

kept_opening : (o : Opening) → IsKept o.partitions o.audits (opening o)
unfolding opening new_core without_audits
kept_opening o p l =
    subst (λ (hs : List HandedBatch). Kept o.audits (at p (opened o.audits (first_core o))) hs []) (sym (get_or-replicate {A = List HandedBatch} o.partitions p [] [] l)) (at_audits o.audits)
  where
    first : partition_at p (replicate o.partitions (new_partition o.id)) ≡ new_partition o.id
    first = get_or-replicate o.partitions p (new_partition o.id) (new_partition 0) l

    within : p < length (replicate o.partitions (new_partition o.id))
    within = subst (λ (n : ℕ). p < n) (sym (length-replicate o.partitions (new_partition o.id))) l

    at_audits : (audits : Bool) → Kept audits (at p (opened audits (first_core o))) [] []
    at_audits true = subst (λ (t : Partition). Kept true t [] []) (sym first) (kept_new o.id)
    at_audits false =
        subst (λ (t : Partition). Kept false t [] []) (sym (get_or-map unaudited (replicate o.partitions (new_partition o.id)) p (new_partition 0) (new_partition 0) within ∙ ap unaudited first)) (kept_unaudited o.id)

-- Every world that events lead to.
pub kept_reached : (o : Opening) (es : List WorldEvent) (w : World) → IsReached o es w → IsInOrder o.partitions w × IsKept o.partitions o.audits w
kept_reached o es w r =
    at_run (λ v. IsInOrder o.partitions v × IsKept o.partitions o.audits v) (λ v k e u s. (order_step o.partitions v k.0 e u s, kept_step o.partitions o.audits v k.0 k.1 e u s)) es (opening o) w r.run (order_opening o r.may_begin, kept_opening o)
