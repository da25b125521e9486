-- What a flush waits for is told, or is in a marked batch still; so where no batch is marked all of it is told.
use Rattle.std.proofs.Common.{◌≡◌, ◌⊎◌, ℕ, zero, suc, ◌+◌, ◌<◌, ◌≤◌, Bool, true, false, List, [], ◌∷◌, ◌++◌, length, get_or, refl, sym, ap, ◌∙◌, subst, inl, inr, ⊎_elim, arith}
use Rattle.std.specs.Prelude.{flat_map, if◌then◌else◌, ◌||◌}
use Rattle.std.specs.List.{AllByRecursion, list_any}
use Rattle.std.proofs.lemmas.Bool.{not-true, or_parts, true≢false}
use Rattle.std.proofs.lemmas.List.{append-nil, get_or-map, map-append}
use Rattle.std.proofs.lemmas.List.Folds.{list_any-append}
use Rattle.kp_accum.specs.declared.item.Item.{Item}
use Rattle.kp_accum.specs.Queue.{Pending, is_marked, marked_by_flush}
use Rattle.kp_log.proofs.PlaceLemmas.{In, In-nil, In-cons, In-head, In-tail, In-append_right, In-append_cases}
use Rattle.kp_rules.specs.Flush.{has_marks, is_flushed, mark_open, mark, flush_step}
use Rattle.kp_rules.specs.Partitions.{items_open, items_queued, new_partition, partition_at, untold}
use Rattle.kp_rules.specs.Records.{Open, Partition, Core, Told}
use Rattle.kp_rules.proofs.ListLemmas.{all_weaker}
use Rattle.kp_world.specs.Accounts.{is_among, is_same, items_taken, told_items, IsToldBy}
use Rattle.kp_world.specs.Causes.{TellsByRule}
use Rattle.kp_world.specs.Client.{client, flush_line}
use Rattle.kp_world.specs.Events.{WorldEvent}
use Rattle.kp_world.specs.Events as event
use Rattle.kp_world.specs.Facts.{facts, told_in}
use Rattle.kp_world.specs.Noting.{noted}
use Rattle.kp_world.specs.Run.{Steps, Run, IsReached}
use Rattle.kp_world.specs.World.{World, Opening}
use Rattle.kp_world.proofs.AccountLemmas.{told_noted}
use Rattle.kp_world.proofs.AccountRunLemmas.{IsInOrder, order_step, order_reached}
use Rattle.kp_world.proofs.ConservationLemmas.{items_told}
use Rattle.kp_world.proofs.EventLemmas.{at_run}
use Rattle.kp_world.proofs.FaredLemmas.{at, PartStep, Faring, Handing, GoingOn, part_step}
use Rattle.kp_world.proofs.FaringLemmas.{OpenMarked, QueueMarked, IsMarked, from_flat, handed_marked}
use Rattle.kp_world.proofs.ListLemmas.{In-map}
use Rattle.kp_world.proofs.RuledLemmas.{ruled_step}
use Rattle.kp_world.proofs.ToldLemmas.{count_of, weighs_itself}
use Rattle.kp_world.proofs.WeightLemmas.{weigh}

-- ---- tests

-- where a test fails of all, it fails of each
none_pass : {A : Type 0} (test : A → Bool) (xs : List A) (x : A) → list_any test xs ≡ false → In x xs → test x ≡ true → ⊥
none_pass test [] x e i is = In-nil x i
none_pass test (y ∷ xs) x e i is =
    let parts = or_parts (test y) (list_any test xs) e in
    ⊎_elim (λ (same : x ≡ y). true≢false (sym is ∙ ap test same ∙ parts.0)) (λ (j : In x xs). none_pass test xs x parts.1 j is) (In-cons x y xs i)

none_at : {A : Type 0} (test : A → Bool) (xs : List A) (p : ℕ) (d : A) → list_any test xs ≡ false → p < length xs → test (get_or xs p d) ≡ false
none_at test [] p d e l = absurd (omega arith)
none_at test (x ∷ xs) zero d e l = (or_parts (test x) (list_any test xs) e).0
none_at test (x ∷ xs) (suc p) d e l = none_at test xs p d (or_parts (test x) (list_any test xs) e).1 (omega (arith, l))

-- where it fails of all, none counts; and where it does not, one passes
abbrev counted : Bool → ℕ
counted b = if b then 1 else 0

none_count : {A : Type 0} (test : A → Bool) (xs : List A) → list_any test xs ≡ false → weigh (λ x. if test x then 1 else 0) xs ≡ 0
none_count test [] e = refl
none_count test (x ∷ xs) e =
    let parts = or_parts (test x) (list_any test xs) e in
    let here : counted (test x) ≡ 0 = ap counted parts.0 in
    let rest : weigh (λ y. if test y then 1 else 0) xs ≡ 0 = none_count test xs parts.1 in
    omega (arith, here, rest)

one_passes : {A : Type 0} (test : A → Bool) (xs : List A) → list_any test xs ≡ true → (x : A) × In x xs × (test x ≡ true)
one_passes test [] e = absurd cc
one_passes {A = A} test (x ∷ xs) e = at_test (test x) refl e (one_passes test xs)
  where
    at_test : (b : Bool) → test x ≡ b → b || list_any test xs ≡ true → (list_any test xs ≡ true → (y : A) × In y xs × (test y ≡ true)) → (y : A) × In y (x ∷ xs) × (test y ≡ true)
    at_test true is e' later = (x, In-head x xs, is)
    at_test false is e' later = let k = later e' in (k.0, In-tail k.0 x xs k.1, k.2)

any_passes : {A : Type 0} (test : A → Bool) (xs : List A) (x : A) → In x xs → test x ≡ true → list_any test xs ≡ true
any_passes test [] x i is = absurd (In-nil x i)
any_passes test (y ∷ xs) x i is = ⊎_elim
    (λ (same : x ≡ y). ap (λ (b : Bool). b || list_any test xs) (sym (ap test same) ∙ is))
    (λ (j : In x xs). at_test (test y) (any_passes test xs x j is))
    (In-cons x y xs i)
  where
    at_test : (b : Bool) → list_any test xs ≡ true → b || list_any test xs ≡ true
    at_test true e = refl
    at_test false e = e

-- ---- an item that waits

-- an item like this one is in a marked batch
record Waits (n : ℕ) (w : World) (i : Item) : Type 0 where
  it : Item
  same : is_same i it ≡ true
  partition : ℕ
  within : partition < n
  marked : IsMarked (at partition w.core) it

abbrev IsTold : World → Item → Type 0
IsTold w i = is_among i (items_told (told_in w.past)) ≡ true

abbrev ToldOrWaits : ℕ → World → Item → Type 0
ToldOrWaits n w i = IsTold w i ⊎ Waits n w i

told_more : (told more : List Told) (i : Item) → is_among i (items_told told) ≡ true → is_among i (items_told (told ++ more)) ≡ true
told_more told more i e =
    ap (is_among i) (map-append (λ (t : Told). t.item) told more) ∙ list_any-append (is_same i) (items_told told) (items_told more) ∙ ap (λ (b : Bool). b || is_among i (items_told more)) e

told_now : (told more : List Told) (i j : Item) → is_same i j ≡ true → In j (items_told more) → is_among i (items_told (told ++ more)) ≡ true
told_now told more i j same k =
    ap (is_among i) (map-append (λ (t : Told). t.item) told more)
    ∙ any_passes (is_same i) (items_told told ++ items_told more) j (In-append_right j (items_told told) (items_told more) k) same

waits_step : (n : ℕ) (w : World) → IsInOrder n w → (e : WorldEvent) (v : World) → Steps w e v → (i : Item) → ToldOrWaits n w i → ToldOrWaits n v i
waits_step n w g e v s i x = ⊎_elim told waits x
  where
    tells : TellsByRule e w v
    tells = ruled_step w e v s

    told : IsTold w i → ToldOrWaits n v i
    told k = inl (ap (λ (ts : List Told). is_among i (items_told ts)) (ap told_in tells.noted ∙ told_noted w.past tells.event) ∙ told_more (told_in w.past) tells.event.told i k)

    at_part : (k : Waits n w i) → PartStep e w v k.partition → ToldOrWaits n v i
    at_part k (Faring y) = ⊎_elim
        (λ (m : IsMarked (at k.partition v.core) k.it). inr (record { it = k.it; same = k.same; partition = k.partition; within = k.within; marked = m }))
        (λ (j : In k.it (items_told y.told)). inl (ap (λ (ts : List Told). is_among i (items_told ts)) y.noted ∙ told_now (told_in w.past) y.told i k.it k.same j))
        (y.fares.marks k.it k.marked)
    at_part k (Handing y) = inr (record {
      it = k.it;
      same = k.same;
      partition = k.partition;
      within = k.within;
      marked = subst (λ (t : Partition). IsMarked t k.it) (sym y.after_is) (handed_marked y.request (at k.partition w.core) k.it k.marked (y.front ∷ y.behind) y.queue);
    })
    at_part k (GoingOn y) = inr (record { it = k.it; same = k.same; partition = k.partition; within = k.within; marked = subst (λ (t : Partition). IsMarked t k.it) (sym y.after_is) k.marked })

    waits : Waits n w i → ToldOrWaits n v i
    waits k = at_part k (part_step n k.partition w g k.within e v s)

-- ---- a flush

-- all that is not told is in a marked batch then
untold_marked : (t : Partition) (j : Item) → In j (untold t) → IsMarked (mark t) j
unfolding untold
untold_marked t j i = ⊎_elim
    (λ (k : In j (items_open t.open_batches)).
    let o = from_flat (λ (x : Open). x.batch.items) t.open_batches j k in
    inl (record { it = mark_open o.0; there = In-map mark_open o.0 t.open_batches o.1; is_marked = refl; has = o.2 }))
    (λ (k : In j (items_queued t.queue)).
    let b = from_flat (λ (x : Pending). x.items) t.queue j k in
    inr (record { it = marked_by_flush b.0; there = In-map marked_by_flush b.0 t.queue b.1; is_marked = refl; has = b.2 }))
    (In-append_cases j (items_open t.open_batches) (items_queued t.queue) i)

in_partition : (ts : List Partition) (j : Item) → In j (flat_map untold ts) → (p : ℕ) × (p < length ts) × In j (untold (partition_at p ts))
in_partition [] j i = absurd (In-nil j i)
in_partition (t ∷ ts) j i = ⊎_elim
    (λ (k : In j (untold t)). (0, omega arith, k))
    (λ (k : In j (flat_map untold ts)). let r = in_partition ts j k in (suc r.0, omega (arith, r.1), r.2))
    (In-append_cases j (untold t) (flat_map untold ts) i)

flushed_step : (w v : World) → Steps w event.Flush v → (v.core ≡ flush_step w.core) × (told_in v.past ≡ told_in w.past)
unfolding Steps client noted
flushed_step w v e =
    let is : noted (flush_step w.core) (flush_line w.core ∷ []) [] w ≡ v = cc in
    (sym (ap (λ (x : World). x.core) is), sym (ap (λ (x : World). told_in x.past) is) ∙ told_noted w.past _ ∙ append-nil (told_in w.past))

flush_marks : (s : Core) (p : ℕ) → p < length s.partitions → at p (flush_step s) ≡ mark (at p s)
unfolding flush_step
flush_marks s p l = get_or-map mark s.partitions p (new_partition 0) (new_partition 0) l

-- what was taken is told, or waits from now on
all_wait : (n : ℕ) (w v : World) → IsInOrder n w → Steps w event.Flush v → AllByRecursion (ToldOrWaits n v) (items_taken (facts w))
all_wait n w v g s = all_weaker (λ i. 1 ≤ weigh (count_of i) (items_taken (facts w))) (ToldOrWaits n v) one (items_taken (facts w)) (weighs_itself (items_taken (facts w)))
  where
    after : (v.core ≡ flush_step w.core) × (told_in v.past ≡ told_in w.past)
    after = flushed_step w v s

    waits : (i : Item) → (j : Item) × In j (flat_map untold w.core.partitions) × (is_same i j ≡ true) → ToldOrWaits n v i
    waits i x =
        let p = in_partition w.core.partitions x.0 x.1 in
        inr (record {
          it = x.0;
          same = x.2;
          partition = p.0;
          within = subst (λ (m : ℕ). p.0 < m) g.0.count p.1;
          marked = subst (λ (t : Partition). IsMarked t x.0) (sym (ap (at p.0) after.0 ∙ flush_marks w.core p.0 p.1)) (untold_marked (at p.0 w.core) x.0 p.2);
        })

    one : (i : Item) → 1 ≤ weigh (count_of i) (items_taken (facts w)) → ToldOrWaits n v i
    one i l = at_told (is_among i (told_items (facts w))) refl
      where
        all : weigh (count_of i) (told_items (facts w)) + weigh (count_of i) (flat_map untold w.core.partitions) ≡ weigh (count_of i) (items_taken (facts w))
        all = g.1.weights (count_of i)

        at_untold : is_among i (told_items (facts w)) ≡ false → (b : Bool) → list_any (is_same i) (flat_map untold w.core.partitions) ≡ b → ToldOrWaits n v i
        at_untold none true is = waits i (one_passes (is_same i) (flat_map untold w.core.partitions) is)
        at_untold none false is =
            let first : weigh (count_of i) (told_items (facts w)) ≡ 0 = none_count (is_same i) (told_items (facts w)) none in
            let second : weigh (count_of i) (flat_map untold w.core.partitions) ≡ 0 = none_count (is_same i) (flat_map untold w.core.partitions) is in
            absurd (omega (arith, all, l, first, second))

        at_told : (b : Bool) → is_among i (told_items (facts w)) ≡ b → ToldOrWaits n v i
        at_told true is = inl (ap (λ (ts : List Told). is_among i (items_told ts)) after.1 ∙ is)
        at_told false is = at_untold is (list_any (is_same i) (flat_map untold w.core.partitions)) refl

-- where no batch is marked, none waits
none_waits : (n : ℕ) (w : World) → length w.core.partitions ≡ n → is_flushed w.core ≡ true → (i : Item) → Waits n w i → ⊥
unfolding is_flushed has_marks
none_waits n w count e i x =
    let none : list_any has_marks w.core.partitions ≡ false = not-true (list_any has_marks w.core.partitions) e in
    let here : has_marks (at x.partition w.core) ≡ false = none_at has_marks w.core.partitions x.partition (new_partition 0) none (subst (λ (m : ℕ). x.partition < m) (sym count) x.within) in
    let parts = or_parts (list_any is_marked (at x.partition w.core).queue) (list_any (λ (o : Open). o.marked) (at x.partition w.core).open_batches) here in
    ⊎_elim
    (λ (m : OpenMarked (at x.partition w.core).open_batches x.it). none_pass (λ (o : Open). o.marked) (at x.partition w.core).open_batches m.it parts.1 m.there m.is_marked)
    (λ (m : QueueMarked (at x.partition w.core).queue x.it). none_pass is_marked (at x.partition w.core).queue m.it parts.0 m.there m.is_marked)
    x.marked

-- ---- the law

pub told_by_flush : (o : Opening) (es : List WorldEvent) (w : World) (later : List WorldEvent) (v : World) → IsReached o es w → Run w (event.Flush ∷ later) v → is_flushed v.core ≡ true → IsToldBy (facts v) (facts w)
unfolding Run
told_by_flush o es w later v r run e =
    let order = order_reached o es w r in
    let last = at_run (λ (u : World). IsInOrder o.partitions u × AllByRecursion (ToldOrWaits o.partitions u) (items_taken (facts w)))
    (λ u h x z s. (order_step o.partitions u h.0 x z s, all_weaker (ToldOrWaits o.partitions u) (ToldOrWaits o.partitions z) (waits_step o.partitions u h.0 x z s) (items_taken (facts w)) h.1)) later run.0 v run.2
    (order_step o.partitions w order event.Flush run.0 run.1, all_wait o.partitions w run.0 order run.1) in
    all_weaker (ToldOrWaits o.partitions v) (λ i. is_among i (told_items (facts v)) ≡ true)
    (λ i x. ⊎_elim (λ (told : IsTold v i). told) (λ (waits : Waits o.partitions v i). absurd (none_waits o.partitions v last.0.0.count e i waits)) x)
    (items_taken (facts w)) last.1
