-- What a node has to do: the part of the list by leaders that is its own, and what is looked for there alone.
use Rattle.std.proofs.Common.{◌≡◌, ◌∙◌, ℕ, zero, suc, ◌+◌, ◌<◌, ◌≤◌, Bool, true, false, true≢false, not, List, [], ◌∷◌, ◌++◌, length, map, get_or, take, drop, ◌-◌, Some, None, Ok, Err, IsOk, is_ok, refl, sym, ap, subst, ne_eqb, eqb-true, arith}
use Rattle.std.specs.Prelude.{Option, Result, option_map, filter, filter_map, find, nat_lt, nat_le, ◌&&◌, ◌||◌, ◌==◌, if◌then◌else◌}
use Rattle.std.specs.List.{AllByRecursion, cons_option, enumerate_from, insert, list_all, list_any, slice_get}
use Rattle.std.specs.List.Sorted.{IsPartitionedBy}
use Rattle.std.proofs.lemmas.Bool.Decides.{nat_tests}
use Rattle.std.proofs.lemmas.List.{drop-map, ext_get_or, get_or-map, get_or_default, length-map, map-append, take-map, take_all}
use Rattle.std.proofs.lemmas.List.Sums.{AllPass-from_list_all, list_all-from_AllPass}
use Rattle.std.proofs.lemmas.Option.{get_or_from_slice_get, slice_get_within}
use Rattle.std.proofs.lemmas.List.Elements.{filter-append, filter_map-append}
use Rattle.kp_accum.specs.declared.config.Config.{Config}
use Rattle.kp_accum.specs.declared.flags.Flags.{Flags}
use Rattle.kp_rules.specs.Dropping.{drop_attempts, drop_led}
use Rattle.kp_rules.specs.InOrder.{AreDistinct}
use Rattle.kp_rules.specs.MaySend.{sends, wants_id}
use Rattle.kp_rules.specs.Next.{Sending}
use Rattle.kp_rules.specs.Partitions.{changed_at, is_in, leads, new_partition, partition_at}
use Rattle.kp_rules.specs.Records.{Partition}
use Rattle.kp_rules.proofs.ListLemmas.{all_filter, all_weaker}
use Rattle.kp_rules.proofs.PartitionLemmas.{at-changed_at, length-changed_at}
use Rattle.kp_core.specs.Busy.{busy_from, busy_in, has_work_for}
use Rattle.kp_core.specs.ByLeader.{Led, Rises, by_leader, is_before, led_at, led_from, places_in, put, work_in}
use Rattle.kp_core.specs.Choosing.{numbered_from, sends_in}
use Rattle.kp_core.proofs.BusyLemmas.{AreAt, all_at, busy_once, busy_there, chosen_busy, found_busy, led_busy}
use Rattle.kp_core.proofs.ByLeaderLemmas.{led_leaders, led_rises, under-is}
use Rattle.kp_core.proofs.IdleLemmas.{idle_asks_nothing, idle_dropped, idle_sends_in}
use Rattle.kp_core.proofs.ListedLemmas.{busy_split, changed_busy, first_at, last_at}
use Rattle.kp_core.proofs.WalkLemmas.{insert_last}
use Rattle.kp_core.proofs.LedLemmas.{PartAt, all_under, drop_rises, insert-put, parts_at, parts_below, parts_upto}

-- ---- numbers that say the same as their places in the list

place_is : (ls : List Led) (i d : ℕ) → i < length ls → get_or (places_in ls) i d ≡ (get_or ls i (record { leader = 0; place = d })).place
place_is ls i d l = get_or-map (λ (x : Led). x.place) ls i (record { leader = 0; place = d }) d l

at_one : (P : Led → Type 0) (ls : List Led) (i : ℕ) (d : Led) → i < length ls → AllByRecursion P ls → P (get_or ls i d)
at_one P [] i d l h = absurd (omega (arith, l))
at_one P (x ∷ ls) zero d l h = h.0
at_one P (x ∷ ls) (suc i) d l h = at_one P ls i d (omega (arith, l)) h.1

all_drop : (P : Led → Type 0) (i : ℕ) (ls : List Led) → AllByRecursion P ls → AllByRecursion P (drop i ls)
all_drop P zero ls h = h
all_drop P (suc i) [] h = tt
all_drop P (suc i) (x ∷ ls) h = all_drop P i ls h.1

module _ (q : ℕ → Bool) (r : Led → Bool) (ls : List Led) (same : AllByRecursion (λ l. q l.place ≡ r l) ls) where
  says : (i d : ℕ) (e : Led) → i < length ls → q (get_or (places_in ls) i d) ≡ r (get_or ls i e)
  says i d e l =
      let x : Led = record { leader = 0; place = d } in
      ap q (place_is ls i d l) ∙ at_one (λ l. q l.place ≡ r l) ls i x l same ∙ ap r (get_or_default ls i x e l)

  pub places_parted : IsPartitionedBy r ls → IsPartitionedBy q (places_in ls)
  places_parted parted i j d le end passes =
      let x : Led = record { leader = 0; place = d } in
      let within : j < length ls = omega (arith, end, length-map ls (λ (l : Led). l.place)) in
      says i d x (omega (arith, le, within)) ∙ parted i j x le within (sym (says j d x within) ∙ passes)

  pub led_part : (i : ℕ) → i ≤ length ls → PartAt q (places_in ls) i → PartAt r ls i
  led_part i l p = (
    λ k e low high. sym (says k e.place e (omega (arith, high, l))) ∙ p.0 k e.place low high,
    λ k e low high. sym (says k e.place e high) ∙ p.1 k e.place low (omega (arith, high, length-map ls (λ (l : Led). l.place))),
  )

-- ---- those of a node

abbrev is_low : ℕ → List Partition → ℕ → Bool
is_low node ts p = nat_lt (partition_at p ts).leader node

abbrev is_upto : ℕ → List Partition → ℕ → Bool
is_upto node ts p = nat_le (partition_at p ts).leader node

leaders : (ts : List Partition) → AllByRecursion (λ l. (partition_at l.place ts).leader ≡ l.leader) (led_from 0 ts)
leaders ts = led_leaders 0 ts ts (λ k l busy. let same : 0 + k ≡ k = omega arith in ap (λ (m : ℕ). (partition_at m ts).leader) same)

low_same : (node : ℕ) (ts : List Partition) (ls : List Led) → AllByRecursion (λ l. (partition_at l.place ts).leader ≡ l.leader) ls
    → AllByRecursion (λ l. is_low node ts l.place ≡ nat_lt l.leader node) ls
low_same node ts ls h = all_weaker (λ (l : Led). (partition_at l.place ts).leader ≡ l.leader) (λ l. is_low node ts l.place ≡ nat_lt l.leader node)
    (λ l is. ap (λ (n : ℕ). nat_lt n node) is) ls h

upto_same : (node : ℕ) (ts : List Partition) (ls : List Led) → AllByRecursion (λ l. (partition_at l.place ts).leader ≡ l.leader) ls
    → AllByRecursion (λ l. is_upto node ts l.place ≡ nat_le l.leader node) ls
upto_same node ts ls h = all_weaker (λ (l : Led). (partition_at l.place ts).leader ≡ l.leader) (λ l. is_upto node ts l.place ≡ nat_le l.leader node)
    (λ l is. ap (λ (n : ℕ). nat_le n node) is) ls h

pub low_parted : (node : ℕ) (ts : List Partition) → IsPartitionedBy (is_low node ts) (by_leader ts)
low_parted node ts = places_parted (is_low node ts) (λ l. nat_lt l.leader node) (led_from 0 ts) (low_same node ts (led_from 0 ts) (leaders ts)) (parts_below node (led_from 0 ts) (led_rises 0 ts))

pub upto_parted : (node i : ℕ) (ts : List Partition) → IsPartitionedBy (is_upto node ts) (drop i (by_leader ts))
upto_parted node i ts = subst (IsPartitionedBy (is_upto node ts)) (sym (drop-map (λ (l : Led). l.place) i (led_from 0 ts)))
    (places_parted (is_upto node ts) (λ l. nat_le l.leader node) (drop i (led_from 0 ts))
    (upto_same node ts (drop i (led_from 0 ts)) (all_drop (λ l. (partition_at l.place ts).leader ≡ l.leader) i (led_from 0 ts) (leaders ts)))
    (parts_upto node (drop i (led_from 0 ts)) (drop_rises i (led_from 0 ts) (led_rises 0 ts))))

pub work-is : (node i j : ℕ) (ts : List Partition) → i ≤ length (by_leader ts) → PartAt (is_low node ts) (by_leader ts) i → j ≤ length (drop i (by_leader ts)) → PartAt (is_upto node ts) (drop i (by_leader ts)) j
    → take j (drop i (by_leader ts)) ≡ work_in node ts
work-is node i j ts l p m r =
    let ls = led_from 0 ts in
    let there : drop i (by_leader ts) ≡ places_in (drop i ls) = drop-map (λ (x : Led). x.place) i ls in
    let few : i ≤ length ls = omega (arith, l, length-map ls (λ (x : Led). x.place)) in
    let count : length (drop i (by_leader ts)) ≡ length (drop i ls) = ap (λ (ps : List ℕ). length ps) there ∙ length-map (drop i ls) (λ (x : Led). x.place) in
    let fewer : j ≤ length (drop i ls) = omega (arith, m, count) in
    let low = led_part (is_low node ts) (λ x. nat_lt x.leader node) ls (low_same node ts ls (leaders ts)) i few p in
    let upto = led_part (is_upto node ts) (λ x. nat_le x.leader node) (drop i ls) (upto_same node ts (drop i ls) (all_drop (λ x. (partition_at x.place ts).leader ≡ x.leader) i ls (leaders ts))) j fewer
    (subst (λ (ps : List ℕ). PartAt (is_upto node ts) ps j) there r) in
    ap (take j) there ∙ take-map (λ (x : Led). x.place) j (drop i ls)
    ∙ ap places_in (all_under node ls i j few low fewer upto)
    ∙ under-is node 0 ts ts (all_at ts)

-- ---- where it leads all

abbrev its : ℕ → List Partition → ℕ → Bool
its node ts p = leads node (partition_at p ts)

its_low : (node n : ℕ) → (n == node) ≡ true → nat_lt n node ≡ false
its_low node n is = grind (arith, nat_tests)

its_upto : (node n : ℕ) → (n == node) ≡ true → nat_le n node ≡ true
its_upto node n is = grind (arith, nat_tests)

is_its : (node n : ℕ) → nat_lt n node ≡ false → nat_le n node ≡ true → (n == node) ≡ true
is_its node n low upto = grind (arith, nat_tests)

-- it leads those that stand between two that it leads
between : (node first last : ℕ) (ts : List Partition) → slice_get (by_leader ts) 0 ≡ Some first → slice_get (by_leader ts) (length (by_leader ts) - 1) ≡ Some last
    → its node ts first ≡ true → its node ts last ≡ true → (k d : ℕ) → k < length (by_leader ts) → its node ts (get_or (by_leader ts) k d) ≡ true
between node first last ts from to x y k d l =
    let ps = by_leader ts in
    is_its node (partition_at (get_or ps k d) ts).leader
    (by_low (is_low node ts (get_or ps k d)) refl)
    (upto_parted node 0 ts k (length ps - 1) d (omega (arith, l)) (omega (arith, l))
    (ap (is_upto node ts) (get_or_from_slice_get ps (length ps - 1) last d to) ∙ its_upto node (partition_at last ts).leader y))
  where
    by_low : (b : Bool) → is_low node ts (get_or (by_leader ts) k d) ≡ b → is_low node ts (get_or (by_leader ts) k d) ≡ false
    by_low false is = is
    by_low true is =
        absurd (true≢false (sym (low_parted node ts 0 k d (omega arith) l is) ∙ ap (is_low node ts) (get_or_from_slice_get (by_leader ts) 0 first d from) ∙ its_low node (partition_at first ts).leader x))

pub ends_tell : (node first last : ℕ) (ts : List Partition) → slice_get (by_leader ts) 0 ≡ Some first → slice_get (by_leader ts) (length (by_leader ts) - 1) ≡ Some last
    → (leads node (partition_at first ts) && leads node (partition_at last ts)) ≡ list_all (λ p. leads node (partition_at p ts)) (by_leader ts)
ends_tell node first last ts from to = cases (its node ts first) (its node ts last) (list_all (its node ts) (by_leader ts)) refl refl refl
  where
    passes : (i p : ℕ) → slice_get (by_leader ts) i ≡ Some p → list_all (its node ts) (by_leader ts) ≡ true → its node ts p ≡ true
    passes i p at all =
        ap (its node ts) (sym (get_or_from_slice_get (by_leader ts) i p p at)) ∙ AllPass-from_list_all (its node ts) (by_leader ts) all i p (slice_get_within (by_leader ts) i p at)

    cases : (a b all : Bool) → its node ts first ≡ a → its node ts last ≡ b → list_all (its node ts) (by_leader ts) ≡ all → (a && b) ≡ all
    cases true true true x y z = refl
    cases true true false x y z = absurd (true≢false (sym (list_all-from_AllPass (its node ts) (by_leader ts) (between node first last ts from to x y)) ∙ z))
    cases true false true x y z = absurd (true≢false (sym (passes (length (by_leader ts) - 1) last to z) ∙ y))
    cases true false false x y z = refl
    cases false b true x y z = absurd (true≢false (sym (passes 0 first from z) ∙ x))
    cases false b false x y z = refl

pub all_led : (node : ℕ) (ts : List Partition) → list_all (λ p. leads node (partition_at p ts)) (by_leader ts) ≡ true → by_leader ts ≡ work_in node ts
all_led node ts all =
    let ps = by_leader ts in
    let here = AllPass-from_list_all (its node ts) ps all in
    sym (take_all (length ps) ps (omega arith))
    ∙ work-is node 0 (length ps) ts (omega arith) (λ k d low high. absurd (omega (arith, high)), λ k d low high. its_low node (partition_at (get_or ps k d) ts).leader (here k d high))
    (omega arith) (λ k d low high. its_upto node (partition_at (get_or ps k d) ts).leader (here k d high), λ k d low high. absurd (omega (arith, low, high)))

-- ---- one more

before_same : (p : ℕ) (us : List Partition) (ls : List Led) → AllByRecursion (λ l. (partition_at l.place us).leader ≡ l.leader) ls
    → AllByRecursion (λ l. is_before (led_at l.place (partition_at l.place us)) (led_at p (partition_at p us)) ≡ is_before l (led_at p (partition_at p us))) ls
before_same p us ls h = all_weaker (λ (l : Led). (partition_at l.place us).leader ≡ l.leader)
    (λ l. is_before (led_at l.place (partition_at l.place us)) (led_at p (partition_at p us)) ≡ is_before l (led_at p (partition_at p us)))
    (λ l is. ap (λ (n : ℕ). let x : Led = record { leader = n; place = l.place } in is_before x (led_at p (partition_at p us))) is) ls h

pub before_parted : (p : ℕ) (us : List Partition) (ls : List Led) → Rises ls → AllByRecursion (λ l. (partition_at l.place us).leader ≡ l.leader) ls
    → IsPartitionedBy (λ o. is_before (led_at o (partition_at o us)) (led_at p (partition_at p us))) (places_in ls)
before_parted p us ls rises h =
    places_parted (λ o. is_before (led_at o (partition_at o us)) (led_at p (partition_at p us))) (λ l. is_before l (led_at p (partition_at p us))) ls (before_same p us ls h)
    (parts_at (led_at p (partition_at p us)) ls rises)

pub led_put : {E : Type 0} (p at : ℕ) (us : List Partition) (ls : List Led) (before after : List ℕ) (r : Result (Unit {0}) E) → Rises ls → AllByRecursion (λ l. (partition_at l.place us).leader ≡ l.leader) ls
    → before ≡ places_in ls → at ≤ length before → PartAt (λ o. is_before (led_at o (partition_at o us)) (led_at p (partition_at p us))) before at
    → IsOk r → after ≡ (if is_ok r then insert before at p else before) → after ≡ places_in (put (led_at p (partition_at p us)) ls)
led_put p at us ls before after (Err e) rises h is l part ok put_in = absurd (true≢false (sym ok))
led_put p at us ls before after (Ok done) rises h is l part ok put_in =
    let x = led_at p (partition_at p us) in
    let few : at ≤ length ls = omega (arith, l, ap (λ (ps : List ℕ). length ps) is, length-map ls (λ (y : Led). y.place)) in
    let there = led_part (λ o. is_before (led_at o (partition_at o us)) x) (λ y. is_before y x) ls (before_same p us ls h) at few (subst (λ (ps : List ℕ). PartAt (λ o. is_before (led_at o (partition_at o us)) x) ps at) is part) in
    let joined : places_in (insert ls at x) ≡ insert (places_in ls) at p =
    map-append (λ (y : Led). y.place) (take at ls) (x ∷ drop at ls)
    ∙ ap (λ (ps : List ℕ). ps ++ p ∷ places_in (drop at ls)) (sym (take-map (λ (y : Led). y.place) at ls))
    ∙ ap (λ (ps : List ℕ). take at (places_in ls) ++ p ∷ ps) (sym (drop-map (λ (y : Led). y.place) at ls)) in
    put_in ∙ ap (λ (ps : List ℕ). insert ps at p) is ∙ sym joined ∙ ap places_in (insert-put x ls at few there)

pub led_push : (p : ℕ) (us : List Partition) (ls : List Led) (before after : List ℕ) → Rises ls → AllByRecursion (λ l. (partition_at l.place us).leader ≡ l.leader) ls
    → before ≡ places_in ls → PartAt (λ o. is_before (led_at o (partition_at o us)) (led_at p (partition_at p us))) before (length before)
    → after ≡ before ++ p ∷ [] → after ≡ places_in (put (led_at p (partition_at p us)) ls)
led_push p us ls before after rises h is part pushed =
    let done : Result (Unit {0}) ℕ = Ok tt in
    led_put p (length before) us ls before after done rises h is (omega arith) part refl (pushed ∙ sym (insert_last p before))

-- ---- what is looked for among some of the numbers alone, where the others give nothing

pub some_left : (g : ℕ → Bool) (ps : List ℕ) → not (length (filter g ps) == 0) ≡ list_any g ps
some_left g [] = refl
some_left g (p ∷ ps) = by_test (some_left g ps) (g p)
  where
    by_test : not (length (filter g ps) == 0) ≡ list_any g ps → (b : Bool) → not (length (if b then p ∷ filter g ps else filter g ps) == 0) ≡ (b || list_any g ps)
    by_test rest true = ap not (ne_eqb (suc (length (filter g ps))) 0 (λ e. omega (arith, e)))
    by_test rest false = rest

pub found_left : (g h : ℕ → Bool) (ps : List ℕ) → find h (filter g ps) ≡ find (λ p. g p && h p) ps
found_left g h [] = refl
found_left g h (p ∷ ps) = by_test (found_left g h ps) (g p)
  where
    by_test : find h (filter g ps) ≡ find (λ q. g q && h q) ps → (b : Bool)
        → find h (if b then p ∷ filter g ps else filter g ps) ≡ (if b && h p then Some p else find (λ q. g q && h q) ps)
    by_test rest true = ap (λ (o : Option ℕ). if h p then Some p else o) rest
    by_test rest false = rest

pub given_left : {A : Type 0} (g : ℕ → Bool) (h : ℕ → Option A) → ((p : ℕ) → g p ≡ false → h p ≡ None) → (ps : List ℕ) → filter_map h (filter g ps) ≡ filter_map h ps
given_left g h none [] = refl
given_left {A} g h none (p ∷ ps) = by_test (given_left g h none ps) (g p) refl
  where
    by_test : filter_map h (filter g ps) ≡ filter_map h ps → (b : Bool) → g p ≡ b → filter_map h (if b then p ∷ filter g ps else filter g ps) ≡ cons_option (h p) (filter_map h ps)
    by_test rest true is = ap (λ (ys : List A). cons_option (h p) ys) rest
    by_test rest false is = rest ∙ sym (ap (λ (o : Option A). cons_option o (filter_map h ps)) (none p is))

in_left : (g : ℕ → Bool) (n : ℕ) (ps : List ℕ) → is_in n (filter g ps) ≡ (is_in n ps && g n)
in_left g n [] = refl
in_left g n (p ∷ ps) = by_test (in_left g n ps) (p == n) refl (g p) refl
  where
    no : (b : Bool) → (b && false) ≡ false
    no true = refl
    no false = refl

    its : (b : Bool) → (p == n) ≡ true → g p ≡ b → g n ≡ b
    its b same is = sym (ap g (eqb-true p n same)) ∙ is

    by_test : is_in n (filter g ps) ≡ (is_in n ps && g n) → (e : Bool) → (p == n) ≡ e → (b : Bool) → g p ≡ b
        → is_in n (if b then p ∷ filter g ps else filter g ps) ≡ ((e || is_in n ps) && g n)
    by_test rest true same true is = ap (λ (c : Bool). c || is_in n (filter g ps)) same ∙ sym (its true same is)
    by_test rest true same false is = rest ∙ ap (λ (c : Bool). is_in n ps && c) (its false same is) ∙ no (is_in n ps) ∙ sym (its false same is)
    by_test rest false other true is = ap (λ (c : Bool). c || is_in n (filter g ps)) other ∙ rest
    by_test rest false other false is = rest

pub distinct_left : (g : ℕ → Bool) (ps : List ℕ) → AreDistinct ps → AreDistinct (filter g ps)
distinct_left g [] h = tt
distinct_left g (p ∷ ps) h = by_test (distinct_left g ps h.1) (g p)
  where
    by_test : AreDistinct (filter g ps) → (b : Bool) → AreDistinct (if b then p ∷ filter g ps else filter g ps)
    by_test rest true = (in_left g p ps ∙ ap (λ (c : Bool). c && g p) h.0, rest)
    by_test rest false = rest

-- where the others stay as they are
pub changed_left : (g : ℕ → Bool) (f : ℕ → Partition → Partition) (ps : List ℕ) (ts : List Partition) → ((p : ℕ) → g p ≡ false → f p (partition_at p ts) ≡ partition_at p ts)
    → changed_at (filter g ps) f ts ≡ changed_at ps f ts
changed_left g f ps ts stays = ext_get_or (new_partition 0) (changed_at (filter g ps) f ts) (changed_at ps f ts)
    (length-changed_at (filter g ps) f ts ∙ sym (length-changed_at ps f ts)) (λ p l. at_place p (omega (arith, l, length-changed_at (filter g ps) f ts)))
  where
    by_test : (p : ℕ) (a b : Bool) → g p ≡ b → (if a && b then f p (partition_at p ts) else partition_at p ts) ≡ (if a then f p (partition_at p ts) else partition_at p ts)
    by_test p true true is = refl
    by_test p true false is = sym (stays p is)
    by_test p false b is = refl

    at_place : (p : ℕ) → p < length ts → partition_at p (changed_at (filter g ps) f ts) ≡ partition_at p (changed_at ps f ts)
    at_place p l =
        at-changed_at (filter g ps) f ts p l
        ∙ ap (λ (b : Bool). if b then f p (partition_at p ts) else partition_at p ts) (in_left g p ps)
        ∙ by_test p (is_in p ps) (g p) refl
        ∙ sym (at-changed_at ps f ts p l)

-- ---- what a node has to do

pub work_there : (node : ℕ) (ts : List Partition) → AllByRecursion (λ p. p < length ts) (work_in node ts)
work_there node ts = all_filter (λ p. p < length ts) (λ p. leads node (partition_at p ts)) (busy_in ts) (busy_there ts)

pub work_once : (node : ℕ) (ts : List Partition) → AreDistinct (work_in node ts)
work_once node ts = distinct_left (λ p. leads node (partition_at p ts)) (busy_in ts) (busy_once 0 ts)

pub work_any : (node : ℕ) (ts : List Partition) → not (length (work_in node ts) == 0) ≡ list_any (has_work_for node) ts
work_any node ts = some_left (λ p. leads node (partition_at p ts)) (busy_in ts) ∙ led_busy node 0 ts ts (all_at ts)

pub work_wants : (node : ℕ) (c : Config) (ts : List Partition)
    → find (λ p. wants_id c (partition_at p ts)) (work_in node ts) ≡ option_map (λ x. x.0) (find (λ x. leads node x.1 && wants_id c x.1) (enumerate_from 0 ts))
work_wants node c ts =
    found_left (λ p. leads node (partition_at p ts)) (λ p. wants_id c (partition_at p ts)) (busy_in ts)
    ∙ found_busy (λ x. leads node x.1 && wants_id c x.1) 0 ts ts (λ p. idle_asks_nothing node c) (all_at ts)

pub work_dropped : (node now : ℕ) (ts : List Partition) → changed_at (work_in node ts) (λ p t. drop_led node now t) ts ≡ map (drop_led node now) ts
work_dropped node now ts =
    changed_left (λ p. leads node (partition_at p ts)) (λ p t. drop_led node now t) (busy_in ts) ts
    (λ p is. ap (λ (b : Bool). if b then drop_attempts now (partition_at p ts) else partition_at p ts) is)
    ∙ changed_busy (drop_led node now) ts (idle_dropped node now)

-- what the others send to it is nothing
sends_none : (node : ℕ) (c : Config) (flags : Flags) (now p : ℕ) (t : Partition) → leads node t ≡ false → sends_in node c flags now (p, t) ≡ None
sends_none node c flags now p t is = ap (λ (b : Bool). option_map (λ h. let x : Sending = record { partition = p; batch = h } in x) (if b then sends c flags now t else None)) is

pub work_sent : (node : ℕ) (c : Config) (flags : Flags) (now n : ℕ) (xs ts : List Partition) → AreAt n xs ts
    → filter_map (λ p. sends_in node c flags now (p, partition_at p ts)) (filter (λ p. leads node (partition_at p ts)) (busy_from n xs)) ≡ filter_map (sends_in node c flags now) (enumerate_from n xs)
work_sent node c flags now n xs ts at =
    given_left (λ p. leads node (partition_at p ts)) (λ p. sends_in node c flags now (p, partition_at p ts)) (λ p is. sends_none node c flags now p (partition_at p ts) is) (busy_from n xs)
    ∙ chosen_busy (sends_in node c flags now) n xs ts (idle_sends_in node c flags now) at

-- ---- below one partition, and from it on

abbrev pub work_from : ℕ → ℕ → List Partition → List Partition → List ℕ
work_from node n xs ts = filter (λ p. leads node (partition_at p ts)) (busy_from n xs)

pub work_split : (node m : ℕ) (ts : List Partition) → m ≤ length ts → work_in node ts ≡ work_from node 0 (take m ts) ts ++ work_from node m (drop m ts) ts
work_split node m ts l =
    ap (filter (λ p. leads node (partition_at p ts))) (busy_split m ts l)
    ∙ filter-append (λ p. leads node (partition_at p ts)) (busy_from 0 (take m ts)) (busy_from m (drop m ts))

pub work_sent_from : (node : ℕ) (c : Config) (flags : Flags) (now m : ℕ) (ts : List Partition) → m ≤ length ts
    → filter_map (λ p. sends_in node c flags now (p, partition_at p ts)) (work_from node m (drop m ts) ts) ++ filter_map (λ p. sends_in node c flags now (p, partition_at p ts)) (work_from node 0 (take m ts) ts)
    ≡ filter_map (sends_in node c flags now) (numbered_from m ts)
work_sent_from node c flags now m ts l =
    ap (λ (xs : List Sending). xs ++ filter_map (λ p. sends_in node c flags now (p, partition_at p ts)) (work_from node 0 (take m ts) ts)) (work_sent node c flags now m (drop m ts) ts (last_at m ts))
    ∙ ap (λ (xs : List Sending). filter_map (sends_in node c flags now) (enumerate_from m (drop m ts)) ++ xs) (work_sent node c flags now 0 (take m ts) ts (first_at m ts l))
    ∙ sym (filter_map-append (sends_in node c flags now) (enumerate_from m (drop m ts)) (enumerate_from 0 (take m ts)))

-- ---- where all of a list pass

left_few : (q : ℕ → Bool) (ps : List ℕ) → length (filter q ps) ≤ length ps
left_few q [] = omega arith
left_few q (p ∷ ps) = by_test (left_few q ps) (q p)
  where
    by_test : length (filter q ps) ≤ length ps → (b : Bool) → length (if b then p ∷ filter q ps else filter q ps) ≤ length (p ∷ ps)
    by_test rest true = omega (arith, rest)
    by_test rest false = omega (arith, rest)

passes_in : (q : ℕ → Bool) (ps : List ℕ) → length ps ≤ length (filter q ps) → (n : ℕ) → is_in n ps ≡ true → q n ≡ true
passes_in q [] all n there = absurd (true≢false (sym there))
passes_in q (p ∷ ps) all n there = by_test (q p) refl (λ l. passes_in q ps l n) (left_few q ps) all
  where
    at : (b : Bool) → (p == n) ≡ b → (is_in n ps ≡ true → q n ≡ true) → q p ≡ true → q n ≡ true
    at true same rest is = sym (ap q (eqb-true p n same)) ∙ is
    at false other rest is = rest (sym (ap (λ (b : Bool). b || is_in n ps) other) ∙ there)

    by_test : (b : Bool) → q p ≡ b → (length ps ≤ length (filter q ps) → is_in n ps ≡ true → q n ≡ true) → length (filter q ps) ≤ length ps
        → length (p ∷ ps) ≤ length (if b then p ∷ filter q ps else filter q ps) → q n ≡ true
    by_test true is rest few whole = at (p == n) refl (rest (omega (arith, whole))) is
    by_test false is rest few whole = absurd (omega (arith, few, whole))

-- where none of the one list leaves, none of the other does, which has no others
pub all_stay : (q : ℕ → Bool) (ps qs : List ℕ) → length ps ≤ length (filter q ps) → AllByRecursion (λ p. is_in p ps ≡ true) qs → qs ≡ filter q qs
all_stay q ps [] all h = refl
all_stay q ps (n ∷ qs) all h =
    ap (λ (rs : List ℕ). n ∷ rs) (all_stay q ps qs all h.1)
    ∙ sym (ap (λ (b : Bool). if b then n ∷ filter q qs else filter q qs) (passes_in q ps all n h.0))
