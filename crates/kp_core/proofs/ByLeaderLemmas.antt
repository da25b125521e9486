-- The busy partitions by their leaders.
use Rattle.std.proofs.Common.{◌≡◌, ◌∙◌, ℕ, zero, suc, ◌+◌, ◌<◌, ◌≤◌, ◌^◌, Bool, true, false, true≢false, not, List, [], ◌∷◌, length, map, replicate, refl, sym, ap, subst, ne_eqb, eq-eqb, eqb-true, arith}
use Rattle.std.specs.Prelude.{filter, ◌&&◌, ◌||◌, ◌==◌, if◌then◌else◌, slice_set}
use Rattle.std.specs.List.{AllByRecursion}
use Rattle.std.proofs.lemmas.Bool.Decides.{nat_tests}
use Rattle.std.proofs.lemmas.List.{get_or-map, get_or-set_other, get_or-set_same, length-map, length-replicate, length-set, set-set}
use Rattle.kp_rules.specs.Partitions.{changed_at, is_in, leads, new_partition, partition_at}
use Rattle.kp_rules.specs.Records.{Effect, Partition}
use Rattle.kp_rules.specs.Settling.{left_alone}
use Rattle.kp_rules.proofs.ListLemmas.{all_weaker}
use Rattle.kp_rules.proofs.PartitionLemmas.{at_changed, length-changed_at}
use Rattle.kp_core.specs.Busy.{AreListed, busy_from, busy_in, is_busy}
use Rattle.kp_core.specs.ByLeader.{AreByLeader, Led, NoneBefore, Rises, by_leader, is_before, led_at, led_from, places_in, put}
use Rattle.kp_core.proofs.BusyLemmas.{AreAt}
use Rattle.kp_core.proofs.ListedLemmas.{none_after, none_at_first, room_left}
use Rattle.kp_core.proofs.LedLemmas.{all_put, is_under, length-put, put-filter, put_first, put_rises, put_twice}

-- ---- one partition more

all_more : (P : Led → Type 0) (b : Bool) (x : Led) (ys : List Led) → P x → AllByRecursion P ys → AllByRecursion P (if b then put x ys else ys)
all_more P true x ys here rest = all_put P x ys here rest
all_more P false x ys here rest = rest

-- ---- where they stand

pub led_rises : (n : ℕ) (ts : List Partition) → Rises (led_from n ts)
led_rises n [] = tt
led_rises n (t ∷ ts) = by_flag (led_rises (n + 1) ts) (is_busy t)
  where
    by_flag : Rises (led_from (n + 1) ts) → (b : Bool) → Rises (if b then put (led_at n t) (led_from (n + 1) ts) else led_from (n + 1) ts)
    by_flag rest true = put_rises (led_at n t) (led_from (n + 1) ts) rest
    by_flag rest false = rest

pub length-led : (n : ℕ) (ts : List Partition) → length (led_from n ts) ≡ length (busy_from n ts)
length-led n [] = refl
length-led n (t ∷ ts) = by_flag (length-led (n + 1) ts) (is_busy t)
  where
    by_flag : length (led_from (n + 1) ts) ≡ length (busy_from (n + 1) ts) → (b : Bool)
        → length (if b then put (led_at n t) (led_from (n + 1) ts) else led_from (n + 1) ts) ≡ length (if b then n ∷ busy_from (n + 1) ts else busy_from (n + 1) ts)
    by_flag rest true = length-put (led_at n t) (led_from (n + 1) ts) ∙ ap suc rest
    by_flag rest false = rest

led_above : (m n : ℕ) (ts : List Partition) → m ≤ n → AllByRecursion (λ l. m ≤ l.place) (led_from n ts)
led_above m n [] le = tt
led_above m n (t ∷ ts) le = all_more (λ l. m ≤ l.place) (is_busy t) (led_at n t) (led_from (n + 1) ts) le (led_above m (n + 1) ts (omega (arith, le)))

-- each of those that are busy has its leader
pub led_leaders : (n : ℕ) (xs us : List Partition) → ((k : ℕ) → k < length xs → is_busy (partition_at k xs) ≡ true → (partition_at (n + k) us).leader ≡ (partition_at k xs).leader)
    → AllByRecursion (λ l. (partition_at l.place us).leader ≡ l.leader) (led_from n xs)
led_leaders n [] us leads_on = tt
led_leaders n (x ∷ xs) us leads_on = by_flag (led_leaders (n + 1) xs us (λ k l busy. next k ∙ leads_on (suc k) (omega (arith, l)) busy)) (is_busy x) refl
  where
    next : (k : ℕ) → (partition_at (n + 1 + k) us).leader ≡ (partition_at (n + suc k) us).leader
    next k = let same : n + 1 + k ≡ n + suc k = omega arith in ap (λ (m : ℕ). (partition_at m us).leader) same

    first : (partition_at n us).leader ≡ (partition_at (n + 0) us).leader
    first = let same : n ≡ n + 0 = omega arith in ap (λ (m : ℕ). (partition_at m us).leader) same

    by_flag : AllByRecursion (λ l. (partition_at l.place us).leader ≡ l.leader) (led_from (n + 1) xs) → (b : Bool) → is_busy x ≡ b
        → AllByRecursion (λ l. (partition_at l.place us).leader ≡ l.leader) (if b then put (led_at n x) (led_from (n + 1) xs) else led_from (n + 1) xs)
    by_flag rest true is = all_put (λ l. (partition_at l.place us).leader ≡ l.leader) (led_at n x) (led_from (n + 1) xs) (first ∙ leads_on 0 (omega arith) is) rest
    by_flag rest false is = rest

-- each is in the list of those that are busy
in_more : (n p : ℕ) (ps : List ℕ) → is_in p ps ≡ true → is_in p (n ∷ ps) ≡ true
in_more n p ps is = ap (λ (b : Bool). (n == p) || b) is ∙ either (n == p)
  where
    either : (b : Bool) → (b || true) ≡ true
    either true = refl
    either false = refl

led_listed : (n : ℕ) (ts : List Partition) → AllByRecursion (λ l. is_in l.place (busy_from n ts) ≡ true) (led_from n ts)
led_listed n [] = tt
led_listed n (t ∷ ts) = by_flag (led_listed (n + 1) ts) (is_busy t)
  where
    more : (ls : List Led) → AllByRecursion (λ l. is_in l.place (busy_from (n + 1) ts) ≡ true) ls → AllByRecursion (λ l. is_in l.place (n ∷ busy_from (n + 1) ts) ≡ true) ls
    more ls h = all_weaker (λ l. is_in l.place (busy_from (n + 1) ts) ≡ true) (λ l. is_in l.place (n ∷ busy_from (n + 1) ts) ≡ true) (λ l is. in_more n l.place (busy_from (n + 1) ts) is) ls h

    by_flag : AllByRecursion (λ l. is_in l.place (busy_from (n + 1) ts) ≡ true) (led_from (n + 1) ts) → (b : Bool)
        → AllByRecursion (λ l. is_in l.place (if b then n ∷ busy_from (n + 1) ts else busy_from (n + 1) ts) ≡ true) (if b then put (led_at n t) (led_from (n + 1) ts) else led_from (n + 1) ts)
    by_flag rest true =
        all_put (λ l. is_in l.place (n ∷ busy_from (n + 1) ts) ≡ true) (led_at n t) (led_from (n + 1) ts)
        (ap (λ (b : Bool). b || is_in n (busy_from (n + 1) ts)) (eq-eqb n n refl)) (more (led_from (n + 1) ts) rest)
    by_flag rest false = rest

all_places : (P : ℕ → Type 0) (ls : List Led) → AllByRecursion (λ l. P l.place) ls → AllByRecursion P (places_in ls)
all_places P [] h = tt
all_places P (l ∷ ls) h = (h.0, all_places P ls h.1)

pub both_lists : {ts : List Partition} {listed busy : List ℕ} {capacity room : ℕ} → AreListed ts busy room → AreByLeader ts listed capacity → AllByRecursion (λ p. is_in p busy ≡ true) listed
both_lists {ts} {busy = busy} b h =
    subst (AllByRecursion (λ p. is_in p busy ≡ true)) (sym h.places)
    (subst (λ (ps : List ℕ). AllByRecursion (λ p. is_in p ps ≡ true) (by_leader ts)) (sym b.busy)
    (all_places (λ p. is_in p (busy_in ts) ≡ true) (led_from 0 ts) (led_listed 0 ts)))

-- ---- those of a node

none_first : (n node : ℕ) (x : Partition) (ys : List Led) → leads node x ≡ true → AllByRecursion (λ l. n + 1 ≤ l.place) ys → NoneBefore (led_at n x) (filter (is_under node) ys)
none_first n node x [] its above = tt
none_first n node x (y ∷ ys) its above = by_test (none_first n node x ys its above.1) (is_under node y) refl
  where
    apart : is_under node y ≡ true → is_before y (led_at n x) ≡ false
    apart is = grind (arith, nat_tests, is, its, above.0)

    by_test : NoneBefore (led_at n x) (filter (is_under node) ys) → (b : Bool) → is_under node y ≡ b → NoneBefore (led_at n x) (if b then y ∷ filter (is_under node) ys else filter (is_under node) ys)
    by_test rest true is = (apart is, rest)
    by_test rest false is = rest

pub under-is : (node n : ℕ) (xs ts : List Partition) → AreAt n xs ts
    → places_in (filter (is_under node) (led_from n xs)) ≡ filter (λ p. leads node (partition_at p ts)) (busy_from n xs)
under-is node n [] ts at = refl
under-is node n (x ∷ xs) ts at = by_flag (under-is node (n + 1) xs ts at.1) (is_busy x)
  where
    by_lead : places_in (filter (is_under node) (led_from (n + 1) xs)) ≡ filter (λ p. leads node (partition_at p ts)) (busy_from (n + 1) xs) → (b : Bool) → leads node x ≡ b
        → places_in (if b then put (led_at n x) (filter (is_under node) (led_from (n + 1) xs)) else filter (is_under node) (led_from (n + 1) xs))
        ≡ (if b then n ∷ filter (λ p. leads node (partition_at p ts)) (busy_from (n + 1) xs) else filter (λ p. leads node (partition_at p ts)) (busy_from (n + 1) xs))
    by_lead rest true is =
        ap places_in (put_first (led_at n x) (filter (is_under node) (led_from (n + 1) xs)) (none_first n node x (led_from (n + 1) xs) is (led_above (n + 1) (n + 1) xs (omega arith))))
        ∙ ap (λ (ps : List ℕ). n ∷ ps) rest
    by_lead rest false is = rest

    by_flag : places_in (filter (is_under node) (led_from (n + 1) xs)) ≡ filter (λ p. leads node (partition_at p ts)) (busy_from (n + 1) xs) → (b : Bool)
        → places_in (filter (is_under node) (if b then put (led_at n x) (led_from (n + 1) xs) else led_from (n + 1) xs))
        ≡ filter (λ p. leads node (partition_at p ts)) (if b then n ∷ busy_from (n + 1) xs else busy_from (n + 1) xs)
    by_flag rest true =
        ap places_in (put-filter (is_under node) (led_at n x) (led_from (n + 1) xs) (led_rises (n + 1) xs))
        ∙ by_lead rest (leads node x) refl
        ∙ sym (ap (λ (t : Partition). if leads node t then n ∷ filter (λ p. leads node (partition_at p ts)) (busy_from (n + 1) xs) else filter (λ p. leads node (partition_at p ts)) (busy_from (n + 1) xs)) at.0)
    by_flag rest false = rest

-- ---- after each thing that happens to them

-- these stay busy that pass, each with its leader
abbrev pub Sifts : (Led → Bool) → ℕ → List Partition → List Partition → Type 0
Sifts q n [] [] = Unit {0}
Sifts q n [] (y ∷ ys) = ⊥
Sifts q n (x ∷ xs) [] = ⊥
Sifts q n (x ∷ xs) (y ∷ ys) = (is_busy y ≡ (is_busy x && q (led_at n x))) × (is_busy y ≡ true → y.leader ≡ x.leader) × Sifts q (n + 1) xs ys

pub led_sifted : (q : Led → Bool) (n : ℕ) (xs ys : List Partition) → Sifts q n xs ys → filter q (led_from n xs) ≡ led_from n ys
led_sifted q n [] [] h = refl
led_sifted q n [] (y ∷ ys) h = absurd h
led_sifted q n (x ∷ xs) [] h = absurd h
led_sifted q n (x ∷ xs) (y ∷ ys) h = by_flag (led_sifted q (n + 1) xs ys h.2) (is_busy x) refl
  where
    same : is_busy y ≡ true → led_at n x ≡ led_at n y
    same busy = ap (λ (l : ℕ). let z : Led = record { leader = l; place = n } in z) (sym (h.1 busy))

    by_test : filter q (led_from (n + 1) xs) ≡ led_from (n + 1) ys → (b : Bool) → is_busy y ≡ b
        → (if b then put (led_at n x) (filter q (led_from (n + 1) xs)) else filter q (led_from (n + 1) xs)) ≡ (if b then put (led_at n y) (led_from (n + 1) ys) else led_from (n + 1) ys)
    by_test rest true is = ap (λ (z : Led). put z (filter q (led_from (n + 1) xs))) (same is) ∙ ap (put (led_at n y)) rest
    by_test rest false is = rest

    by_flag : filter q (led_from (n + 1) xs) ≡ led_from (n + 1) ys → (b : Bool) → is_busy x ≡ b
        → filter q (if b then put (led_at n x) (led_from (n + 1) xs) else led_from (n + 1) xs) ≡ (if is_busy y then put (led_at n y) (led_from (n + 1) ys) else led_from (n + 1) ys)
    by_flag rest true is =
        let passes : is_busy y ≡ q (led_at n x) = h.0 ∙ ap (λ (b : Bool). b && q (led_at n x)) is in
        put-filter q (led_at n x) (led_from (n + 1) xs) (led_rises (n + 1) xs)
        ∙ by_test rest (q (led_at n x)) passes
        ∙ sym (ap (λ (b : Bool). if b then put (led_at n y) (led_from (n + 1) ys) else led_from (n + 1) ys) passes)
    by_flag rest false is =
        rest ∙ sym (ap (λ (b : Bool). if b then put (led_at n y) (led_from (n + 1) ys) else led_from (n + 1) ys) (h.0 ∙ ap (λ (b : Bool). b && q (led_at n x)) is))

-- one more is busy
pub led_filled : (n k : ℕ) (v : Partition) (ts : List Partition) → k < length ts → is_busy (partition_at k ts) ≡ false → is_busy v ≡ true
    → led_from n (slice_set ts k v) ≡ put (record { leader = v.leader; place = n + k }) (led_from n ts)
led_filled n k v [] l idle busy = absurd (omega (arith, l))
led_filled n zero v (t ∷ ts) l idle busy =
    let same : n ≡ n + zero = omega arith in
    ap (λ (b : Bool). if b then put (led_at n v) (led_from (n + 1) ts) else led_from (n + 1) ts) busy
    ∙ ap (λ (m : ℕ). let x : Led = record { leader = v.leader; place = m } in put x (led_from (n + 1) ts)) same
    ∙ sym (ap (λ (b : Bool). let x : Led = record { leader = v.leader; place = n + zero } in put x (if b then put (led_at n t) (led_from (n + 1) ts) else led_from (n + 1) ts)) idle)
led_filled n (suc k) v (t ∷ ts) l idle busy = by_flag (led_filled (n + 1) k v ts (omega (arith, l)) idle busy) (is_busy t)
  where
    next : n + 1 + k ≡ n + suc k
    next = omega arith

    new : ℕ → Led
    new m = record { leader = v.leader; place = m }

    by_flag : led_from (n + 1) (slice_set ts k v) ≡ put (new (n + 1 + k)) (led_from (n + 1) ts) → (b : Bool)
        → (if b then put (led_at n t) (led_from (n + 1) (slice_set ts k v)) else led_from (n + 1) (slice_set ts k v))
        ≡ put (new (n + suc k)) (if b then put (led_at n t) (led_from (n + 1) ts) else led_from (n + 1) ts)
    by_flag rest true =
        ap (put (led_at n t)) (rest ∙ ap (λ (m : ℕ). put (new m) (led_from (n + 1) ts)) next)
        ∙ put_twice (led_at n t) (new (n + suc k)) (led_from (n + 1) ts) (λ e. omega (arith, e))
    by_flag rest false = rest ∙ ap (λ (m : ℕ). put (new m) (led_from (n + 1) ts)) next

-- ---- these stay busy that pass

next_at : (n k : ℕ) (t : Partition) → led_at (n + suc k) t ≡ led_at (n + 1 + k) t
next_at n k t = let same : n + suc k ≡ n + 1 + k = omega arith in ap (λ (m : ℕ). led_at m t) same

pub sifts : (q : Led → Bool) (n : ℕ) (xs ys : List Partition) → length ys ≡ length xs
    → ((k : ℕ) → k < length xs → is_busy (partition_at k ys) ≡ (is_busy (partition_at k xs) && q (led_at (n + k) (partition_at k xs))))
    → ((k : ℕ) → k < length xs → is_busy (partition_at k ys) ≡ true → (partition_at k ys).leader ≡ (partition_at k xs).leader) → Sifts q n xs ys
sifts q n [] [] count busy leader = tt
sifts q n [] (y ∷ ys) count busy leader = absurd (omega (arith, count))
sifts q n (x ∷ xs) [] count busy leader = absurd (omega (arith, count))
sifts q n (x ∷ xs) (y ∷ ys) count busy leader =
    let same : n + 0 ≡ n = omega arith in (
      busy 0 (omega arith) ∙ ap (λ (m : ℕ). is_busy x && q (led_at m x)) same,
      leader 0 (omega arith),
      sifts q (n + 1) xs ys (omega (arith, count))
          (λ k l. busy (suc k) (omega (arith, l)) ∙ ap (λ (y : Led). is_busy (partition_at k xs) && q y) (next_at n k (partition_at k xs)))
          (λ k l. leader (suc k) (omega (arith, l))),
    )

all_pass : (xs : List Led) → filter (λ l. true) xs ≡ xs
all_pass [] = refl
all_pass (x ∷ xs) = ap (λ (ys : List Led). x ∷ ys) (all_pass xs)

-- each is as busy as it was, under the same leader
pub same_by_leader : {ts : List Partition} {listed : List ℕ} {capacity : ℕ} (us : List Partition) → length us ≡ length ts
    → ((k : ℕ) → k < length ts → is_busy (partition_at k us) ≡ is_busy (partition_at k ts))
    → ((k : ℕ) → k < length ts → is_busy (partition_at k us) ≡ true → (partition_at k us).leader ≡ (partition_at k ts).leader)
    → AreByLeader ts listed capacity → AreByLeader us listed capacity
same_by_leader {ts} us count busy leader h = record {
  places =
      h.places
      ∙ ap places_in (sym (all_pass (led_from 0 ts))
      ∙ led_sifted (λ l. true) 0 ts us (sifts (λ l. true) 0 ts us count (λ k l. busy k l ∙ with_it (is_busy (partition_at k ts))) leader));
  room = omega (arith, h.room, count);
}
  where
    with_it : (b : Bool) → b ≡ (b && true)
    with_it true = refl
    with_it false = refl

pub map_by_leader : {ts : List Partition} {listed : List ℕ} {capacity : ℕ} (f : Partition → Partition) (us : List Partition) → us ≡ map f ts
    → ((t : Partition) → is_busy (f t) ≡ is_busy t) → ((t : Partition) → (f t).leader ≡ t.leader) → AreByLeader ts listed capacity → AreByLeader us listed capacity
map_by_leader {ts} f us is busy leader h =
    same_by_leader us (ap (λ (vs : List Partition). length vs) is ∙ length-map ts f)
    (λ k l. ap is_busy (at k l) ∙ busy (partition_at k ts)) (λ k l still. ap (λ (t : Partition). t.leader) (at k l) ∙ leader (partition_at k ts)) h
  where
    at : (k : ℕ) → k < length ts → partition_at k us ≡ f (partition_at k ts)
    at k l = ap (partition_at k) is ∙ get_or-map f ts k (new_partition 0) (new_partition 0) l

pub changed_by_leader : {ts : List Partition} {listed : List ℕ} {capacity : ℕ} (ps : List ℕ) (f : ℕ → Partition → Partition) (us : List Partition) → us ≡ changed_at ps f ts
    → ((p : ℕ) (t : Partition) → is_busy (f p t) ≡ is_busy t) → ((p : ℕ) (t : Partition) → (f p t).leader ≡ t.leader) → AreByLeader ts listed capacity → AreByLeader us listed capacity
changed_by_leader {ts} ps f us is busy leader h =
    same_by_leader us (ap (λ (vs : List Partition). length vs) is ∙ length-changed_at ps f ts)
    (λ k l. ap (λ (vs : List Partition). is_busy (partition_at k vs)) is
    ∙ at_changed (λ u. is_busy u ≡ is_busy (partition_at k ts)) ps f ts k (λ m there. busy k (partition_at k ts)) (λ away. refl))
    (λ k l still. ap (λ (vs : List Partition). (partition_at k vs).leader) is
    ∙ at_changed (λ u. u.leader ≡ (partition_at k ts).leader) ps f ts k (λ m there. leader k (partition_at k ts)) (λ away. refl)) h

-- one is set
at_set : (P : ℕ → Partition → Type 0) (p : ℕ) (v : Partition) (ts : List Partition) → P p v → ((k : ℕ) → (k ≡ p → ⊥) → P k (partition_at k ts)) → (k : ℕ) → k < length ts → P k (partition_at k (slice_set ts p v))
at_set P p v ts here others k l = by_test (k == p) refl
  where
    by_test : (b : Bool) → (k == p) ≡ b → P k (partition_at k (slice_set ts p v))
    by_test true is =
        let same : k ≡ p = eqb-true k p is in
        subst (λ (m : ℕ). P m (partition_at m (slice_set ts p v))) (sym same)
        (subst (P p) (sym (get_or-set_same ts p v (new_partition 0) (subst (λ (m : ℕ). m < length ts) same l))) here)
    by_test false is =
        let other : k ≡ p → ⊥ = λ e. true≢false (sym (eq-eqb k p e) ∙ is) in
        subst (P k) (sym (get_or-set_other ts p k v (new_partition 0) other)) (others k other)

pub set_by_leader : {ts : List Partition} {listed : List ℕ} {capacity : ℕ} (p : ℕ) (v : Partition) → is_busy v ≡ is_busy (partition_at p ts) → (is_busy v ≡ true → v.leader ≡ (partition_at p ts).leader)
    → AreByLeader ts listed capacity → AreByLeader (slice_set ts p v) listed capacity
set_by_leader {ts} p v busy leader h =
    same_by_leader (slice_set ts p v) (length-set ts p v)
    (at_set (λ k u. is_busy u ≡ is_busy (partition_at k ts)) p v ts busy (λ k other. refl))
    (at_set (λ k u. is_busy u ≡ true → u.leader ≡ (partition_at k ts).leader) p v ts leader (λ k other still. refl)) h

-- ---- those that are kept

kept_places : (q : ℕ → Bool) (ls : List Led) → filter q (places_in ls) ≡ places_in (filter (λ l. q l.place) ls)
kept_places q [] = refl
kept_places q (l ∷ ls) = by_test (kept_places q ls) (q l.place)
  where
    by_test : filter q (places_in ls) ≡ places_in (filter (λ m. q m.place) ls) → (b : Bool)
        → (if b then l.place ∷ filter q (places_in ls) else filter q (places_in ls)) ≡ places_in (if b then l ∷ filter (λ m. q m.place) ls else filter (λ m. q m.place) ls)
    by_test rest true = ap (λ (ps : List ℕ). l.place ∷ ps) rest
    by_test rest false = rest

pub kept_by_leader : {ts : List Partition} {listed : List ℕ} {capacity : ℕ} (ps : List ℕ) (rule : ℕ → Partition → Effect) (us vs : List Partition) (left : List ℕ) (room : ℕ)
    → ((p : ℕ) (t : Partition) → is_busy t ≡ false → rule p t ≡ left_alone t) → ((p : ℕ) (t : Partition) → (rule p t).after.leader ≡ t.leader)
    → us ≡ changed_at ps (λ p t. (rule p t).after) ts → vs ≡ us → left ≡ filter (λ p. is_busy (partition_at p vs)) listed → room ≡ capacity
    → AreByLeader ts listed capacity → AreByLeader us left room
kept_by_leader {ts} {listed} ps rule us vs left room quiet leader is seen kept same h = record {
  places =
      kept ∙ ap (λ (xs : List Partition). filter (λ p. is_busy (partition_at p xs)) listed) seen
      ∙ ap (filter (λ p. is_busy (partition_at p us))) h.places
      ∙ kept_places (λ p. is_busy (partition_at p us)) (led_from 0 ts)
      ∙ ap places_in (led_sifted (λ l. is_busy (partition_at l.place us)) 0 ts us (sifts (λ l. is_busy (partition_at l.place us)) 0 ts us count busy leads_on));
  room = omega (arith, count, h.room, same);
}
  where
    count : length us ≡ length ts
    count = ap (λ (xs : List Partition). length xs) is ∙ length-changed_at ps (λ p t. (rule p t).after) ts

    idle : (k : ℕ) → is_busy (partition_at k ts) ≡ false → is_busy (partition_at k us) ≡ false
    idle k e =
        ap (λ (vs : List Partition). is_busy (partition_at k vs)) is
        ∙ at_changed (λ u. is_busy u ≡ false) ps (λ p t. (rule p t).after) ts k
        (λ l there. ap (λ (x : Effect). is_busy x.after) (quiet k (partition_at k ts) e) ∙ e) (λ away. e)

    by_flag : (k : ℕ) (b : Bool) → is_busy (partition_at k ts) ≡ b → is_busy (partition_at k us) ≡ (b && is_busy (partition_at k us))
    by_flag k true e = refl
    by_flag k false e = idle k e

    busy : (k : ℕ) → k < length ts → is_busy (partition_at k us) ≡ (is_busy (partition_at k ts) && is_busy (partition_at (0 + k) us))
    busy k l =
        let same : k ≡ 0 + k = omega arith in
        by_flag k (is_busy (partition_at k ts)) refl ∙ ap (λ (m : ℕ). is_busy (partition_at k ts) && is_busy (partition_at m us)) same

    leads_on : (k : ℕ) → k < length ts → is_busy (partition_at k us) ≡ true → (partition_at k us).leader ≡ (partition_at k ts).leader
    leads_on k l still =
        ap (λ (vs : List Partition). (partition_at k vs).leader) is
        ∙ at_changed (λ u. u.leader ≡ (partition_at k ts).leader) ps (λ p t. (rule p t).after) ts k (λ m there. leader k (partition_at k ts)) (λ away. refl)

-- none is left
none_led : (n : ℕ) (ts : List Partition) → busy_from n ts ≡ [] → led_from n ts ≡ []
none_led n ts none = empty (led_from n ts) (length-led n ts ∙ ap (λ (ps : List ℕ). length ps) none)
  where
    empty : (ls : List Led) → length ls ≡ 0 → ls ≡ []
    empty [] e = refl
    empty (l ∷ ls) e = absurd (omega (arith, e))

pub none_by_leader : {ts : List Partition} {listed : List ℕ} {capacity : ℕ} (f : Partition → Partition) (us : List Partition) (left : List ℕ) (room : ℕ)
    → ((t : Partition) → is_busy (f t) ≡ false) → us ≡ map f ts → left ≡ [] → room ≡ capacity → AreByLeader ts listed capacity → AreByLeader us left room
none_by_leader {ts} f us left room idle is none same h =
    let count : length us ≡ length ts = ap (λ (xs : List Partition). length xs) is ∙ length-map ts f in
    record { places = none ∙ ap places_in (sym (none_led 0 us (ap busy_in is ∙ none_after f ts idle))); room = omega (arith, count, h.room, same) }

pub first_by_leader : (n : ℕ) (t : Partition) (ts : List Partition) (listed : List ℕ) (capacity : ℕ) → is_busy t ≡ false
    → ts ≡ replicate n t → listed ≡ [] → capacity ≡ n → AreByLeader ts listed capacity
first_by_leader n t ts listed capacity idle is none room =
    let count : length ts ≡ n = ap (λ (us : List Partition). length us) is ∙ length-replicate n t in
    record { places = none ∙ ap places_in (sym (none_led 0 ts (ap busy_in is ∙ none_at_first n t idle))); room = omega (arith, count, room) }

-- ---- one more

-- what puts a number into a list by leaders makes this of it
abbrev pub PutsLed : ℕ → List Partition → List ℕ → List ℕ → Type 0
PutsLed p us old new = (leds : List Led) → Rises leds → AllByRecursion (λ l. (partition_at l.place us).leader ≡ l.leader) leds → old ≡ places_in leds → new ≡ places_in (put (led_at p (partition_at p us)) leds)

-- that of one which is set may be another
others_led : (p : ℕ) (v : Partition) (ts us : List Partition) → ((k : ℕ) → (k ≡ p → ⊥) → partition_at k us ≡ partition_at k ts) → (is_busy (partition_at p ts) ≡ true → (partition_at p us).leader ≡ (partition_at p ts).leader)
    → AllByRecursion (λ l. (partition_at l.place us).leader ≡ l.leader) (led_from 0 ts)
others_led p v ts us others here = led_leaders 0 ts us (λ k l busy. let same : 0 + k ≡ k = omega arith in ap (λ (m : ℕ). (partition_at m us).leader) same ∙ by_test k (k == p) refl busy)
  where
    by_test : (k : ℕ) (b : Bool) → (k == p) ≡ b → is_busy (partition_at k ts) ≡ true → (partition_at k us).leader ≡ (partition_at k ts).leader
    by_test k true is busy =
        let same : k ≡ p = eqb-true k p is in
        subst (λ (m : ℕ). is_busy (partition_at m ts) ≡ true → (partition_at m us).leader ≡ (partition_at m ts).leader) (sym same) here busy
    by_test k false is busy = ap (λ (t : Partition). t.leader) (others k (λ e. true≢false (sym (eq-eqb k p e) ∙ is)))

pub filled_by_leader : {ts : List Partition} {listed : List ℕ} {capacity : ℕ} (p : ℕ) (v : Partition) (left : List ℕ) (room : ℕ) → p < length ts
    → is_busy (partition_at p ts) ≡ false → is_busy v ≡ true → PutsLed p (slice_set ts p v) listed left → room ≡ capacity
    → AreByLeader ts listed capacity → AreByLeader (slice_set ts p v) left room
filled_by_leader {ts} p v left room there idle busy puts same h =
    let here : partition_at p (slice_set ts p v) ≡ v = get_or-set_same ts p v (new_partition 0) there in
    let led : AllByRecursion (λ l. (partition_at l.place (slice_set ts p v)).leader ≡ l.leader) (led_from 0 ts) =
    others_led p v ts (slice_set ts p v) (λ k other. get_or-set_other ts p k v (new_partition 0) other) (λ is. absurd (true≢false (sym is ∙ idle))) in
    let first : p ≡ 0 + p = omega arith in
    record {
      places =
          puts (led_from 0 ts) (led_rises 0 ts) led h.places
          ∙ ap (λ (t : Partition). places_in (put (led_at p t) (led_from 0 ts))) here
          ∙ ap (λ (m : ℕ). places_in (put (led_at m v) (led_from 0 ts))) first
          ∙ ap places_in (sym (led_filled 0 p v ts there idle busy));
      room = omega (arith, length-set ts p v, h.room, same);
    }

-- one is led by another node
abbrev emptied : Partition → Partition
emptied t = record t { queue = []; open_batches = [] }

emptied_idle : (t : Partition) → is_busy (emptied t) ≡ false
unfolding is_busy
emptied_idle t = refl

-- the partitions with nothing in this one
abbrev without : ℕ → List Partition → List Partition
without p ts = slice_set ts p (emptied (partition_at p ts))

without_idle : (p : ℕ) (ts : List Partition) → p < length ts → is_busy (partition_at p (without p ts)) ≡ false
without_idle p ts there = ap is_busy (get_or-set_same ts p (emptied (partition_at p ts)) (new_partition 0) there) ∙ emptied_idle (partition_at p ts)

removed : (p : ℕ) (ts : List Partition) → filter (λ q. not (q == p)) (by_leader ts) ≡ by_leader (without p ts)
removed p ts =
    kept_places (λ q. not (q == p)) (led_from 0 ts)
    ∙ ap places_in (led_sifted (λ l. not (l.place == p)) 0 ts (without p ts) (sifts (λ l. not (l.place == p)) 0 ts (without p ts) (length-set ts p none)
    (λ k l. at_set (λ m u. is_busy u ≡ (is_busy (partition_at m ts) && not (m == p))) p none ts gone stays k l ∙ (let same : k ≡ 0 + k = omega arith in ap (λ (m : ℕ). is_busy (partition_at k ts) && not (m == p)) same))
    (at_set (λ m u. is_busy u ≡ true → u.leader ≡ (partition_at m ts).leader) p none ts (λ is. refl) (λ k other is. refl))))
  where
    none : Partition
    none = emptied (partition_at p ts)

    no : (b : Bool) → (b && false) ≡ false
    no true = refl
    no false = refl

    yes : (b : Bool) → (b && true) ≡ b
    yes true = refl
    yes false = refl

    gone : is_busy none ≡ (is_busy (partition_at p ts) && not (p == p))
    gone = emptied_idle (partition_at p ts) ∙ sym (ap (λ (b : Bool). is_busy (partition_at p ts) && not b) (eq-eqb p p refl) ∙ no (is_busy (partition_at p ts)))

    stays : (k : ℕ) → (k ≡ p → ⊥) → is_busy (partition_at k ts) ≡ (is_busy (partition_at k ts) && not (k == p))
    stays k other = sym (ap (λ (b : Bool). is_busy (partition_at k ts) && not b) (ne_eqb k p other) ∙ yes (is_busy (partition_at k ts)))

-- there is room for it
length-by_leader : (ts : List Partition) → length (by_leader ts) ≡ length (busy_in ts)
length-by_leader ts = length-map (led_from 0 ts) (λ l. l.place) ∙ length-led 0 ts

fewer : (p : ℕ) (ts : List Partition) → p < length ts → length ts < 2 ^ 32 → is_busy (partition_at p ts) ≡ false → length (by_leader ts) < length ts
fewer p ts there few idle =
    let listed : AreListed ts (busy_in ts) (length ts) = record { busy = refl; room = omega arith; count = few } in
    omega (arith, length-by_leader ts, room_left p there idle listed)

pub room_led : {ts : List Partition} {listed busy : List ℕ} {capacity room : ℕ} (p : ℕ) → p < length ts → is_busy (partition_at p ts) ≡ false → AreListed ts busy room → AreByLeader ts listed capacity
    → length listed < capacity
room_led {ts} p there idle b h = omega (arith, ap (λ (ps : List ℕ). length ps) h.places, fewer p ts there b.count idle, h.room)

pub room_moved : {ts : List Partition} {listed busy : List ℕ} {capacity room : ℕ} (p : ℕ) (others : List ℕ) → p < length ts → others ≡ filter (λ q. not (q == p)) listed → AreListed ts busy room
    → AreByLeader ts listed capacity → length others < capacity
room_moved {ts} p others there sifted b h =
    let count : length (without p ts) ≡ length ts = length-set ts p (emptied (partition_at p ts)) in
    let left : length others ≡ length (by_leader (without p ts)) = ap (λ (ps : List ℕ). length ps) (sifted ∙ ap (filter (λ q. not (q == p))) h.places ∙ removed p ts) in
    omega (arith, left, count, fewer p (without p ts) (omega (arith, there, count)) (omega (arith, count, b.count)) (without_idle p ts there), h.room)

pub moved_by_leader : {ts : List Partition} {listed : List ℕ} {capacity : ℕ} (p : ℕ) (v : Partition) (others left : List ℕ) (room : ℕ) → p < length ts → is_busy v ≡ true
    → others ≡ filter (λ q. not (q == p)) listed → PutsLed p (slice_set ts p v) others left → room ≡ capacity
    → AreByLeader ts listed capacity → AreByLeader (slice_set ts p v) left room
moved_by_leader {ts} {listed} p v others left room there busy sifted puts same h =
    let none = emptied (partition_at p ts) in
    let here : partition_at p (slice_set ts p v) ≡ v = get_or-set_same ts p v (new_partition 0) there in
    let idle = without_idle p ts there in
    let led : AllByRecursion (λ l. (partition_at l.place (slice_set ts p v)).leader ≡ l.leader) (led_from 0 (without p ts)) =
    others_led p v (without p ts) (slice_set ts p v)
    (λ k other. get_or-set_other ts p k v (new_partition 0) other ∙ sym (get_or-set_other ts p k none (new_partition 0) other)) (λ is. absurd (true≢false (sym is ∙ idle))) in
    let first : p ≡ 0 + p = omega arith in
    let within : p < length (without p ts) = omega (arith, there, length-set ts p none) in
    record {
      places =
          puts (led_from 0 (without p ts)) (led_rises 0 (without p ts)) led (sifted ∙ ap (filter (λ q. not (q == p))) h.places ∙ removed p ts)
          ∙ ap (λ (t : Partition). places_in (put (led_at p t) (led_from 0 (without p ts)))) here
          ∙ ap (λ (m : ℕ). places_in (put (led_at m v) (led_from 0 (without p ts)))) first
          ∙ ap places_in (sym (led_filled 0 p v (without p ts) within idle busy))
          ∙ ap by_leader (set-set ts p none v);
      room = omega (arith, length-set ts p v, h.room, same);
    }
