-- What is in flight is so at the leader, in a request that is in flight.
use Rattle.std.proofs.Common.{◌≡◌, ℕ, zero, suc, ◌<◌, Bool, true, false, not, cond, List, [], ◌∷◌, ◌++◌, length, get_or, Some, refl, sym, ap, ◌∙◌, subst, arith, ⊎_elim, Contains}
use Rattle.std.specs.Prelude.{filter, find, is_some, if◌then◌else◌, ◌||◌, ◌==◌}
use Rattle.std.specs.List.{AllByRecursion, list_any}
use Rattle.std.proofs.lemmas.Bool.{eqb-true, eq-eqb}
use Rattle.std.proofs.lemmas.List.Concat.{flat_map-append}
use Rattle.std.proofs.lemmas.List.Folds.{list_any_at}
use Rattle.kp_wire.proofs.ListLemmas.{all_append}
use Rattle.kp_accum.specs.Queue.{Pending}
use Rattle.kp_rules.specs.declared.attempt.Attempt.{Attempt}
use Rattle.kp_rules.specs.declared.attempt.Attempt.TheVariants.{InFlight, Waiting}
use Rattle.kp_rules.specs.Attempts.{asks_for_id, awaits, awaiting, goes_to, is_live, partitions_of}
use Rattle.kp_rules.specs.Dropping.{drop_attempts, drop_led}
use Rattle.kp_rules.specs.HandingOver.{hand_over_in, opened_in, send_in}
use Rattle.kp_rules.specs.InOrder.{requests_awaited, IsAwaited, AreAwaited}
use Rattle.kp_rules.specs.Partitions.{is_in, leads, partition_at}
use Rattle.kp_rules.specs.Records.{Open, Partition, Demand, Produce, InitProducerId, Request}
use Rattle.kp_rules.proofs.ListLemmas.{all_contained, all_weaker, at_contained, contains_head, contains_tail}
use Rattle.kp_rules.proofs.OrderLemmas.{Shrinks, all_awaited, awaited_of, left_same_all, none_in_flight}
use Rattle.kp_rules.proofs.RuleLemmas.{awaited_at}
use Rattle.kp_rules.proofs.SendingLemmas.{at_send_in}

-- ---- lists

pub contains_filter : {A : Type 0} (test : A → Bool) (xs : List A) (x : A) → Contains xs x → test x ≡ true → Contains (filter test xs) x
contains_filter test [] x h t = absurd (omega (arith, h.1))
contains_filter {A} test (y ∷ ys) x h t = at_place h.0 h.1 h.2 (λ k l e. contains_filter test ys x (k, l, e) t)
  where
    at_test : (b : Bool) → Contains (filter test ys) x → Contains (cond b (y ∷ filter test ys) (filter test ys)) x
    at_test true rest = contains_tail x y (filter test ys) rest
    at_test false rest = rest

    at_place : (k : ℕ) → k < length (y ∷ ys) → get_or (y ∷ ys) k x ≡ x → ((n : ℕ) → n < length ys → get_or ys n x ≡ x → Contains (filter test ys) x)
        → Contains (cond (test y) (y ∷ filter test ys) (filter test ys)) x
    at_place zero l e later =
        let passes : test y ≡ true = ap test e ∙ t in
        subst (λ (b : Bool). Contains (cond b (y ∷ filter test ys) (filter test ys)) x) (sym passes)
        (subst (λ (z : A). Contains (z ∷ filter test ys) x) (sym e) (contains_head x (filter test ys)))
    at_place (suc k) l e later = at_test (test y) (later k (omega (arith, l)) e)

stands_in : (n : ℕ) (ns : List ℕ) → Contains ns n → is_in n ns ≡ true
stands_in n ns h = list_any_at (λ m. m == n) ns h.0 n h.1 (eq-eqb _ _ h.2)

first_or : (a b : Bool) → a ≡ true → (a || b) ≡ true
first_or true b e = refl
first_or false b e = absurd cc

second_or : (a b : Bool) → b ≡ true → (a || b) ≡ true
second_or true b e = refl
second_or false b e = e

-- ---- a request of which an attempt is in flight is so

awaits_some : (k : ℕ) (os : List Open) → is_in k (requests_awaited os) ≡ true → is_some (find (awaits k) os) ≡ true
awaits_some k [] e = absurd cc
awaits_some k (o ∷ os) e = at_attempt o.attempt e (awaits_some k os)
  where
    at_test : (b : Bool) → (b || is_in k (requests_awaited os)) ≡ true → (is_in k (requests_awaited os) ≡ true → is_some (find (awaits k) os) ≡ true)
        → is_some (cond b (Some o) (find (awaits k) os)) ≡ true
    at_test true e' later = refl
    at_test false e' later = later e'

    at_attempt : (a : Attempt) → is_in k (awaited_at a ++ requests_awaited os) ≡ true → (is_in k (requests_awaited os) ≡ true → is_some (find (awaits k) os) ≡ true)
        → is_some (cond (elim a [ InFlight c ↦ c == k | Waiting since ↦ false ]) (Some o) (find (awaits k) os)) ≡ true
    at_attempt (InFlight c) e' later = at_test (c == k) e' later
    at_attempt (Waiting since) e' later = later e'

lives : (ts : List Partition) (r : Request) (p : ℕ) → is_in p (partitions_of r.demand) ≡ true → is_some (awaiting r.correlation (partition_at p ts)) ≡ true → is_live ts r ≡ true
lives ts r p has some = at_demand r.demand has
  where
    any_in : (ps : List ℕ) → is_in p ps ≡ true → list_any (λ q. is_some (awaiting r.correlation (partition_at q ts))) ps ≡ true
    any_in [] e = absurd cc
    any_in (q ∷ ps) e = at_test (q == p) refl e (any_in ps)
      where
        rest : Bool
        rest = list_any (λ n. is_some (awaiting r.correlation (partition_at n ts))) ps

        at_test : (b : Bool) → (q == p) ≡ b → (b || is_in p ps) ≡ true → (is_in p ps ≡ true → rest ≡ true)
            → (is_some (awaiting r.correlation (partition_at q ts)) || rest) ≡ true
        at_test true is e' later = first_or _ rest (subst (λ (n : ℕ). is_some (awaiting r.correlation (partition_at n ts)) ≡ true) (sym (eqb-true q p is)) some)
        at_test false is e' later = second_or _ rest (later e')

    at_demand : (d : Demand ℕ) → is_in p (partitions_of d) ≡ true
        → (elim d [ Produce ps ↦ list_any (λ q. is_some (awaiting r.correlation (partition_at q ts))) ps | InitProducerId q ↦ true ]) ≡ true
    at_demand (Produce ps) e = any_in ps e
    at_demand (InitProducerId q) e = refl

pub no_id : (r : Request) (p : ℕ) → is_in p (partitions_of r.demand) ≡ true → asks_for_id r ≡ false
no_id r p has = at_demand r.demand has
  where
    at_demand : (d : Demand ℕ) → is_in p (partitions_of d) ≡ true → (elim d [ Produce ps ↦ false | InitProducerId q ↦ true ]) ≡ false
    at_demand (Produce ps) e = refl
    at_demand (InitProducerId q) e = absurd cc

-- ---- what is in flight of a partition is so still

-- where less is in flight of it, and those requests are still
pub awaited_then : (xs ys : List Request) (p : ℕ) (t u : Partition) → Shrinks t u
    → ((k : ℕ) (a : IsAwaited xs t.leader p k) → Contains (requests_awaited u.open_batches) k → Contains ys a.request)
    → AreAwaited xs p t → AreAwaited ys p u
awaited_then xs ys p t u s stay h = ⊎_elim
    (λ (same : u.leader ≡ t.leader). all_contained (IsAwaited ys u.leader p) (requests_awaited u.open_batches) (λ k c.
    let a = at_contained (IsAwaited xs t.leader p) (requests_awaited u.open_batches) k (left_same_all (IsAwaited xs t.leader p) s.attempts h) c in
    record { request = a.request; there = stay k a c; named = a.named; at = a.at ∙ sym same; has = a.has }))
    (λ (none : requests_awaited u.open_batches ≡ []). subst (AllByRecursion (IsAwaited ys u.leader p)) (sym none) tt)
    s.leader

-- where the requests stay that are live
pub awaited_live : (xs : List Request) (ts : List Partition) (p : ℕ) (t : Partition) → Shrinks t (partition_at p ts) → AreAwaited xs p t
    → AreAwaited (filter (is_live ts) xs) p (partition_at p ts)
awaited_live xs ts p t s = awaited_then xs (filter (is_live ts) xs) p t (partition_at p ts) s (λ k a c.
    let some = awaits_some k (partition_at p ts).open_batches (stands_in k _ c) in
    contains_filter (is_live ts) xs a.request a.there
    (lives ts a.request p a.has (subst (λ (n : ℕ). is_some (awaiting n (partition_at p ts)) ≡ true) (sym a.named) some)))

-- where more requests are in flight
pub awaited_more : (xs ys : List Request) (p : ℕ) (t : Partition) → ((r : Request) → asks_for_id r ≡ false → Contains xs r → Contains ys r) → AreAwaited xs p t → AreAwaited ys p t
awaited_more xs ys p t stay = all_weaker (IsAwaited xs t.leader p) (IsAwaited ys t.leader p)
    (λ k a. record { request = a.request; there = stay a.request (no_id a.request p a.has) a.there; named = a.named; at = a.at; has = a.has })
    (requests_awaited t.open_batches)

-- where those to a node are dropped
pub awaited_dropped : (node now : ℕ) (xs : List Request) (p : ℕ) (t : Partition) → AreAwaited xs p t
    → AreAwaited (filter (λ r. not (goes_to node r)) xs) p (drop_led node now t)
awaited_dropped node now xs p t h = at_leader (leads node t) refl
  where
    ys : List Request
    ys = filter (λ r. not (goes_to node r)) xs

    at_leader : (b : Bool) → leads node t ≡ b → AreAwaited ys p (if b then drop_attempts now t else t)
    at_leader true is = subst (AllByRecursion (IsAwaited ys t.leader p)) (sym (none_in_flight now t.open_batches)) tt
    at_leader false is = all_weaker (IsAwaited xs t.leader p) (IsAwaited ys t.leader p) (λ k a.
        let other : not (goes_to node a.request) ≡ true = ap (λ (n : ℕ). not (n == node)) a.at ∙ ap not is in
        record { request = a.request; there = contains_filter (λ r. not (goes_to node r)) xs a.request a.there other; named = a.named; at = a.at; has = a.has })
        (requests_awaited t.open_batches) h

-- ---- a batch goes out

-- those in flight of it, and the one in this request
sent_awaited : (Q : ℕ → Type 0) (k : ℕ) (t : Partition) → Q k → AllByRecursion Q (requests_awaited t.open_batches) → AllByRecursion Q (requests_awaited (send_in k t).open_batches)
unfolding hand_over_in
sent_awaited Q k t new old = at_send_in (λ u. AllByRecursion Q (requests_awaited u.open_batches)) k t (all_awaited Q k new t.open_batches old) (at_queue t.queue)
  where
    at_queue : (q : List Pending) → AllByRecursion Q (requests_awaited (hand_over_in k t q).open_batches)
    at_queue [] = old
    at_queue (front ∷ behind) = subst (AllByRecursion Q) (sym (flat_map-append awaited_of t.open_batches (opened_in k t front ∷ [])))
        (all_append Q (requests_awaited t.open_batches) (k ∷ []) old (new, tt))

sent_leader : (k : ℕ) (t : Partition) → (send_in k t).leader ≡ t.leader
unfolding hand_over_in
sent_leader k t = at_send_in (λ u. u.leader ≡ t.leader) k t refl (at_queue t.queue)
  where
    at_queue : (q : List Pending) → (hand_over_in k t q).leader ≡ t.leader
    at_queue [] = refl
    at_queue (front ∷ behind) = refl

-- the request with its batch went to its leader
pub awaited_sent : (k : ℕ) (ys : List Request) (p : ℕ) (t : Partition) → IsAwaited ys t.leader p k → AreAwaited ys p t → AreAwaited ys p (send_in k t)
awaited_sent k ys p t new old = subst (λ (n : ℕ). AllByRecursion (IsAwaited ys n p) (requests_awaited (send_in k t).open_batches)) (sym (sent_leader k t))
    (sent_awaited (IsAwaited ys t.leader p) k t new old)
