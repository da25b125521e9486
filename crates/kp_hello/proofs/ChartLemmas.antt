-- Who leads each partition, found by going over the partitions once.
use Rattle.std.proofs.Common.{◌≡◌, ℕ, zero, suc, ◌+◌, ◌<◌, ◌≤◌, Bool, true, false, cond, List, [], ◌∷◌, ◌++◌, length, take, get_or, map, ℤ, pos, Option, Some, None, refl, sym, ap, subst, ◌∙◌, inl, inr, arith, append-nil}
use Rattle.std.specs.Prelude.{count_by, ◌&&◌, nat_le}
use Rattle.std.specs.List.{filter_map, find, range_with_len}
use Rattle.std.specs.Option.{option_and_then, option_or}
use Rattle.std.proofs.Math.ListN.{replicate, set, length-set}
use Rattle.std.proofs.lemmas.Bool.{cases_eq, leb-true}
use Rattle.std.proofs.lemmas.Bool.Decides.{Decides-int_eq}
use Rattle.std.proofs.lemmas.List.{ext_get_or, get_or-set_same, get_or-set_other, take_all, take_more}
use Rattle.std.proofs.lemmas.List.Elements.{filter_map-append}
use Rattle.std.proofs.lemmas.List.Folds.{find-append}
use Rattle.std.proofs.lemmas.List.FromFn.{get_or-map-range_with_len, length-map-range_with_len}
use Rattle.std.proofs.lemmas.List.Sums.{sum_by-cons, sum_by_more_le}
use Rattle.kp_frames.specs.declared.metadata.Broker.{Broker}
use Rattle.kp_frames.specs.declared.metadata.PartitionMetadata.{PartitionMetadata}
use Rattle.kp_hello.specs.declared.chart.Node.{Node}
use Rattle.kp_hello.specs.declared.hello.TheConstants.{PARTITION_LIMIT}
use Rattle.kp_hello.specs.Chart.{leader_at, leader_of, leaders_of, node_of, nodes_of}
use Rattle.kp_hello.specs.Hello.{are_numbered, each_once, has_number}
use Rattle.kp_hello.proofs.NumberLemmas.{hit, hit_same, once}

-- ---- the nodes

-- one broker more, with a port
pub node_more : (brokers : List Broker) (i : ℕ) (d : Broker) (node : Node) → i < length brokers → Some node ≡ node_of (get_or brokers i d)
    → nodes_of (take i brokers) ++ node ∷ [] ≡ nodes_of (take (i + 1) brokers)
node_more brokers i d node lt is =
    let cut : filter_map node_of (take (i + 1) brokers) ≡ filter_map node_of (take i brokers ++ get_or brokers i d ∷ []) = ap (filter_map node_of) (take_more brokers i d lt) in
    let split = filter_map-append node_of (take i brokers) (get_or brokers i d ∷ []) in
    sym (cut ∙ split ∙ ap (λ xs. nodes_of (take i brokers) ++ xs) (one (node_of (get_or brokers i d)) (sym is)))
  where
    one : (found : Option Node) → found ≡ Some node → filter_map node_of (get_or brokers i d ∷ []) ≡ node ∷ []
    one found e = rw (← is) refl

-- and one without
pub node_none : (brokers : List Broker) (i : ℕ) (d : Broker) → i < length brokers → None ≡ node_of (get_or brokers i d)
    → nodes_of (take i brokers) ≡ nodes_of (take (i + 1) brokers)
node_none brokers i d lt is =
    let cut : filter_map node_of (take (i + 1) brokers) ≡ filter_map node_of (take i brokers ++ get_or brokers i d ∷ []) = ap (filter_map node_of) (take_more brokers i d lt) in
    let split = filter_map-append node_of (take i brokers) (get_or brokers i d ∷ []) in
    sym (cut ∙ split ∙ rw (← is) (append-nil (nodes_of (take i brokers))))

-- ---- each number once

and_last : (a b c : Bool) → (a && b && c) ≡ true → c ≡ true
and_last true true c e = e
and_last true false c e = cc
and_last false b c e = cc

pub each_number : (ps : List PartitionMetadata) → are_numbered ps ≡ true → (k : ℕ) → k < length ps → count_by (has_number k) ps ≡ 1
each_number ps numbered =
    (once (length ps) ps).0 (and_last (nat_le 1 (length ps)) (nat_le (length ps) PARTITION_LIMIT) (each_once (length ps) ps) numbered)

find_none : (k : ℕ) (ps : List PartitionMetadata) → count_by (has_number k) ps ≡ 0 → find (has_number k) ps ≡ None
find_none k [] h = refl
find_none k (p ∷ ps) h = at (has_number k p) refl (λ none. find_none k ps none)
  where
    more : count_by (has_number k) (p ∷ ps) ≡ hit k p + count_by (has_number k) ps
    more = sum_by-cons (hit k) p ps

    at : (b : Bool) → has_number k p ≡ b → (count_by (has_number k) ps ≡ 0 → find (has_number k) ps ≡ None) → find (has_number k) (p ∷ ps) ≡ None
    at true e later =
        let one : hit k p ≡ 1 = ap (λ (b : Bool). cond {A = ℕ} b 1 0) e in
        absurd (omega (arith, more, h))
    at false e later = rw e (later (omega (arith, more, h)))

-- ---- the leaders of the first i partitions

pub record Led (nodes : List Node) (ps : List PartitionMetadata) (i : ℕ) (leaders : List (Option ℤ)) : Type 0 where
  pub room : length leaders ≡ length ps
  pub each : (k : ℕ) → k < length ps → get_or leaders k None ≡ leader_at nodes (take i ps) k

pub no_leaders : (n k : ℕ) → ◌≡◌ {A = Option ℤ} (get_or (replicate n None) k None) None
no_leaders zero k = refl
no_leaders (suc n) zero = refl
no_leaders (suc n) (suc k) = no_leaders n k

pub led_none : (nodes : List Node) (ps : List PartitionMetadata) (leaders : List (Option ℤ)) → length leaders ≡ length ps → ((k : ℕ) → get_or leaders k None ≡ None) → Led nodes ps 0 leaders
led_none nodes ps leaders room none = record { room = room; each = λ k lt. none k }

-- what one partition more says of number k
leader_more : (nodes : List Node) (ps : List PartitionMetadata) (i k : ℕ) (d : PartitionMetadata) → i < length ps
    → leader_at nodes (take (i + 1) ps) k ≡ option_and_then (leader_of nodes) (option_or (find (has_number k) (take i ps)) (find (has_number k) (get_or ps i d ∷ [])))
leader_more nodes ps i k d lt =
    ap (λ xs. option_and_then (leader_of nodes) (find (has_number k) xs)) (take_more ps i d lt)
    ∙ ap (option_and_then (leader_of nodes)) (find-append (has_number k) (take i ps) (get_or ps i d ∷ []))

or_none : {A : Type 0} (o : Option A) → option_or o None ≡ o
or_none None = refl
or_none (Some x) = refl

-- nothing, where its number is another
leader_other : (nodes : List Node) (ps : List PartitionMetadata) (i k : ℕ) (d : PartitionMetadata) → i < length ps → ((get_or ps i d).partition ≡ pos k → ⊥)
    → leader_at nodes (take (i + 1) ps) k ≡ leader_at nodes (take i ps) k
leader_other nodes ps i k d lt ne = leader_more nodes ps i k d lt ∙ at (has_number k (get_or ps i d)) refl
  where
    at : (b : Bool) → has_number k (get_or ps i d) ≡ b
        → option_and_then (leader_of nodes) (option_or (find (has_number k) (take i ps)) (find (has_number k) (get_or ps i d ∷ []))) ≡ leader_at nodes (take i ps) k
    at true e = absurd (ne ((Decides-int_eq (get_or ps i d).partition (pos k)).0 e))
    at false e = rw e (ap (option_and_then (leader_of nodes)) (or_none (find (has_number k) (take i ps))))

-- its leader, where it is its number and no other's before it
leader_same : (nodes : List Node) (ps : List PartitionMetadata) (i k : ℕ) (d : PartitionMetadata) → i < length ps → (get_or ps i d).partition ≡ pos k → count_by (has_number k) ps ≡ 1
    → leader_at nodes (take (i + 1) ps) k ≡ leader_of nodes (get_or ps i d)
leader_same nodes ps i k d lt is one = leader_more nodes ps i k d lt ∙ rw (before, has) refl
  where
    has : has_number k (get_or ps i d) ≡ true
    has = (Decides-int_eq (get_or ps i d).partition (pos k)).1 is

    before : find (has_number k) (take i ps) ≡ None
    before =
        let two : count_by (has_number k) (take i ps) + hit k (get_or ps i d) ≤ count_by (has_number k) ps = sum_by_more_le (hit k) ps i d lt in
        let here : hit k (get_or ps i d) ≡ 1 = hit_same k (get_or ps i d) is in
        find_none k (take i ps) (omega (arith, two, here, one))

pos_same : (a b : ℕ) → pos a ≡ pos b → a ≡ b
pos_same a b h = cc

-- one partition more, whose number is a place
pub led_more : (nodes : List Node) (ps : List PartitionMetadata) (i place : ℕ) (leaders : List (Option ℤ)) (d : PartitionMetadata) → are_numbered ps ≡ true → Led nodes ps i leaders → i < length ps
    → (get_or ps i d).partition ≡ pos place → place < length ps → Led nodes ps (i + 1) (set leaders place (leader_of nodes (get_or ps i d)))
led_more nodes ps i place leaders d numbered led lt is below = record {
  room = length-set leaders place (leader_of nodes (get_or ps i d)) ∙ led.room;
  each = λ k under.
      elim (cases_eq k place) [
        | inl same ↦
            let room' : place < length leaders = omega (arith, led.room) in
            let mark : get_or (set leaders place (leader_of nodes (get_or ps i d))) k None ≡ leader_of nodes (get_or ps i d) =
            ap (λ (j : ℕ). get_or (set leaders place (leader_of nodes (get_or ps i d))) j None) same ∙ get_or-set_same leaders place (leader_of nodes (get_or ps i d)) None room' in
            mark ∙ sym (leader_same nodes ps i k d lt (is ∙ ap pos (sym same)) (each_number ps numbered k under))
        | inr other ↦
            let mark : get_or (set leaders place (leader_of nodes (get_or ps i d))) k None ≡ get_or leaders k None = get_or-set_other leaders place k (leader_of nodes (get_or ps i d)) None other in
            mark ∙ led.each k under ∙ sym (leader_other nodes ps i k d lt (λ e. other (pos_same k place (sym e ∙ is))))
      ];
}

-- and one whose number is none
pub led_outside : (nodes : List Node) (ps : List PartitionMetadata) (i : ℕ) (leaders : List (Option ℤ)) (d : PartitionMetadata) → Led nodes ps i leaders → i < length ps
    → ((k : ℕ) → k < length ps → (get_or ps i d).partition ≡ pos k → ⊥) → Led nodes ps (i + 1) leaders
led_outside nodes ps i leaders d led lt outside = record {
  room = led.room;
  each = λ k under. led.each k under ∙ sym (leader_other nodes ps i k d lt (outside k under));
}

-- all of them
pub led_all : (nodes : List Node) (ps : List PartitionMetadata) (leaders : List (Option ℤ)) → Led nodes ps (length ps) leaders → leaders ≡ leaders_of nodes ps
led_all nodes ps leaders led =
    let n = length ps in
    let f = leader_at nodes ps in
    let len : length leaders ≡ length (map f (range_with_len 0 n)) = led.room ∙ sym (length-map-range_with_len f 0 n) in
    ext_get_or None leaders (map f (range_with_len 0 n)) len (λ k lt.
    let under : k < n = omega (arith, led.room) in
    led.each k under ∙ ap (λ xs. leader_at nodes xs k) (take_all n ps (omega arith)) ∙ sym (get_or-map-range_with_len f 0 n k k None under (omega arith)))

-- ---- how many

and_first : (a b c : Bool) → (a && b && c) ≡ true → a ≡ true
and_first true b c e = refl
and_first false b c e = cc

and_second : (a b c : Bool) → (a && b && c) ≡ true → b ≡ true
and_second true true c e = refl
and_second true false c e = cc
and_second false b c e = cc

pub some_leaders : (nodes : List Node) (ps : List PartitionMetadata) → are_numbered ps ≡ true → 1 ≤ length (leaders_of nodes ps)
some_leaders nodes ps numbered =
    let some : 1 ≤ length ps = leb-true 1 (length ps) (and_first (nat_le 1 (length ps)) (nat_le (length ps) PARTITION_LIMIT) (each_once (length ps) ps) numbered) in
    let same = length-map-range_with_len (leader_at nodes ps) 0 (length ps) in
    omega arith

pub few_leaders : (nodes : List Node) (ps : List PartitionMetadata) → are_numbered ps ≡ true → length (leaders_of nodes ps) ≤ 1024
few_leaders nodes ps numbered =
    let few : length ps ≤ 1024 = leb-true (length ps) PARTITION_LIMIT (and_second (nat_le 1 (length ps)) (nat_le (length ps) PARTITION_LIMIT) (each_once (length ps) ps) numbered) in
    let same = length-map-range_with_len (leader_at nodes ps) 0 (length ps) in
    omega arith
