-- What a partition sends goes out, and the batches of a request are those that their partitions may send, each partition's once.
use Rattle.std.proofs.Common.{◌≡◌, ℕ, suc, ◌+◌, ◌-◌, ◌<◌, ◌≤◌, Bool, true, false, not, List, [], ◌∷◌, ◌++◌, length, get_or, take, drop, Some, None, refl, sym, ap, ◌∙◌, subst, arith, Contains}
use Rattle.std.specs.Prelude.{Option, if◌then◌else◌, option_map, filter_map, find, nat_le, ◌||◌, ◌&&◌, ◌==◌}
use Rattle.std.specs.List.{AllByRecursion, enumerate_from, cons_option}
use Rattle.std.proofs.lemmas.Bool.{and_parts, eqb-true, leb-true, ne_eqb}
use Rattle.std.proofs.lemmas.List.{append-nil, take-append-drop}
use Rattle.kp_wire.proofs.ListLemmas.{all_append, all_drop}
use Rattle.kp_accum.specs.declared.config.Config.{Config}
use Rattle.kp_accum.specs.declared.flags.Flags.{Flags}
use Rattle.kp_accum.specs.Queue.{Pending, size_of}
use Rattle.kp_accum.specs.Ready.{is_over, is_ready}
use Rattle.kp_rules.specs.Attempts.{has_window, is_id_asked, is_waiting, lowest_waiting}
use Rattle.kp_rules.specs.HandingOver.{again_in, hand_over_in, send_again_in, send_in}
use Rattle.kp_rules.specs.InOrder.{AreDistinct}
use Rattle.kp_rules.specs.MaySend.{is_rested, is_confirmed, is_in_span, is_within_limit, may_hand_over, new_batch, sends, wants_id}
use Rattle.kp_rules.specs.Next.{Sending, flags_of, used_up_to, in_turn, Choice, sends_to, sending_by, fitting, next_batches, next_asking, next_demand}
use Rattle.kp_rules.specs.Partitions.{partition_at, new_partition, is_in, leads}
use Rattle.kp_rules.specs.Records.{HandedBatch, Open, Partition, Demand, Produce, InitProducerId, Core}
use Rattle.kp_rules.specs.Requesting.{AsksOfLed, IsLed, partitions_in}
use Rattle.kp_rules.proofs.ListLemmas.{IsOther, all_back, all_filter_map, all_front, all_map, all_take, all_weaker, at_contained, contains_head, contains_tail, found, none_in}

-- ---- a batch goes out again

-- what holds of the open batches holds of them still
pub all_again : (P : HandedBatch → Type 0) (k : ℕ) (os : List Open) → AllByRecursion (λ (o : Open). P o.batch) os → AllByRecursion (λ (o : Open). P o.batch) (send_again_in k os)
unfolding send_again_in
all_again P k [] h = tt
all_again P k (o ∷ os) h = at_test (is_waiting o) (all_again P k os h.1)
  where
    at_test : (b : Bool) → AllByRecursion (λ (x : Open). P x.batch) (send_again_in k os) → AllByRecursion (λ (x : Open). P x.batch) (if b then again_in k o ∷ os else o ∷ send_again_in k os)
    at_test true rest = h
    at_test false rest = (h.0, rest)

abbrev pub sent_again : ℕ → Partition → Partition
sent_again k t = record t { open_batches = send_again_in k t.open_batches; attempts_sent = t.attempts_sent + 1 }

-- ---- what a partition sends is its lowest batch that waits, or a new one

abbrev sent_by : ℕ → Partition → Option Open → Partition
sent_by k t lowest = elim lowest [ Some o ↦ sent_again k t | None ↦ hand_over_in k t t.queue ]

pub at_send_in {ℓ} : (P : Partition → Type ℓ) (k : ℕ) (t : Partition) → P (sent_again k t) → P (hand_over_in k t t.queue) → P (send_in k t)
unfolding send_in
at_send_in P k t again first = at_waiting (lowest_waiting t)
  where
    at_waiting : (lowest : Option Open) → P (sent_by k t lowest)
    at_waiting (Some o) = again
    at_waiting None = first

-- Of the batch that is sent, and of the partition once it went out in request k:
pub record OfSends (P : HandedBatch → Partition → Type 0) (c : Config) (flags : Flags) (now k : ℕ) (t : Partition) : Type 0 where
  pub again : t.fenced ≡ false → (o : Open) → lowest_waiting t ≡ Some o → P o.batch (sent_again k t)
  pub first : t.fenced ≡ false → (front : Pending) (behind : List Pending) → t.queue ≡ front ∷ behind
      → may_hand_over c flags now t front ≡ true → P (new_batch t front) (hand_over_in k t (front ∷ behind))

pub handed_over : (c : Config) (flags : Flags) (now : ℕ) (t : Partition) (front : Pending) → may_hand_over c flags now t front ≡ true
    → (is_in_span c t.next_number t.open_batches ≡ true) × (t.next_sequence + length front.items ≤ c.sequence_limit)
unfolding is_within_limit
handed_over c flags now t front may =
    let limit = and_parts (is_ready c flags now t.queue && is_confirmed t && is_in_span c t.next_number t.open_batches) (is_within_limit c t front) may in
    ((and_parts (is_ready c flags now t.queue && is_confirmed t) (is_in_span c t.next_number t.open_batches) limit.0).1, leb-true _ _ limit.1)

abbrev by_queue : Config → Flags → ℕ → Partition → List Pending → Option HandedBatch
by_queue c flags now t queue = elim queue [ [] ↦ None | front ∷ behind ↦ if may_hand_over c flags now t front then Some (new_batch t front) else None ]

abbrev by_waiting : Config → Flags → ℕ → Partition → Option Open → Option HandedBatch
by_waiting c flags now t lowest = elim lowest [ Some o ↦ if is_rested c now o then Some o.batch else None | None ↦ by_queue c flags now t t.queue ]

pub at_sends : (P : HandedBatch → Partition → Type 0) (c : Config) (flags : Flags) (now k : ℕ) (t : Partition) → OfSends P c flags now k t
    → (b : HandedBatch) → sends c flags now t ≡ Some b → P b (send_in k t)
unfolding sends send_in
at_sends P c flags now k t cases b e = at_fence t.fenced refl e
  where
    at_may : t.fenced ≡ false → (front : Pending) (behind : List Pending) → t.queue ≡ front ∷ behind → (may : Bool)
        → may_hand_over c flags now t front ≡ may → (if may then Some (new_batch t front) else None) ≡ Some b → P b (hand_over_in k t (front ∷ behind))
    at_may f front behind is true may e' =
        let same : new_batch t front ≡ b = cc in subst (λ (x : HandedBatch). P x (hand_over_in k t (front ∷ behind))) same (cases.first f front behind is may)
    at_may f front behind is false may e' = absurd cc

    at_queue : t.fenced ≡ false → (queue : List Pending) → t.queue ≡ queue → by_queue c flags now t queue ≡ Some b → P b (hand_over_in k t queue)
    at_queue f [] is e' = absurd cc
    at_queue f (front ∷ behind) is e' = at_may f front behind is (may_hand_over c flags now t front) refl e'

    at_rest : t.fenced ≡ false → (o : Open) → lowest_waiting t ≡ Some o → (rested : Bool) → (if rested then Some o.batch else None) ≡ Some b → P b (sent_again k t)
    at_rest f o is true e' = let same : o.batch ≡ b = cc in subst (λ (x : HandedBatch). P x (sent_again k t)) same (cases.again f o is)
    at_rest f o is false e' = absurd cc

    at_waiting : t.fenced ≡ false → (lowest : Option Open) → lowest_waiting t ≡ lowest → by_waiting c flags now t lowest ≡ Some b → P b (sent_by k t lowest)
    at_waiting f None is e' = at_queue f t.queue refl e'
    at_waiting f (Some o) is e' = at_rest f o is (is_rested c now o) e'

    at_fence : (fenced : Bool) → t.fenced ≡ fenced → (if fenced then None else by_waiting c flags now t (lowest_waiting t)) ≡ Some b
        → P b (sent_by k t (lowest_waiting t))
    at_fence true is e' = absurd cc
    at_fence false is e' = at_waiting is (lowest_waiting t) refl e'

-- ---- the batches of a request

-- the partition is there, and may send this batch
pub record IsSent (now : ℕ) (s : Core) (x : Sending) : Type 0 where
  pub there : x.partition < length s.partitions
  pub sends : sends s.config (flags_of s) now (partition_at x.partition s.partitions) ≡ Some x.batch

pub record IsPlace {A : Type 0} (k : ℕ) (xs : List A) (d : A) (y : ℕ × A) : Type 0 where
  pub least : k ≤ y.0
  pub most : y.0 < k + length xs
  pub there : get_or xs (y.0 - k) d ≡ y.1

pub places : {A : Type 0} (k : ℕ) (xs : List A) (d : A) → AllByRecursion (IsPlace k xs d) (enumerate_from k xs)
places k [] d = tt
places {A = A} k (x ∷ xs) d =
    let here : k - k ≡ 0 = omega arith in (
      record { least = omega arith; most = omega arith; there = ap (λ (n : ℕ). get_or (x ∷ xs) n d) here },
      all_weaker (IsPlace (k + 1) xs d) (IsPlace k (x ∷ xs) d) later (enumerate_from (k + 1) xs)
          (places (k + 1) xs d),
    )
  where
    later : (y : ℕ × A) → IsPlace (k + 1) xs d y → IsPlace k (x ∷ xs) d y
    later y h =
        let l : k + 1 ≤ y.0 = h.least in
        let m : y.0 < k + 1 + length xs = h.most in
        let n : y.0 - k ≡ suc (y.0 - (k + 1)) = omega arith in
        record { least = omega arith; most = omega arith; there = ap (λ (i : ℕ). get_or (x ∷ xs) i d) n ∙ h.there }

pub all_fitting : (P : Sending → Type 0) (room : ℕ) (xs : List Sending) → AllByRecursion P xs
    → AllByRecursion P (fitting room xs)
unfolding fitting
all_fitting P room [] h = tt
all_fitting P room (x ∷ xs) h = at_test (nat_le (size_of x.batch.items) room)
    (all_fitting P (room - size_of x.batch.items) xs h.1)
  where
    at_test : (b : Bool) → AllByRecursion P (fitting (room - size_of x.batch.items) xs)
        → AllByRecursion P (if b then x ∷ fitting (room - size_of x.batch.items) xs else [])
    at_test true rest = (h.0, rest)
    at_test false rest = tt

-- what it sends to a node it sends by the choice
pub sends_what : (choice : Choice) (node : ℕ) (c : Config) (flags : Flags) (now : ℕ) (t : Partition) (b : HandedBatch)
    → sends_to node choice c flags now t ≡ Some b → choice c flags now t ≡ Some b
sends_what choice node c flags now t b e = at_leader (leads node t) e
  where
    at_leader : (led : Bool) → (if led then choice c flags now t else None) ≡ Some b → choice c flags now t ≡ Some b
    at_leader true e' = e'
    at_leader false e' = absurd cc

-- where it sends something to the node, the node leads it
led_by_it : (choice : Choice) (node : ℕ) (c : Config) (flags : Flags) (now : ℕ) (t : Partition) (b : HandedBatch)
    → sends_to node choice c flags now t ≡ Some b → leads node t ≡ true
led_by_it choice node c flags now t b e = at_leader (leads node t) refl e
  where
    at_leader : (led : Bool) → leads node t ≡ led → (if led then choice c flags now t else None) ≡ Some b → leads node t ≡ true
    at_leader true is e' = is
    at_leader false is e' = absurd cc

sending_is : (node now : ℕ) (s : Core) (y : ℕ × Partition) (x : Sending)
    → IsPlace 0 s.partitions (new_partition 0) y → sending_by sends node s now y ≡ Some x → IsSent now s x
sending_is node now s y x place e = at_option (sends_to node sends s.config (flags_of s) now y.1) refl e
  where
    at_option : (o : Option HandedBatch) → sends_to node sends s.config (flags_of s) now y.1 ≡ o
        → option_map (λ b. record { partition = y.0; batch = b }) o ≡ Some x → IsSent now s x
    at_option None is e' = absurd cc
    at_option (Some b) is e' =
        let made : (record { partition = y.0; batch = b }) ≡ x = cc in
        let at : y.0 - 0 ≡ y.0 = omega arith in
        let same : partition_at y.0 s.partitions
        ≡ y.1 = ap (λ (n : ℕ). partition_at n s.partitions) (sym at) ∙ place.there in
        let within : y.0 < length s.partitions = omega (arith, place.most) in
        subst (IsSent now s) made (record {
          there = within;
          sends = ap (λ (t : Partition). sends s.config (flags_of s) now t) same
              ∙ sends_what sends node s.config (flags_of s) now y.1 b is;
        })

-- what all partitions send, in turn
pub all_sending : (node now : ℕ) (s : Core) → AllByRecursion (IsSent now s) (filter_map (sending_by sends node s now) (in_turn node s))
all_sending node now s =
    let all : AllByRecursion (IsPlace 0 s.partitions (new_partition 0))
    (enumerate_from 0 s.partitions) = places 0 s.partitions (new_partition 0) in
    let n = used_up_to node s.turns in
    all_filter_map (IsSent now s) (IsPlace 0 s.partitions (new_partition 0)) (sending_by sends node s now)
    (sending_is node now s) (in_turn node s)
    (all_append (IsPlace 0 s.partitions (new_partition 0)) (drop n (enumerate_from 0 s.partitions))
    (take n (enumerate_from 0 s.partitions))
    (all_drop (IsPlace 0 s.partitions (new_partition 0)) n (enumerate_from 0 s.partitions) all)
    (all_take (IsPlace 0 s.partitions (new_partition 0)) n (enumerate_from 0 s.partitions) all))

all_sent : (node now : ℕ) (s : Core) → AllByRecursion (IsSent now s) (next_batches node now s)
unfolding next_batches
all_sent node now s =
    all_fitting (IsSent now s) s.config.max_request_size (filter_map (sending_by sends node s now) (in_turn node s)) (all_sending node now s)

-- ---- the next demand

abbrev by_batches : List Sending → Option (Demand Sending)
by_batches xs = elim xs [ [] ↦ None | x ∷ others ↦ Some (Produce (x ∷ others)) ]

abbrev by_asking : List Sending → Option ℕ → Option (Demand Sending)
by_asking xs o = elim o [ Some p ↦ Some (InitProducerId p) | None ↦ by_batches xs ]

-- its batches are the next ones
pub demand_is_next : (node now : ℕ) (s : Core) (xs : List Sending) → next_demand node now s ≡ Some (Produce xs) → next_batches node now s ≡ xs
unfolding next_demand
demand_is_next node now s xs e = at_window (not (has_window node s)) e
  where
    at_batches : (ys : List Sending) → by_batches ys ≡ Some (Produce xs) → ys ≡ xs
    at_batches [] e' = absurd cc
    at_batches (y ∷ ys) e' = cc

    at_asking : (o : Option ℕ) → by_asking (next_batches node now s) o ≡ Some (Produce xs) → next_batches node now s ≡ xs
    at_asking None e' = at_batches (next_batches node now s) e'
    at_asking (Some p) e' = absurd cc

    at_window : (b : Bool) → (if b then None else by_asking (next_batches node now s) (next_asking node now s)) ≡ Some (Produce xs) → next_batches node now s ≡ xs
    at_window false e' = at_asking (next_asking node now s) e'
    at_window true e' = absurd cc

pub demand_is_sent : (node now : ℕ) (s : Core) (xs : List Sending) → next_demand node now s ≡ Some (Produce xs) → AllByRecursion (IsSent now s) xs
demand_is_sent node now s xs e = subst (AllByRecursion (IsSent now s)) (demand_is_next node now s xs e) (all_sent node now s)

-- ---- the node leads the partitions of a request

sending_led : (node now : ℕ) (s : Core) (y : ℕ × Partition) (x : Sending)
    → IsPlace 0 s.partitions (new_partition 0) y → sending_by sends node s now y ≡ Some x → IsLed node s x
sending_led node now s y x place e = at_option (sends_to node sends s.config (flags_of s) now y.1) refl e
  where
    at_option : (o : Option HandedBatch) → sends_to node sends s.config (flags_of s) now y.1 ≡ o
        → option_map (λ b. record { partition = y.0; batch = b }) o ≡ Some x → IsLed node s x
    at_option None is e' = absurd cc
    at_option (Some b) is e' =
        let made : (record { partition = y.0; batch = b }) ≡ x = cc in
        let at : y.0 - 0 ≡ y.0 = omega arith in
        let same : partition_at y.0 s.partitions ≡ y.1 = ap (λ (n : ℕ). partition_at n s.partitions) (sym at) ∙ place.there in
        subst (IsLed node s) made (ap (leads node) same ∙ led_by_it sends node s.config (flags_of s) now y.1 b is)

all_led : (node now : ℕ) (s : Core) → AllByRecursion (IsLed node s) (next_batches node now s)
unfolding next_batches
all_led node now s =
    let all = places 0 s.partitions (new_partition 0) in
    let n = used_up_to node s.turns in
    all_fitting (IsLed node s) s.config.max_request_size (filter_map (sending_by sends node s now) (in_turn node s))
    (all_filter_map (IsLed node s) (IsPlace 0 s.partitions (new_partition 0)) (sending_by sends node s now)
    (sending_led node now s) (in_turn node s)
    (all_append (IsPlace 0 s.partitions (new_partition 0)) (drop n (enumerate_from 0 s.partitions))
    (take n (enumerate_from 0 s.partitions))
    (all_drop (IsPlace 0 s.partitions (new_partition 0)) n (enumerate_from 0 s.partitions) all)
    (all_take (IsPlace 0 s.partitions (new_partition 0)) n (enumerate_from 0 s.partitions) all)))

pub demand_is_led : (node now : ℕ) (s : Core) (xs : List Sending) → next_demand node now s ≡ Some (Produce xs) → AllByRecursion (IsLed node s) xs
demand_is_led node now s xs e = subst (AllByRecursion (IsLed node s)) (demand_is_next node now s xs e) (all_led node now s)

-- nor is an id asked for at another node
asking_led : (node now p : ℕ) (s : Core) → next_asking node now s ≡ Some p → leads node (partition_at p s.partitions) ≡ true
asking_led node now p s e =
    at_turn (not (is_id_asked s) && elim s.id_waits [ None ↦ true | Some since ↦ is_over since s.config.retry_backoff_ms now ]) e
  where
    test : (ℕ × Partition) → Bool
    test x = leads node x.1 && wants_id s.config x.1

    at_found : (o : Option (ℕ × Partition)) → find test (enumerate_from 0 s.partitions) ≡ o → option_map (λ x. x.0) o ≡ Some p
        → leads node (partition_at p s.partitions) ≡ true
    at_found None is e' = absurd cc
    at_found (Some y) is e' =
        let named : y.0 ≡ p = cc in
        let it = found test (enumerate_from 0 s.partitions) y is in
        let place = at_contained (IsPlace 0 s.partitions (new_partition 0)) (enumerate_from 0 s.partitions) y (places 0 s.partitions (new_partition 0)) it.0 in
        let at : p - 0 ≡ p = omega arith in
        let same : partition_at p s.partitions ≡ y.1 =
        ap (λ (n : ℕ). partition_at n s.partitions) (sym at ∙ ap (λ (n : ℕ). n - 0) (sym named)) ∙ place.there in
        ap (leads node) same ∙ (and_parts (leads node y.1) (wants_id s.config y.1) it.1).0

    at_turn : (b : Bool) → (if b then option_map (λ x. x.0) (find (λ x. leads node x.1 && wants_id s.config x.1) (enumerate_from 0 s.partitions)) else None) ≡ Some p
        → leads node (partition_at p s.partitions) ≡ true
    at_turn true e' = at_found (find test (enumerate_from 0 s.partitions)) refl e'
    at_turn false e' = absurd cc

-- what the next request asks for is the node's
pub asks_of_led : (node now : ℕ) (s : Core) (d : Demand Sending) → next_demand node now s ≡ Some d → AsksOfLed node s d
unfolding next_demand
asks_of_led node now s (Produce xs) e = demand_is_led node now s xs e
asks_of_led node now s (InitProducerId p) e = at_window (not (has_window node s)) e
  where
    at_batches : (ys : List Sending) → by_batches ys ≡ Some (InitProducerId p) → leads node (partition_at p s.partitions) ≡ true
    at_batches [] e' = absurd cc
    at_batches (y ∷ ys) e' = absurd cc

    at_asking : (o : Option ℕ) → next_asking node now s ≡ o → by_asking (next_batches node now s) o ≡ Some (InitProducerId p)
        → leads node (partition_at p s.partitions) ≡ true
    at_asking None is e' = at_batches (next_batches node now s) e'
    at_asking (Some q) is e' = let same : q ≡ p = cc in asking_led node now p s (is ∙ ap Some same)

    at_window : (b : Bool) → (if b then None else by_asking (next_batches node now s) (next_asking node now s)) ≡ Some (InitProducerId p)
        → leads node (partition_at p s.partitions) ≡ true
    at_window false e' = at_asking (next_asking node now s) refl e'
    at_window true e' = absurd cc

-- ---- lists of which no two have one key

abbrev Differ : {A : Type 0} (key : A → ℕ) → A → A → Type 0
Differ key x y = key x ≡ key y → ⊥

abbrev Apart : {A : Type 0} (key : A → ℕ) → List A → Type 0
Apart key [] = Unit {0}
Apart key (x ∷ xs) = AllByRecursion (Differ key x) xs × Apart key xs

apart_last : {A : Type 0} (key : A → ℕ) (ys : List A) (x : A) (xs : List A) → AllByRecursion (Differ key x) ys → AllByRecursion (Differ key x) xs → Apart key (ys ++ xs) → Apart key (ys ++ x ∷ xs)
apart_last key [] x xs a b h = (b, h)
apart_last key (y ∷ ys) x xs a b h = (
  all_append (Differ key y) ys (x ∷ xs) (all_front (Differ key y) ys xs h.0) ((λ (e : key y ≡ key x). a.0 (sym e)), all_back (Differ key y) ys xs h.0),
  apart_last key ys x xs a.1 b h.1,
)

-- what stands first may stand last
apart_turned : {A : Type 0} (key : A → ℕ) (xs ys : List A) → Apart key (xs ++ ys) → Apart key (ys ++ xs)
apart_turned key [] ys h = subst (Apart key) (sym (append-nil ys)) h
apart_turned key (x ∷ xs) ys h = apart_last key ys x xs (all_back (Differ key x) xs ys h.0) (all_front (Differ key x) xs ys h.0) (apart_turned key xs ys h.1)

places_apart : (k : ℕ) (xs : List Partition) → Apart (λ (y : ℕ × Partition). y.0) (enumerate_from k xs)
places_apart k [] = tt
places_apart k (x ∷ xs) = (
  all_weaker (IsPlace (k + 1) xs (new_partition 0)) (λ (y : ℕ × Partition). k ≡ y.0 → ⊥) (λ y place e. omega (arith, place.least, e)) (enumerate_from (k + 1) xs) (places (k + 1) xs (new_partition 0)),
  places_apart (k + 1) xs,
)

-- ---- each partition's batch is in a request once

abbrev place : ℕ × Partition → ℕ
place y = y.0

abbrev partition_of : Sending → ℕ
partition_of x = x.partition

sending_place : (node now : ℕ) (s : Core) (y : ℕ × Partition) (x : Sending) → sending_by sends node s now y ≡ Some x → x.partition ≡ y.0
sending_place node now s y x e = at_option (sends_to node sends s.config (flags_of s) now y.1) e
  where
    at_option : (o : Option HandedBatch) → option_map (λ b. record { partition = y.0; batch = b }) o ≡ Some x → x.partition ≡ y.0
    at_option None e' = absurd cc
    at_option (Some b) e' = let made : (record { partition = y.0; batch = b }) ≡ x = cc in sym (ap (λ (z : Sending). z.partition) made)

differ_all : (node now : ℕ) (s : Core) (y : ℕ × Partition) (x : Sending) → x.partition ≡ y.0 → (ys : List (ℕ × Partition)) → AllByRecursion (Differ place y) ys
    → AllByRecursion (Differ partition_of x) (filter_map (sending_by sends node s now) ys)
differ_all node now s y x e ys h =
    all_filter_map (Differ partition_of x) (Differ place y) (sending_by sends node s now) (λ z u apart is same. apart (sym e ∙ same ∙ sending_place node now s z u is)) ys h

sendings_apart : (node now : ℕ) (s : Core) (ys : List (ℕ × Partition)) → Apart place ys → Apart partition_of (filter_map (sending_by sends node s now) ys)
sendings_apart node now s [] h = tt
sendings_apart node now s (y ∷ ys) h = at_option (sending_by sends node s now y) refl (sendings_apart node now s ys h.1)
  where
    at_option : (o : Option Sending) → sending_by sends node s now y ≡ o → Apart partition_of (filter_map (sending_by sends node s now) ys)
        → Apart partition_of (cons_option o (filter_map (sending_by sends node s now) ys))
    at_option None is rest = rest
    at_option (Some x) is rest = (differ_all node now s y x (sending_place node now s y x is) ys h.0, rest)

fitting_apart : (room : ℕ) (xs : List Sending) → Apart partition_of xs → Apart partition_of (fitting room xs)
unfolding fitting
fitting_apart room [] h = tt
fitting_apart room (x ∷ xs) h = at_test (nat_le (size_of x.batch.items) room) (all_fitting (Differ partition_of x) (room - size_of x.batch.items) xs h.0) (fitting_apart (room - size_of x.batch.items) xs h.1)
  where
    at_test : (b : Bool) → AllByRecursion (Differ partition_of x) (fitting (room - size_of x.batch.items) xs) → Apart partition_of (fitting (room - size_of x.batch.items) xs)
        → Apart partition_of (if b then x ∷ fitting (room - size_of x.batch.items) xs else [])
    at_test true all rest = (all, rest)
    at_test false all rest = tt

not_among : (x : Sending) (xs : List Sending) → AllByRecursion (Differ partition_of x) xs → is_in x.partition (partitions_in xs) ≡ false
not_among x xs h = none_in x.partition (partitions_in xs)
    (all_map (Differ partition_of x) (IsOther x.partition) partition_of (λ y apart. ne_eqb y.partition x.partition (λ e. apart (sym e))) xs h)

distinct : (xs : List Sending) → Apart partition_of xs → AreDistinct (partitions_in xs)
distinct [] h = tt
distinct (x ∷ xs) h = (not_among x xs h.0, distinct xs h.1)

batches_apart : (node now : ℕ) (s : Core) → Apart partition_of (next_batches node now s)
unfolding next_batches
batches_apart node now s =
    let n = used_up_to node s.turns in
    let all : List (ℕ × Partition) = enumerate_from 0 s.partitions in
    let whole : Apart place (take n all ++ drop n all) = subst (Apart place) (sym (take-append-drop n all)) (places_apart 0 s.partitions) in
    fitting_apart s.config.max_request_size (filter_map (sending_by sends node s now) (in_turn node s)) (sendings_apart node now s (in_turn node s) (apart_turned place (take n all) (drop n all) whole))

pub demand_is_distinct : (node now : ℕ) (s : Core) (xs : List Sending) → next_demand node now s ≡ Some (Produce xs) → AreDistinct (partitions_in xs)
demand_is_distinct node now s xs e = distinct xs (subst (Apart partition_of) (demand_is_next node now s xs e) (batches_apart node now s))

-- ---- the batch of a partition that a request has

pub record HasPart (xs : List Sending) (p : ℕ) : Type 0 where
  pub it : Sending
  pub has : Contains xs it
  pub own : it.partition ≡ p

pub has_part : (xs : List Sending) (p : ℕ) → is_in p (partitions_in xs) ≡ true → HasPart xs p
has_part [] p e = absurd cc
has_part (y ∷ xs) p e = at_test (y.partition == p) refl e (has_part xs p)
  where
    at_test : (b : Bool) → (y.partition == p) ≡ b → b || is_in p (partitions_in xs) ≡ true → (is_in p (partitions_in xs) ≡ true → HasPart xs p)
        → HasPart (y ∷ xs) p
    at_test true is e' later = record { it = y; has = contains_head y xs; own = eqb-true y.partition p is }
    at_test false is e' later = let l = later e' in record { it = l.it; has = contains_tail l.it y xs l.has; own = l.own }
