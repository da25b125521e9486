-- What a partition of a core in order may send has a place.
use Rattle.std.proofs.Common.{◌≡◌, ◌∙◌, ℕ, suc, ◌+◌, ◌-◌, ◌<◌, ◌≤◌, ◌^◌, Bool, true, false, List, [], ◌∷◌, length, map, Some, None, Ok, refl, sym, ap, subst, arith}
use Rattle.std.specs.Prelude.{Option, if◌then◌else◌, nat_le, nat_lt, slice_get, ◌&&◌}
use Rattle.std.specs.List.{AllByRecursion}
use Rattle.std.proofs.lemmas.Bool.{and_parts}
use Rattle.std.proofs.lemmas.Bool.Decides.{nat_tests}
use Rattle.kp_accum.specs.declared.config.Config.{Config}
use Rattle.kp_accum.specs.declared.flags.Flags.{Flags}
use Rattle.kp_accum.specs.Config.{checked, is_outside}
use Rattle.kp_accum.specs.Queue.{Pending}
use Rattle.kp_rules.specs.Attempts.{lowest_waiting}
use Rattle.kp_rules.specs.InOrder.{AreRising, IsOpenOf, IsPartition}
use Rattle.kp_accum.specs.Ready.{is_ready}
use Rattle.kp_rules.specs.MaySend.{is_confirmed, is_in_span, is_within_limit, may_hand_over, new_batch, sends}
use Rattle.kp_rules.specs.Records.{HandedBatch, Open, Partition}
use Rattle.kp_rules.proofs.OrderedCallLemmas.{has_bounds}
use Rattle.kp_parts.specs.PartitionRooms.{front_fits, has_place}
use Rattle.kp_parts.proofs.SendsLemmas.{sends-fenced, sends-front, sends-nothing}
use Rattle.kp_core.specs.Choosing.{MayGoOut}

pub window_limit : (c : Config) → checked c ≡ Ok tt → c.max_in_flight_requests_per_connection ≤ 5
unfolding checked is_outside
window_limit c e = grind (arith, nat_tests)

-- ---- open batches

-- there are no more of them than numbers from the lowest one's on
span : (n : ℕ) (m : ℕ) (ms : List ℕ) → AreRising (m ∷ ms) → AllByRecursion (λ k. k < n) (m ∷ ms) → length (m ∷ ms) ≤ n - m
span n m [] rising below = let here : m < n = below.0 in omega arith
span n m (k ∷ ms) rising below =
    let here : m < k = rising.0.0 in
    let there : k < n = below.1.0 in
    let rest : length (k ∷ ms) ≤ n - k = span n k ms rising.1 below.1 in
    omega arith

numbers_below : (c : Config) (senders p : ℕ) (t : Partition) (os : List Open) → AllByRecursion (IsOpenOf c senders p t) os
    → AllByRecursion (λ k. k < t.next_number) (map (λ (o : Open). o.batch.number) os)
numbers_below c senders p t [] h = tt
numbers_below c senders p t (o ∷ os) h = (h.0.number, numbers_below c senders p t os h.1)

few_open : (c : Config) (senders p : ℕ) (t : Partition) → checked c ≡ Ok tt → AllByRecursion (IsOpenOf c senders p t) t.open_batches
    → AreRising (map (λ (o : Open). o.batch.number) t.open_batches) → is_in_span c t.next_number t.open_batches ≡ true → length t.open_batches < 5
unfolding is_in_span
few_open c senders p t ok h rising e = at_opens t.open_batches h rising e
  where
    within : (n m : ℕ) → nat_lt n m ≡ true → n < m
    within n m f = grind (arith, nat_tests)

    mapped : (os : List Open) → length (map (λ (o : Open). o.batch.number) os) ≡ length os
    mapped [] = refl
    mapped (o ∷ os) = ap suc (mapped os)

    at_opens : (os : List Open) → AllByRecursion (IsOpenOf c senders p t) os → AreRising (map (λ (o : Open). o.batch.number) os)
        → is_in_span c t.next_number os ≡ true → length os < 5
    at_opens [] g r f = omega arith
    at_opens (o ∷ os) g r f =
        let near : t.next_number - o.batch.number < c.max_in_flight_requests_per_connection = within _ _ f in
        let many = span t.next_number o.batch.number (map (λ (x : Open). x.batch.number) os) r (numbers_below c senders p t (o ∷ os) g) in
        omega (arith, near, many, mapped os, window_limit c ok)

-- ---- what goes out

fits_front : (c : Config) (t : Partition) (q : List Pending) → c.sequence_limit ≤ 2147483648
    → ((front : Pending) → slice_get q 0 ≡ Some front → is_within_limit c t front ≡ true) → front_fits t.next_sequence q ≡ true
unfolding is_within_limit
fits_front c t [] limit h = refl
fits_front c t (front ∷ behind) limit h = within (t.next_sequence + length front.items) (h front refl)
  where
    within : (n : ℕ) → nat_le n c.sequence_limit ≡ true → nat_le n (2 ^ 31) ≡ true
    within n e = grind (arith, nat_tests)

has_place-by : (t : Partition) → nat_lt t.attempts_sent (2 ^ 63) ≡ true → nat_lt (length t.open_batches) 5 ≡ true → nat_lt t.next_number (2 ^ 31) ≡ true
    → front_fits t.next_sequence t.queue ≡ true → has_place t ≡ true
unfolding has_place
has_place-by t a b d e = rw (a, b, d, e) refl

pub may_go_out : (c : Config) (flags : Flags) (now senders k p : ℕ) (t : Partition) (b : HandedBatch) → checked c ≡ Ok tt → k < 2 ^ 31
    → IsPartition c senders k p t → sends c flags now t ≡ Some b → MayGoOut t
may_go_out c flags now senders k p t b ok small is e = record {
  attempts = omega (arith, is.sent);
  place = λ none. at_fence t.fenced refl none;
}
  where
    test : (n m : ℕ) → n < m → nat_lt n m ≡ true
    test n m l = grind (arith, nat_tests)

    at_may : (front : Pending) → slice_get t.queue 0 ≡ Some front → may_hand_over c flags now t front ≡ true → has_place t ≡ true
    at_may front first may =
        let parts = and_parts (is_ready c flags now t.queue && is_confirmed t && is_in_span c t.next_number t.open_batches) (is_within_limit c t front) may in
        let rest = and_parts (is_ready c flags now t.queue && is_confirmed t) (is_in_span c t.next_number t.open_batches) parts.0 in
        let opens = few_open c senders p t ok is.opens is.rising rest.1 in
        let fits = fits_front c t t.queue (has_bounds c ok).sequence (λ other at. let same : front ≡ other = cc in subst (λ (x : Pending). is_within_limit c t x ≡ true) same parts.1) in
        has_place-by t (test t.attempts_sent (2 ^ 63) (omega (arith, is.sent))) (test (length t.open_batches) 5 opens)
        (test t.next_number (2 ^ 31) (omega (arith, is.handed_over, is.sent))) fits

    at_test : (front : Pending) → slice_get t.queue 0 ≡ Some front → (z : Bool) → may_hand_over c flags now t front ≡ z
        → (if z then Some (new_batch t front) else None) ≡ Some b → has_place t ≡ true
    at_test front first true may f = at_may front first may
    at_test front first false may f = absurd cc

    at_queue : t.fenced ≡ false → lowest_waiting t ≡ None → (o : Option Pending) → slice_get t.queue 0 ≡ o → has_place t ≡ true
    at_queue free none None at = let nothing = sends-nothing c flags now t free none at in absurd cc
    at_queue free none (Some front) at = at_test front at (may_hand_over c flags now t front) refl (sym (sends-front c flags now t front free none at) ∙ e)

    at_fence : (z : Bool) → t.fenced ≡ z → lowest_waiting t ≡ None → has_place t ≡ true
    at_fence true fenced none = let nothing = sends-fenced c flags now t fenced in absurd cc
    at_fence false free none = at_queue free none (slice_get t.queue 0) refl
