-- Nodes that lead partitions.
use Rattle.std.proofs.Common.{◌≡◌, ℕ, zero, suc, ◌+◌, ◌<◌, ◌≤◌, Bool, true, false, eqb, List, [], ◌∷◌, ◌++◌, length, map, take, drop, set, get_or, refl, ap, ◌∙◌, arith, mod-lt}
use Rattle.std.specs.List.{AllByRecursion, range_with_len}
use Rattle.std.proofs.lemmas.Bool.Decides.{nat_tests}
use Rattle.kp_broker.specs.Broker.{first_leader, leader_after}

-- ---- one leader after the other is replaced

module _ (f : ℕ → ℕ) where
  -- some of them, from the front on
  abbrev pub some_done : ℕ → List ℕ → List ℕ
  some_done i xs = map f (take i xs) ++ drop i xs

  pub next_of : (xs : List ℕ) (i d : ℕ) → i < length xs → get_or (some_done i xs) i d ≡ get_or xs i d
  next_of [] i d inside = absurd (omega arith)
  next_of (x ∷ xs) zero d inside = refl
  next_of (x ∷ xs) (suc i) d inside = next_of xs i d (omega (arith, inside))

  one_more_at : (xs : List ℕ) (i d : ℕ) → i < length xs → set (some_done i xs) i (f (get_or xs i d)) ≡ some_done (suc i) xs
  one_more_at [] i d inside = absurd (omega arith)
  one_more_at (x ∷ xs) zero d inside = refl
  one_more_at (x ∷ xs) (suc i) d inside = ap (λ (ys : List ℕ). f x ∷ ys) (one_more_at xs i d (omega (arith, inside)))

  pub one_more : (xs : List ℕ) (i d : ℕ) → i < length xs → set (some_done i xs) i (f (get_or xs i d)) ≡ some_done (i + 1) xs
  one_more xs i d inside =
      let on : suc i ≡ i + 1 = omega arith in
      one_more_at xs i d inside ∙ ap (λ (n : ℕ). some_done n xs) on

same_node : (node to leader : ℕ) (same : Bool) → eqb leader node ≡ same → leader ≡ node → leader_after node to leader ≡ to
same_node node to leader true is here = rw is refl
same_node node to leader false is here = let no : eqb leader node ≡ true = grind (arith, nat_tests) in cc

other_node : (node to leader : ℕ) (same : Bool) → eqb leader node ≡ same → (leader ≡ node → ⊥) → leader_after node to leader ≡ leader
other_node node to leader true is apart = absurd (apart (grind (arith, nat_tests)))
other_node node to leader false is apart = rw is refl

pub replaced : (node to leader : ℕ) → leader ≡ node → leader_after node to leader ≡ to
replaced node to leader here = same_node node to leader (eqb leader node) refl here

pub kept : (node to leader : ℕ) → (leader ≡ node → ⊥) → leader_after node to leader ≡ leader
kept node to leader apart = other_node node to leader (eqb leader node) refl apart

-- ---- each partition is led by a node that is there

led_after : (n node to leader : ℕ) (same : Bool) → eqb leader node ≡ same → to < n → leader < n → leader_after node to leader < n
led_after n node to leader true is there before = rw is there
led_after n node to leader false is there before = rw is before

pub still_led : (n node to : ℕ) (leaders : List ℕ) → to < n → AllByRecursion (λ l. l < n) leaders → AllByRecursion (λ l. l < n) (map (leader_after node to) leaders)
still_led n node to [] there all = tt
still_led n node to (l ∷ leaders) there all = (led_after n node to l (eqb l node) refl there all.0, still_led n node to leaders there all.1)

pub first_led : (ports : List ℕ) (from count : ℕ) → 1 ≤ length ports → AllByRecursion (λ l. l < length ports) (map (first_leader ports) (range_with_len from count))
first_led ports from zero some = tt
first_led ports from (suc count) some = (mod-lt from some, first_led ports (from + 1) count some)

-- the leader of a partition, or node 0 of one that is not there
pub led_by : (n : ℕ) (leaders : List ℕ) (partition : ℕ) → 1 ≤ n → AllByRecursion (λ l. l < n) leaders → get_or leaders partition 0 < n
led_by n [] partition some all = some
led_by n (l ∷ leaders) zero some all = all.0
led_by n (l ∷ leaders) (suc partition) some all = led_by n leaders partition some all.1
