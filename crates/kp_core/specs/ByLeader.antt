-- Which partitions have something to do, by the nodes that lead them.
use Rattle.std.specs.Prelude.{◌≡◌, ◌≤◌, ◌+◌, ◌&&◌, ◌||◌, ◌==◌, ℕ, Bool, false, List, [], ◌∷◌, length, map, filter, nat_lt, if◌then◌else◌}
use Rattle.std.specs.List.{AllByRecursion}
use Rattle.kp_rules.specs.Partitions.{leads, partition_at}
use Rattle.kp_rules.specs.Records.{Partition}
use Rattle.kp_core.specs.Busy.{AreListed, busy_in, is_busy}

-- the numbers of those that are busy and that this node leads, upwards
abbrev pub work_in : ℕ → List Partition → List ℕ
work_in node ts = filter (λ p. leads node (partition_at p ts)) (busy_in ts)

-- ---- a list of them

-- a number, with the node that leads the partition
pub record Led : Type 0 where
  pub leader : ℕ
  pub place : ℕ

abbrev pub led_at : ℕ → Partition → Led
led_at n t = record { leader = t.leader; place = n }

-- it is led by a lower node, or by the same and stands below
abbrev pub is_before : Led → Led → Bool
is_before x y = nat_lt x.leader y.leader || (x.leader == y.leader && nat_lt x.place y.place)

-- it joins those, behind the ones that stand before it
abbrev pub put : Led → List Led → List Led
put x [] = x ∷ []
put x (y ∷ ys) = if is_before y x then y ∷ put x ys else x ∷ y ∷ ys

-- they stand in this order: none behind another one stands before it
abbrev pub NoneBefore : Led → List Led → Type 0
NoneBefore x ys = AllByRecursion (λ y. is_before y x ≡ false) ys

abbrev pub Rises : List Led → Type 0
Rises [] = Unit {0}
Rises (x ∷ xs) = NoneBefore x xs × Rises xs

-- the busy ones, of partitions that are numbered from n on
abbrev pub led_from : ℕ → List Partition → List Led
led_from n [] = []
led_from n (t ∷ ts) = if is_busy t then put (led_at n t) (led_from (n + 1) ts) else led_from (n + 1) ts

abbrev pub places_in : List Led → List ℕ
places_in leds = map (λ l. l.place) leds

-- the numbers of those that are busy, by their leaders, and upwards where these are the same
abbrev pub by_leader : List Partition → List ℕ
by_leader ts = places_in (led_from 0 ts)

-- ---- what is kept

-- These are so by their leaders, with room for all.
pub record AreByLeader (ts : List Partition) (listed : List ℕ) (capacity : ℕ) : Type 0 where
  pub places : listed ≡ by_leader ts
  pub room : length ts ≤ capacity

-- Both lists are kept.
pub record AreKept (ts : List Partition) (busy : List ℕ) (room : ℕ) (led : List ℕ) (led_room : ℕ) : Type 0 where
  pub listed : AreListed ts busy room
  pub by_leader : AreByLeader ts led led_room
