-- A table of latencies: which are counted together, and what is read off it.
use Rattle.std.specs.Prelude.{◌≡◌, ℕ, ◌+◌, ◌-◌, ◌*◌, ◌/◌, ◌<◌, ◌≤◌, ◌^◌, max, min, nat_le, nat_lt, Bool, ◌&&◌, List, [], ◌∷◌, ◌++◌, length, map, fold, sum, sum_by, count_by, All, if◌then◌else◌}
use Rattle.kp_send.specs.declared.latency.Place.{Place}

-- ---- places

-- how many latencies are counted together with the least of them: a 32nd of it, and at least 1
abbrev pub width : ℕ → ℕ
width least = max (least / 32) 1

-- The places begin at this latency, each where the one before it ends, and go on beyond the greatest u64.
abbrev pub Adjoin : ℕ → List Place → Type 0
Adjoin from [] = 2 ^ 64 ≤ from
Adjoin from (place ∷ places) = (place.least ≡ from) × Adjoin (from + width from) places

-- whether a latency belongs there
abbrev pub is_in : ℕ → Place → Bool
is_in latency place = nat_le place.least latency && nat_lt latency (place.least + width place.least)

abbrev pub count_in : List Place → ℕ
count_in places = sum_by (λ place. place.count) places

-- all latencies have their place, and so many were counted
pub record IsWhole (places : List Place) (count : ℕ) : Type 0 where
  pub covers : Adjoin 0 places
  pub counted : count_in places ≡ count

-- ---- tables

pub record Table : Type 0 where
  pub places : List Place
  pub count : ℕ
  pub sum : ℕ
  pub greatest : ℕ

-- one more, where it belongs
abbrev pub put_in : ℕ → Place → Place
put_in latency place = if is_in latency place then record place { count = place.count + 1 } else place

pub record Adds (old : Table) (latency : ℕ) (new : Table) : Type 0 where
  pub places : new.places ≡ map (put_in latency) old.places
  pub count : new.count ≡ old.count + 1
  pub sum : new.sum ≡ min (old.sum + latency) (2 ^ 64 - 1)
  pub greatest : new.greatest ≡ max old.greatest latency

-- The table is that of these latencies.
pub record IsTableOf (latencies : List ℕ) (t : Table) : Type 0 where
  pub covers : Adjoin 0 t.places
  pub counts : All (λ place. place.count ≡ count_by (λ latency. is_in latency place) latencies) t.places
  pub count : t.count ≡ length latencies
  pub sum : t.sum ≡ min (sum latencies) (2 ^ 64 - 1)
  pub greatest : t.greatest ≡ fold max 0 latencies

-- ---- percentiles

-- the least rank, of so many, that is not below so many hundredths of them, and is at least 1
abbrev pub rank_of : (count percent : ℕ) → ℕ
rank_of count percent = max ((count * min percent 100 + 99) / 100) 1

-- The latency of this rank, from the least on, is in this place, and what is told is the greatest that it can be.
pub record IsRanked (t : Table) (rank told : ℕ) : Type 0 where
  pub before : List Place
  pub place : Place
  pub behind : List Place
  pub parts : t.places ≡ before ++ place ∷ behind
  pub not_before : count_in before < rank
  pub reached : rank ≤ count_in before + place.count
  pub is : told ≡ min (place.least + width place.least - 1) t.greatest

-- So many of the latencies are at most what is told, and fewer are below what it is at most a 32nd above.
pub record IsNear (latencies : List ℕ) (rank told : ℕ) : Type 0 where
  pub low : ℕ
  pub fewer : count_by (λ latency. nat_lt latency low) latencies < rank
  pub enough : rank ≤ count_by (λ latency. nat_le latency told) latencies
  pub near : told ≤ low + low / 32
