-- Which partitions have something to do.
use Rattle.std.specs.Prelude.{◌≡◌, ◌≤◌, ◌<◌, ◌^◌, ◌+◌, ◌&&◌, ℕ, Bool, not, List, [], ◌∷◌, length, if◌then◌else◌}
use Rattle.kp_rules.specs.Partitions.{is_empty, leads}
use Rattle.kp_rules.specs.Records.{Partition}

-- something of it is queued or open
unfoldable pub is_busy : Partition → Bool
is_busy t = not (is_empty t.open_batches && is_empty t.queue)

-- the numbers of those that are busy, of partitions that are numbered from n on
abbrev pub busy_from : ℕ → List Partition → List ℕ
busy_from n [] = []
busy_from n (t ∷ ts) = if is_busy t then n ∷ busy_from (n + 1) ts else busy_from (n + 1) ts

-- the numbers of those that are busy, upwards
abbrev pub busy_in : List Partition → List ℕ
busy_in ts = busy_from 0 ts

-- this node leads it, and something of it is queued or open
abbrev pub has_work_for : ℕ → Partition → Bool
has_work_for node t = leads node t && is_busy t

-- These are the numbers of the busy ones, with room for all; and there are not more partitions than
-- numbers.
pub record AreListed (ts : List Partition) (listed : List ℕ) (capacity : ℕ) : Type 0 where
  pub busy : listed ≡ busy_in ts
  pub room : length ts ≤ capacity
  pub count : length ts < 2 ^ 32
