-- What is true of a partition's places, beside what is seen of it: room for what is handed over is
-- made before.
use Rattle.std.specs.Prelude.{◌≡◌, ℕ, ◌*◌, ◌≤◌, ◌<◌, ◌^◌, ◌+◌, min, Bool, true, List, [], ◌∷◌, length, Option, Some, None, IfSome, ◌&&◌, nat_le, nat_lt}
use Rattle.std.specs.List.{AllByRecursion}
use Rattle.kp_accum.specs.Queue.{Pending}
use Rattle.kp_rules.specs.declared.run.Run.{Run}
use Rattle.kp_rules.specs.Partitions.{is_empty, items_queued}
use Rattle.kp_rules.specs.Records.{Partition}

-- ---- the audit

-- The runs, and how many more have room.
pub record Audit : Type 0 where
  pub runs : List Run
  pub room : ℕ

abbrev pub runs_of : Audit → List Run
runs_of a = a.runs

-- no run has more items
abbrev pub CountsAtMost : ℕ → List Run → Type 0
CountsAtMost n runs = AllByRecursion (λ r. r.count ≤ n) runs

-- It has room for a run of each item that is queued; and no run has more items than were handed
-- over, in so many batches of 2 ^ 31 at most.
pub record IsAuditFor (items batches : ℕ) (a : Audit) : Type 0 where
  pub room : items ≤ a.room
  pub counts : CountsAtMost (batches * 2 ^ 31) a.runs

-- ---- a partition

-- Five batches may be open at once, there is an id, the queued items are counted, and the audit, if
-- one is kept, is for them.
pub record HasRooms (queue : List Pending) (capacity : ℕ) (ids : List ℕ) (next_number : ℕ)
    (kept : Option Audit) (items : ℕ) : Type 0 where
  pub open_room : 5 ≤ capacity
  pub known : 0 < length ids
  pub queued : items ≡ length (items_queued queue)
  pub audit : IfSome kept (IsAuditFor items next_number)

-- nothing is queued or open
unfoldable pub is_idle : Partition → Bool
is_idle t = is_empty t.open_batches && is_empty t.queue

-- ---- a batch goes out

-- the front batch has so few items that their sequence numbers are below 2 ^ 31
abbrev pub front_fits : ℕ → List Pending → Bool
front_fits sequence [] = true
front_fits sequence (front ∷ behind) = nat_le (sequence + length front.items) (2 ^ 31)

-- one batch more may be open, and go out
unfoldable pub has_place : Partition → Bool
has_place t = nat_lt t.attempts_sent (2 ^ 63)
    && nat_lt (length t.open_batches) 5
    && nat_lt t.next_number (2 ^ 31)
    && front_fits t.next_sequence t.queue

-- ---- moments

abbrev pub sooner : Option ℕ → Option ℕ → Option ℕ
sooner None b = b
sooner (Some a) None = Some a
sooner (Some a) (Some b) = Some (min a b)
