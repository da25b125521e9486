-- Partitions and their items, and the memory that is used.
use Rattle.std.specs.Prelude.{ℕ, Bool, false, true, List, [], ◌∷◌, ◌++◌, map, sum_by, flat_map, unwrap_or, Some, None, slice_index_or, slice_set, ◌==◌, if◌then◌else◌}
use Rattle.std.specs.List.{enumerate_from, last_or, list_any}
use Rattle.kp_accum.specs.declared.item.Item.{Item}
use Rattle.kp_accum.specs.Queue.{Pending, charge_of}
use Rattle.kp_rules.specs.Records.{Open, Partition, Core}

abbrev pub is_empty : {A : Type 0} → List A → Bool
is_empty [] = true
is_empty (x ∷ xs) = false

abbrev pub is_in : ℕ → List ℕ → Bool
is_in p ps = list_any (λ q. q == p) ps

-- ---- one partition

-- a partition of which nothing was ever sent, with its first producer id; node 0 leads it
abbrev pub new_partition : ℕ → Partition
new_partition id = record {
  leader = 0;
  queue = [];
  open_batches = [];
  ids = id ∷ [];
  next_number = 0;
  next_sequence = 0;
  attempts_sent = 0;
  acknowledged = false;
  fenced = false;
  audit = Some [];
}

-- its batches go to this node
abbrev pub leads : ℕ → Partition → Bool
leads node t = t.leader == node

-- the producer id under which its next batch goes out
abbrev pub present_id : Partition → ℕ
present_id t = unwrap_or (last_or None t.ids) 0

abbrev pub items_queued : List Pending → List Item
items_queued queue = flat_map (λ b. b.items) queue

abbrev pub items_open : List Open → List Item
items_open batches = flat_map (λ o. o.batch.items) batches

-- its items that were appended and are not told
unfoldable pub untold : Partition → List Item
untold t = items_open t.open_batches ++ items_queued t.queue

-- ---- all partitions

abbrev pub partition_at : ℕ → List Partition → Partition
partition_at p ts = slice_index_or ts p (new_partition 0)

-- one partition is this one now
abbrev pub with_partition : ℕ → Partition → Core → Core
with_partition p t s = record s { partitions = slice_set s.partitions p t }

-- these partitions changed, and the others as they are
unfoldable pub changed_at : List ℕ → (ℕ → Partition → Partition) → List Partition → List Partition
changed_at ps change ts =
    map (λ x. if is_in x.0 ps then change x.0 x.1 else x.1) (enumerate_from 0 ts)

-- the items that were appended and are not told, by partition
abbrev pub all_untold : Core → List Item
all_untold s = flat_map untold s.partitions

-- The memory that is used: the charges of the items that are not told.
unfoldable pub used : Core → ℕ
used s = sum_by charge_of (all_untold s)
