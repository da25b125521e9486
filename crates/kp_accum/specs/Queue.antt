-- A partition's queue: the batches that wait, oldest first, and where an item goes.
use Rattle.std.specs.Prelude.{ℕ, Bool, true, false, List, [], ◌∷◌, ◌++◌, length, map, ◌&&◌, nat_le, nat_lt, if◌then◌else◌}
use Rattle.std.specs.List.{filter}
use Rattle.kp_batch.specs.Spelling.{size_of_batch}
use Rattle.kp_batch.specs.declared.record.Record.{Record}
use Rattle.kp_accum.specs.declared.config.Config.{Config}
use Rattle.kp_accum.specs.declared.item.Item.{Item}

-- A batch that waits: the moment at which its first item was accepted, its items, and whether a flush waits for it.
pub record Pending : Type 0 where
  pub begun : ℕ
  pub items : List Item
  pub marked : Bool

-- ---- sizes

abbrev pub body_of : Item → Record
body_of i = i.body

-- the size of the batch of these items
unfoldable pub size_of : List Item → ℕ
size_of items = size_of_batch (map body_of items)

-- the memory that an item takes: the size of the batch that holds it alone
abbrev pub charge_of : Item → ℕ
charge_of i = size_of (i ∷ [])

-- ---- where an item goes

-- An item joins a batch whose size with it is at most batch.size, and that has fewer than sequence.limit records.
unfoldable pub joins : Config → Item → Pending → Bool
joins c i b = nat_le (size_of (b.items ++ i ∷ [])) c.batch_size && nat_lt (length b.items) c.sequence_limit

abbrev pub joined_by : Item → Pending → Pending
joined_by i b = record b { items = b.items ++ i ∷ [] }

abbrev pub begun_by : Item → Pending
begun_by i = record { begun = i.at; items = i ∷ []; marked = false }

-- it joins the last batch, or begins a new one behind it
unfoldable pub with_item : Config → Item → List Pending → List Pending
with_item c i [] = begun_by i ∷ []
with_item c i (b ∷ []) = if joins c i b then joined_by i b ∷ [] else b ∷ begun_by i ∷ []
with_item c i (b ∷ b' ∷ bs) = b ∷ with_item c i (b' ∷ bs)

-- ---- marks

abbrev pub marked_by_flush : Pending → Pending
marked_by_flush b = record b { marked = true }

abbrev pub is_marked : Pending → Bool
is_marked b = b.marked

abbrev pub marked_in : List Pending → ℕ
marked_in queue = length (filter is_marked queue)
