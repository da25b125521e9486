-- All partitions' queues, and the memory that their items take.
use Rattle.std.specs.Prelude.{ℕ, ◌+◌, List, [], map, Bool, nat_lt, sum_by, slice_index_or, slice_set, if◌then◌else◌}
use Rattle.kp_accum.specs.declared.config.Config.{Config}
use Rattle.kp_accum.specs.declared.fault.AppendFault.{AppendFault}
use Rattle.kp_accum.specs.declared.fault.AppendFault.TheVariants.{BufferFull, OutOfMemory}
use Rattle.kp_accum.specs.declared.item.Item.{Item}
use Rattle.kp_accum.specs.Queue.{Pending, charge_of, with_item, marked_by_flush, marked_in}

-- An accumulator: each partition's queue, and the charges that were taken and not released.
pub record Accum : Type 0 where
  pub config : Config
  pub queues : List (List Pending)
  pub used : ℕ

abbrev pub queue : Accum → ℕ → List Pending
queue a p = slice_index_or a.queues p []

abbrev pub with_queue : ℕ → List Pending → Accum → Accum
with_queue p q a = record a { queues = slice_set a.queues p q }

-- with the item, more memory would be used than there may be
abbrev pub is_exhausted : Item → Accum → Bool
is_exhausted i a = nat_lt a.config.buffer_memory (a.used + charge_of i)

-- why the item is refused, where it is
abbrev pub refusal : Item → Accum → AppendFault
refusal i a = if is_exhausted i a then BufferFull else OutOfMemory

abbrev pub appended : Item → Accum → Accum
appended i a = record (with_queue i.partition (with_item a.config i (queue a i.partition)) a) { used = a.used + charge_of i }

abbrev pub marked : Accum → Accum
marked a = record a { queues = map (map marked_by_flush) a.queues }

abbrev pub marked_count : Accum → ℕ
marked_count a = sum_by marked_in a.queues
