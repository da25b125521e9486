-- Appending an item.
use Rattle.std.specs.Prelude.{Result, Ok, Err, IsOk, ◌+◌, Bool, true, not, [], ◌∷◌, length, nat_le, nat_lt, ◌&&◌, if◌then◌else◌}
use Rattle.kp_accum.specs.declared.config.Config.{Config}
use Rattle.kp_accum.specs.declared.fault.AppendFault.{AppendFault}
use Rattle.kp_accum.specs.declared.fault.AppendFault.TheVariants.{BufferFull}
use Rattle.kp_accum.specs.declared.item.Item.{Item}
use Rattle.kp_accum.specs.Queue.{charge_of, with_item}
use Rattle.kp_rules.specs.declared.outcome.Outcome.TheVariants.{Unsent}
use Rattle.kp_rules.specs.declared.outcome.Reason.{Reason}
use Rattle.kp_rules.specs.declared.outcome.Reason.TheVariants.{Fenced, Ended}
use Rattle.kp_rules.specs.Records.{Partition, Core, Called, quietly}
use Rattle.kp_rules.specs.Partitions.{used, partition_at, with_partition}
use Rattle.kp_rules.specs.Reports.{with_reports}
use Rattle.kp_rules.specs.Telling.{told_all}

-- What may be appended: an item of a sender and a partition that are there, which a request can
-- hold, and the memory too.
unfoldable pub may_append : Item → Core → Bool
may_append i s =
    nat_lt i.sender (length s.reports)
    && nat_lt i.partition (length s.partitions)
    && nat_le (charge_of i) s.config.max_request_size
    && nat_le (charge_of i) s.config.buffer_memory

-- With the item, more memory would be used than there may be. What is counted are charges: the
-- sizes of batches that hold one item each.
unfoldable pub would_exhaust : Item → Core → Bool
would_exhaust i s = nat_lt s.config.buffer_memory (used s + charge_of i)

abbrev pub Appends : Type 0
Appends = Called (Result (Unit {0}) AppendFault)

-- It is told at once, and takes no memory.
abbrev pub turn_away : Reason → Item → Core → Appends
turn_away why i s =
    let told = told_all (Unsent why) (i ∷ []) in
    record { after = record s { reports = with_reports told s.reports }; told = told; answer = Ok tt }

abbrev pub enqueue : Config → Item → Partition → Partition
enqueue c i t = record t { queue = with_item c i t.queue }

abbrev pub with_queued : Item → Core → Core
with_queued i s =
    with_partition i.partition (enqueue s.config i (partition_at i.partition s.partitions)) s

-- What is refused is the caller's still. Where it is so for want of buffer memory, every front
-- batch is ready from now on.
unfoldable pub append_step : Item → Core → Appends
append_step i s =
    if not (may_append i s) then quietly s (Err BufferFull)
    else if s.ended then turn_away Ended i s
    else if (partition_at i.partition s.partitions).fenced then turn_away Fenced i s
    else if would_exhaust i s then quietly (record s { exhausted = true }) (Err BufferFull)
    else quietly (with_queued i s) (Ok tt)

-- Memory can be wanting only where the item would be taken, and so never in place of BufferFull.
abbrev pub AppendNeedsMemory : Item → Core → Type 0
AppendNeedsMemory i s = IsOk (append_step i s).answer
