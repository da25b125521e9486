-- Flushing: marks on batches, and when none is left.
use Rattle.std.specs.Prelude.{Bool, true, map, not, ◌||◌}
use Rattle.std.specs.List.{list_any}
use Rattle.kp_accum.specs.Queue.{marked_by_flush, is_marked}
use Rattle.kp_rules.specs.Records.{Open, Partition, Core}

unfoldable pub has_marks : Partition → Bool
has_marks t = list_any is_marked t.queue || list_any (λ o. o.marked) t.open_batches

-- No queued or open batch is marked. Only telling takes a marked batch away, and a flush marks all,
-- so then every item that was appended before the last flush is told.
unfoldable pub is_flushed : Core → Bool
is_flushed s = not (list_any has_marks s.partitions)

-- ---- a flush marks all queued and open batches

abbrev pub mark_open : Open → Open
mark_open o = record o { marked = true }

abbrev pub mark : Partition → Partition
mark t = record t {
  queue = map marked_by_flush t.queue;
  open_batches = map mark_open t.open_batches;
}

unfoldable pub flush_step : Core → Core
flush_step s = record s { partitions = map mark s.partitions }
