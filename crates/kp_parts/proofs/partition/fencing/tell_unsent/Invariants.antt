use Rattle.std.proofs.Common.{◌≡◌, length}
use Rattle.kp_rules.specs.declared.outcome.Outcome.TheVariants.{Unsent}
use Rattle.kp_rules.specs.Partitions.{items_queued}
use Rattle.kp_rules.specs.Telling.{told_all}
use Rattle.kp_parts.specs.Desk.{tell_desk, Covers}
use Rattle.kp_parts.proofs.partition.fencing.tell_unsent.Given as goal

abbrev pub invariant-loop-batch : goal.invariant-loop-batch
invariant-loop-batch l = record {
  told : tell_desk (told_all (Unsent l.why) (items_queued l.queue)) l.desk ≡ tell_desk (told_all (Unsent l.why) (items_queued l.fn.queue)) l.fn.desk;
  covers : Covers l.desk (told_all (Unsent l.why) (items_queued l.queue));
}

abbrev pub decreases-loop-batch : goal.decreases-loop-batch
decreases-loop-batch l = length l.queue
