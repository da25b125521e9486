use Rattle.std.proofs.Common.{◌≡◌, length}
use Rattle.kp_rules.specs.declared.outcome.Outcome.TheVariants.{Unsent}
use Rattle.kp_rules.specs.declared.outcome.Reason.TheVariants.{Expired}
use Rattle.kp_rules.specs.Partitions.{items_queued}
use Rattle.kp_rules.specs.Telling.{told_all}
use Rattle.kp_rules.specs.Tick.{behind_late, late_front}
use Rattle.kp_parts.specs.Desk.{tell_desk, Covers}
use Rattle.kp_parts.proofs.partition.expiring.expire_late.Given as goal

abbrev pub invariant-loop-batch : goal.invariant-loop-batch
invariant-loop-batch l = record {
  queue : behind_late l.config l.now l.queue ≡ behind_late l.config l.now l.fn.queue;
  told : tell_desk (told_all (Unsent Expired) (items_queued (late_front l.config l.now l.queue))) l.desk
      ≡ tell_desk (told_all (Unsent Expired) (items_queued (late_front l.config l.now l.fn.queue))) l.fn.desk;
  covers : Covers l.desk (told_all (Unsent Expired) (items_queued (late_front l.config l.now l.queue)));
  left : l.left ≡ length (items_queued l.queue);
}

abbrev pub decreases-loop-batch : goal.decreases-loop-batch
decreases-loop-batch l = length l.queue
