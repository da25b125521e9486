use Rattle.std.proofs.Common.{◌≡◌, drop}
use Rattle.kp_rules.specs.declared.outcome.Outcome.TheVariants.{Unknown}
use Rattle.kp_rules.specs.Partitions.{items_open}
use Rattle.kp_rules.specs.Telling.{told_all}
use Rattle.kp_parts.specs.Desk.{tell_desk, Covers}
use Rattle.kp_parts.proofs.partition.fencing.tell_unknown.Given as goal

abbrev pub invariant-loop-open : goal.invariant-loop-open
invariant-loop-open l = record {
  told : tell_desk (told_all Unknown (items_open (drop l.open-index l.open_batches))) l.desk ≡ tell_desk (told_all Unknown (items_open l.open_batches)) l.fn.desk;
  covers : Covers l.desk (told_all Unknown (items_open (drop l.open-index l.open_batches)));
}
