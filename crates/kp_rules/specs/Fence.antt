-- A fence: a partition from which something was refused for good, or came too late, sends nothing
-- more, since what follows would stand in the log without it.
use Rattle.std.specs.Prelude.{true, [], ◌++◌}
use Rattle.kp_rules.specs.declared.outcome.Outcome.TheVariants.{Unknown, Unsent}
use Rattle.kp_rules.specs.declared.outcome.Reason.{Reason}
use Rattle.kp_rules.specs.declared.outcome.Reason.TheVariants.{Fenced}
use Rattle.kp_rules.specs.Records.{Partition, Effect}
use Rattle.kp_rules.specs.Partitions.{items_open, items_queued}
use Rattle.kp_rules.specs.Telling.{told_all}

-- What is open may stand in the log or not; what is queued was never sent. Nothing of it is left.
unfoldable pub give_up : Reason → Partition → Effect
give_up why t = record {
  after = record t { queue = []; open_batches = [] };
  told = told_all Unknown (items_open t.open_batches) ++ told_all (Unsent why) (items_queued t.queue);
}

unfoldable pub fence : Partition → Effect
fence t = record {
  after = record (give_up Fenced t).after { fenced = true };
  told = (give_up Fenced t).told;
}
