use Rattle.std.proofs.Common.{◌∙◌, ap}
use Rattle.kp_rules.specs.Partitions.{partition_at}
use Rattle.kp_rules.specs.Records.{Core, Partition}
use Rattle.kp_core.proofs.machine.Core.audit.Goals as goal

pub returns : goal.returns
returns c =
    c.audit.ensures ∙ ap (λ (t : Partition). t.audit) c.at.ensures
    ∙ ap (λ (x : Core). (partition_at c.args.partition x.partitions).audit) c.self.view_is
