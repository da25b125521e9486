use Rattle.std.proofs.Common.{◌∙◌, ap}
use Rattle.std.specs.List.{list_any}
use Rattle.kp_rules.specs.Records.{Core}
use Rattle.kp_core.specs.Busy.{has_work_for}
use Rattle.kp_core.proofs.machine.Core.has_work.Goals as goal

pub returns : goal.returns
returns c = c.have_work.ensures ∙ ap (λ (x : Core). list_any (has_work_for c.args.node) x.partitions) c.self.view_is
