use Rattle.std.proofs.Common.{ap}
use Rattle.kp_rules.specs.Requesting.{is_spent}
use Rattle.kp_core.proofs.machine.Core.is_spent.Goals as goal

pub returns : goal.returns
returns c = ap is_spent c.self.view_is
