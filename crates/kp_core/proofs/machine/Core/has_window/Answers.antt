use Rattle.std.proofs.Common.{rules}
use Rattle.kp_rules.specs.Attempts.{has_window}
use Rattle.kp_core.proofs.machine.Core.has_window.Goals as goal

pub returns : goal.returns
unfolding has_window
returns c = search rules
