use Rattle.std.proofs.Common.{rules}
use Rattle.kp_embed.proofs.line.Line.answered_by.Goals as goal

pub returns-in-Ok : goal.returns-in-Ok
returns-in-Ok c = search rules

pub returns-in_default : goal.returns-in_default
returns-in_default c = search rules
