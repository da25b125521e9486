use Rattle.std.proofs.Common.{sym}
use Rattle.kp_run.proofs.checks.check_config.Goals as goal

pub returns-in-Err-clause-refused : goal.returns-in-Err-clause-refused
returns-in-Err-clause-refused c = (c.requires.topic, c.requires.plan, sym c.in-Err.ensures)
