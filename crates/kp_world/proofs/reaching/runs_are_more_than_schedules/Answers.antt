use Rattle.kp_world.proofs.Widths.{leads}
use Rattle.kp_world.proofs.reaching.runs_are_more_than_schedules.Goals as goal

pub returns : goal.returns
returns c = leads
