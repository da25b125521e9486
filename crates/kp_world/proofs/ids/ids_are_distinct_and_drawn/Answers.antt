use Rattle.kp_world.proofs.KeptLaws.{are_drawn}
use Rattle.kp_world.proofs.ids.ids_are_distinct_and_drawn.Goals as goal

pub returns : goal.returns
returns c = are_drawn
