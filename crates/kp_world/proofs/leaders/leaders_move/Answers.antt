use Rattle.std.proofs.Common.{refl}
use Rattle.kp_world.specs.Leaders.{Prints, late_at_one, lost_at_one, moved_in_part, stored_and_moved, windows_apart}
use Rattle.kp_world.proofs.Evaluation.{evaluated}
use Rattle.kp_world.proofs.leaders.leaders_move.Goals as goal

repeated : Prints stored_and_moved
unfolding evaluated
repeated = refl

in_part : Prints moved_in_part
unfolding evaluated
in_part = refl

windows : Prints windows_apart
unfolding evaluated
windows = refl

lost : Prints lost_at_one
unfolding evaluated
lost = refl

late : Prints late_at_one
unfolding evaluated
late = refl

pub returns : goal.returns
returns c = record { repeated = repeated; in_part = in_part; windows = windows; lost = lost; late = late }
