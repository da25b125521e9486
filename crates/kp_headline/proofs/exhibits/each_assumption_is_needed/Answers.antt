use Rattle.kp_headline.proofs.SomeMoves.{honest_needed, not_made_up_needed, in_turn_needed, ids_once_needed}
use Rattle.kp_headline.proofs.exhibits.each_assumption_is_needed.Goals as goal

pub returns : goal.returns
returns c = record { honest = honest_needed; not_made_up = not_made_up_needed; in_turn = in_turn_needed; ids_once = ids_once_needed }
