use Rattle.kp_world.proofs.HandedLemmas.{are_handed_over, goes_out_the_same}
use Rattle.kp_world.proofs.handing.packets_have_what_was_handed_over.Goals as goal

pub returns : goal.returns
returns c = record { handed = are_handed_over; same = goes_out_the_same }
