use Rattle.kp_headline.proofs.LawLemmas.{handed_over, the_same}
use Rattle.kp_headline.proofs.laws.packets_have_what_was_handed_over.Goals as goal

pub returns : goal.returns
returns c = record { handed = handed_over; same = the_same }
