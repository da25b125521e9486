use Rattle.kp_lanes.proofs.EntryLemmas.{marks_follow}
use Rattle.kp_lanes.proofs.laws.marks_follow_what_was_accepted.Goals as goal

pub returns : goal.returns
returns c = marks_follow
