use Rattle.kp_frames.proofs.StreamLemmas.{is_only}
use Rattle.kp_frames.proofs.laws.bytes_are_split_in_one_way.Goals as goal

pub returns : goal.returns
returns c = is_only
