use Rattle.kp_frames.proofs.LawLemmas.{split}
use Rattle.kp_frames.proofs.laws.bytes_are_frames_and_a_rest.Goals as goal

pub returns : goal.returns
returns c = split
