use Rattle.kp_frames.proofs.LawLemmas.{all_lived}
use Rattle.kp_frames.proofs.laws.frames_given_are_those_of_the_stream.Goals as goal

pub returns : goal.returns
returns c = all_lived
