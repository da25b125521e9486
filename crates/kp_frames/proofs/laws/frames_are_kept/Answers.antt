use Rattle.kp_frames.proofs.LawLemmas.{kept_spelled}
use Rattle.kp_frames.proofs.laws.frames_are_kept.Goals as goal

pub returns : goal.returns
returns c = kept_spelled
