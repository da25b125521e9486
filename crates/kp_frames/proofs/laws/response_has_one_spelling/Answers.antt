use Rattle.kp_frames.proofs.ResponseLemmas.{response_one_spelling}
use Rattle.kp_frames.proofs.laws.response_has_one_spelling.Goals as goal

pub returns : goal.returns
returns c = response_one_spelling
