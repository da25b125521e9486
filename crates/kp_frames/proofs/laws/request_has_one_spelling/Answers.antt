use Rattle.kp_frames.proofs.RequestLemmas.{request_one_spelling}
use Rattle.kp_frames.proofs.laws.request_has_one_spelling.Goals as goal

pub returns : goal.returns
returns c = request_one_spelling
