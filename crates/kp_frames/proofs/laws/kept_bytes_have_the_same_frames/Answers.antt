use Rattle.std.proofs.Common.{List, ℕ}
use Rattle.kp_frames.proofs.KeptLemmas.{keeps}
use Rattle.kp_frames.proofs.laws.kept_bytes_have_the_same_frames.Goals as goal

pub returns : goal.returns
returns c = λ (bytes : List ℕ). ((keeps bytes).frames, (keeps bytes).faulty)
