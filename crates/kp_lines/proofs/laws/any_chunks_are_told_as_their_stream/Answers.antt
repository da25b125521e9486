use Rattle.kp_lines.proofs.LineLemmas.{all_told}
use Rattle.kp_lines.proofs.laws.any_chunks_are_told_as_their_stream.Goals as goal

pub returns : goal.returns
returns c = all_told
