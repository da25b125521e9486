use Rattle.kp_lines.proofs.SplitLemmas.{split_one_way}
use Rattle.kp_lines.proofs.laws.bytes_are_split_in_one_way.Goals as goal

pub returns : goal.returns
returns c = split_one_way
