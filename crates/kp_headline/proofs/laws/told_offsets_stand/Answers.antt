use Rattle.kp_headline.proofs.LawLemmas.{offsets_stand}
use Rattle.kp_headline.proofs.laws.told_offsets_stand.Goals as goal

pub returns : goal.returns
returns c = offsets_stand
