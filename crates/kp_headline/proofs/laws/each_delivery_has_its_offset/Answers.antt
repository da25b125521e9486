use Rattle.kp_headline.proofs.LawLemmas.{with_offsets}
use Rattle.kp_headline.proofs.laws.each_delivery_has_its_offset.Goals as goal

pub returns : goal.returns
returns c = with_offsets
