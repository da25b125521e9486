use Rattle.kp_headline.proofs.LawLemmas.{anew}
use Rattle.kp_headline.proofs.laws.each_id_begins_anew.Goals as goal

pub returns : goal.returns
returns c = anew
