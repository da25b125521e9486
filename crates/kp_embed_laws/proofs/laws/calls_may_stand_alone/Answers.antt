use Rattle.kp_embed_laws.proofs.RunLemmas.{stand_alone}
use Rattle.kp_embed_laws.proofs.laws.calls_may_stand_alone.Goals as goal

pub returns : goal.returns
returns c = stand_alone
