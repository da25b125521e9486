use Rattle.kp_embed_laws.proofs.RunLemmas.{has_begun}
use Rattle.kp_embed_laws.proofs.laws.a_producer_s_core_has_begun.Goals as goal

pub returns : goal.returns
returns c = has_begun
