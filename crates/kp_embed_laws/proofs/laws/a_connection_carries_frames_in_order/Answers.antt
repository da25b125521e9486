use Rattle.kp_embed_laws.proofs.CarryLemmas.{carries}
use Rattle.kp_embed_laws.proofs.laws.a_connection_carries_frames_in_order.Goals as goal

pub returns : goal.returns
returns c = carries
