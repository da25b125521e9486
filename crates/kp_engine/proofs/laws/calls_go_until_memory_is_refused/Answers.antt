use Rattle.kp_engine.proofs.FrameLemmas.{until_goes}
use Rattle.kp_engine.proofs.laws.calls_go_until_memory_is_refused.Goals as goal

pub returns : goal.returns
returns c = until_goes
