use Rattle.kp_embed.specs.Connecting.{Connects}
use Rattle.kp_embed.specs.Going.{Stays}
use Rattle.kp_c.proofs.HeldLemmas.{makes, on_held}
use Rattle.kp_c.proofs.connections.kp_producer_connected.Goals as goal

pub returns-in-Ok-clause-connects : goal.returns-in-Ok-clause-connects
returns-in-Ok-clause-connects c = λ _. makes (Connects c.args.node c.args.now) _ _ _ _ _ c.in-Some.ensures.some c.deref_mut.ensures.value c.put.ensures c.in-Ok.ensures.connects

pub returns-in-Err-clause-refused : goal.returns-in-Err-clause-refused
returns-in-Err-clause-refused c = λ _. on_held Stays _ _ _ _ _ c.in-Some.ensures.some c.deref_mut.ensures.value c.put.ensures c.in-Err.ensures.refused
