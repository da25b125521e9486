use Rattle.kp_embed.specs.Connecting.{Loses}
use Rattle.kp_c.proofs.HeldLemmas.{makes}
use Rattle.kp_c.proofs.connections.kp_producer_lost.Goals as goal

pub returns-clause-loses : goal.returns-clause-loses
returns-clause-loses c = λ _. makes (Loses c.args.node c.args.now) _ _ _ _ _ c.in-Some.ensures.some c.deref_mut.ensures.value c.put.ensures (assumption c)
