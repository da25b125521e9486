use Rattle.kp_embed.specs.Ticking.{Ticks}
use Rattle.kp_c.proofs.HeldLemmas.{makes}
use Rattle.kp_c.proofs.time.kp_producer_tick.Goals as goal

pub returns-clause-ticks : goal.returns-clause-ticks
returns-clause-ticks c = λ _. makes (Ticks c.args.now) _ _ _ _ _ c.in-Some.ensures.some c.deref_mut.ensures.value c.put.ensures c.tick.ensures.ticks
