use Rattle.kp_embed.specs.Ending.{Calls}
use Rattle.kp_rules.specs.Calls.{Flush}
use Rattle.kp_c.proofs.HeldLemmas.{makes}
use Rattle.kp_c.proofs.ending.kp_producer_flush.Goals as goal

pub returns-clause-flushes : goal.returns-clause-flushes
returns-clause-flushes c = λ _. makes (Calls Flush) _ _ _ _ _ c.in-Some.ensures.some c.deref_mut.ensures.value c.put.ensures (assumption c)
