use Rattle.kp_embed.specs.Ending.{Calls}
use Rattle.kp_rules.specs.Calls.{Close}
use Rattle.kp_c.proofs.HeldLemmas.{makes}
use Rattle.kp_c.proofs.ending.kp_producer_close.Goals as goal

pub returns-clause-closes : goal.returns-clause-closes
returns-clause-closes c = λ _. makes (Calls Close) _ _ _ _ _ c.in-Some.ensures.some c.deref_mut.ensures.value c.put.ensures (assumption c)
