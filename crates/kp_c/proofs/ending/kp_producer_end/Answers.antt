use Rattle.kp_c.specs.Ending.{Ends}
use Rattle.kp_c.proofs.HeldLemmas.{makes}
use Rattle.kp_c.proofs.ending.kp_producer_end.Goals as goal

pub returns-clause-ends : goal.returns-clause-ends
returns-clause-ends c = λ _. makes Ends _ _ _ _ _ c.in-Some.ensures.some c.deref_mut.ensures.value c.put.ensures (search c)
