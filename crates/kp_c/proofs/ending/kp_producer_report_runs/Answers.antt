use Rattle.kp_c.proofs.HeldLemmas.{on_held}
use Rattle.kp_c.proofs.ending.kp_producer_report_runs.Goals as goal

pub returns-clause-fetches : goal.returns-clause-fetches
returns-clause-fetches c = on_held _ _ _ _ _ _ c.in-Some.ensures.some c.deref_mut.ensures.value c.put.ensures (assumption c)
