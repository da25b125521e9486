use Rattle.kp_c.proofs.ReportLemmas.{RunsSoFar}
use Rattle.kp_c.proofs.ending.fetch_runs.Given as goal

abbrev pub invariant-loop-place : goal.invariant-loop-place
invariant-loop-place l = RunsSoFar l._place l.fn.embed l.fn.room l.embed l.room l.count
