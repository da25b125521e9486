use Rattle.kp_c.proofs.ReportLemmas.{SoFar}
use Rattle.kp_c.proofs.ending.fetch.Given as goal

abbrev pub invariant-loop-place : goal.invariant-loop-place
invariant-loop-place l = SoFar l.place l.fn.embed l.fn.room l.embed l.room
