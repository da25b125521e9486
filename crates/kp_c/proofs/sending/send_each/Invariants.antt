use Rattle.kp_c.proofs.BatchLemmas.{SoMany}
use Rattle.kp_c.proofs.sending.send_each.Given as goal

abbrev pub invariant-loop-place : goal.invariant-loop-place
invariant-loop-place l = SoMany l.timestamp_ms l.now l.target l.lengths l.values l.place l.rest l.fn.embed l.embed
