use Rattle.kp_accum.proofs.MarkLemmas.{no_marks}
use Rattle.kp_accum.proofs.queue.Queue.new.Goals as goal

pub invariant_of-result : goal.invariant_of-result
invariant_of-result c = rw c.new.ensures.items no_marks
