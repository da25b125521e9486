use Rattle.kp_run.specs.Jobs.{deal_of, HasTried, SameJob}
use Rattle.kp_run.proofs.sender_thread.Job.send_all.Given as goal

abbrev pub invariant-loop-k : goal.invariant-loop-k
invariant-loop-k g l = record {
  same : SameJob l.fn.self l.self;
  tried : HasTried (deal_of l.task) l.k l.self;
}
