use Rattle.kp_run.specs.Jobs.{Keeps, SentNothing}
use Rattle.kp_run.proofs.sender_thread.Job.hear_some.Given as goal

abbrev pub invariant-loop : goal.invariant-loop
invariant-loop l = record {
  nothing : SentNothing l.fn.self l.self;
  keeps : Keeps l.self;
}
