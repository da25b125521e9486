use Rattle.std.proofs.Common.{◌≡◌}
use Rattle.kp_run.specs.Jobs.{Keeps, SentNothing}
use Rattle.kp_run.proofs.sender_thread.Job.send.Given as goal

abbrev pub invariant-loop : goal.invariant-loop
invariant-loop g l = record {
  next : (goal.iterator-loop g).can_next l.iterator';
  finite : (goal.iterator-loop g).is_finite l.iterator';
  nothing : SentNothing l.fn.self l.self;
  keeps : Keeps l.self;
  body : l.body ≡ l.fn.body;
}
