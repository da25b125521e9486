use Rattle.std.proofs.Common.{◌≡◌, ◌<◌, ◌++◌, length}
use Rattle.kp_engine.specs.Agreement.{waiting_of}
use Rattle.kp_run.specs.Gathered.{OnlyFetched}
use Rattle.kp_run.proofs.gathering.add_waiting.Given as goal

abbrev pub invariant-loop-report : goal.invariant-loop-report
invariant-loop-report l = record {
  near : l.sender < length l.core.reports;
  added : l.reports.items ++ waiting_of l.core l.sender ≡ l.initial.reports.items ++ waiting_of l.initial.core l.sender;
  fetched : OnlyFetched l.sender l.initial.core l.core;
}

abbrev pub decreases-loop-report : goal.decreases-loop-report
decreases-loop-report l = length (waiting_of l.core l.sender)
