use Rattle.std.proofs.Common.{◌≡◌, ◌++◌, [], length, get_or}
use Rattle.kp_replay.specs.Fetching.{fetched_of}
use Rattle.kp_replay.proofs.fetching.fetch_sender.Given as goal

abbrev pub invariant-loop-report : goal.invariant-loop-report
invariant-loop-report l = record {
  senders : length l.core.reports ≡ length l.initial.core.reports;
  same : fetched_of l.sender l.core ≡ fetched_of l.sender l.initial.core;
  reports : l.reports.items ++ get_or l.core.reports l.sender [] ≡ l.initial.reports.items ++ get_or l.initial.core.reports l.sender [];
}

abbrev pub decreases-loop-report : goal.decreases-loop-report
decreases-loop-report l = length (get_or l.core.reports l.sender [])
