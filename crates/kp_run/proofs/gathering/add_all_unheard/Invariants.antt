use Rattle.std.proofs.Common.{◌≡◌, ◌≤◌, ◌++◌, ℕ}
use Rattle.std.specs.List.{flat_map}
use Rattle.kp_engine.specs.Agreement.{waiting_of}
use Rattle.kp_lanes.specs.Intake.{numbers_below}
use Rattle.kp_run.specs.Gathered.{unheard_of}
use Rattle.kp_run.proofs.gathering.add_all_unheard.Given as goal

abbrev pub invariant-loop-sender : goal.invariant-loop-sender
invariant-loop-sender l = record {
  added : l.reports.items ≡ l.initial.reports.items ++ flat_map (unheard_of l.rings l.held l.initial.core) (numbers_below l.sender);
  same : l.core ≡ record l.initial.core { reports = l.core.reports };
  others : (i : ℕ) → l.sender ≤ i → waiting_of l.core i ≡ waiting_of l.initial.core i;
}
