use Rattle.std.proofs.Common.{◌≡◌, ◌+◌, ◌≤◌, ◌++◌, length}
use Rattle.std.specs.Prelude.{vec_len, vec_capacity}
use Rattle.rtrb.specs.Ring.{known_items}
use Rattle.kp_lanes.proofs.intake.port.drain_reports.Given as goal

abbrev pub invariant-loop : goal.invariant-loop
invariant-loop l = record {
  all : l.into.items ++ known_items l.reports ≡ l.initial.into.items ++ known_items l.initial.reports;
  room : vec_len l.into + length (known_items l.reports) ≤ vec_capacity l.into;
  left : l.counter + length (known_items l.reports) ≡ length (known_items l.initial.reports);
}
