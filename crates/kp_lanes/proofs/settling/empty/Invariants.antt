use Rattle.std.proofs.Common.{◌≡◌, [], length}
use Rattle.std.specs.Prelude.{All}
use Rattle.kp_lanes.proofs.settling.empty.Given as goal

abbrev pub invariant-loop : goal.invariant-loop
invariant-loop l = record {
  left : length l.settled.left.items ≡ l.counter;
  reports : length l.settled.reports.items ≡ l.counter;
  no_items : All (λ v. v.items ≡ []) l.settled.left.items;
  no_reports : All (λ v. v.items ≡ []) l.settled.reports.items;
}
