use Rattle.std.proofs.Common.{◌≡◌, ◌<◌, ◌≤◌, ℕ, map, length, get_or}
use Rattle.std.specs.declared.alloc.Global.{Global}
use Rattle.std.specs.declared.vec.Vec.{Vec}
use Rattle.kp_accum.specs.declared.item.Item.{Item}
use Rattle.kp_rules.specs.declared.outcome.Report.{Report}
use Rattle.kp_lanes.specs.declared.intake.port.Port.{Port}
use Rattle.kp_lanes.specs.declared.sender.Finished.{Finished}
use Rattle.kp_lanes.specs.Sender.{finished_number}
use Rattle.kp_lanes.specs.Settling.{numbers, AddsAt}
use Rattle.kp_lanes.proofs.settling.drain_all.Given as goal

abbrev pub invariant-loop-j : goal.invariant-loop-j
invariant-loop-j l = record {
  counted : map finished_number l.finished.items ≡ map finished_number l.initial.finished.items;
  wide : (length l.ports.items ≡ length l.initial.ports.items) × (length l.finished.items ≡ length l.initial.finished.items) × (length l.settled.left.items ≡ length l.initial.settled.left.items) × (length l.settled.reports.items ≡ length l.initial.settled.reports.items);
  ports : (k : ℕ) → l.j ≤ k → k < length l.initial.finished.items → (d : Port) → get_or l.ports.items (get_or (numbers l.initial.finished.items) k 0) d ≡ get_or l.initial.ports.items (get_or (numbers l.initial.finished.items) k 0) d;
  ends : (k : ℕ) → l.j ≤ k → (d : Finished) → get_or l.finished.items k d ≡ get_or l.initial.finished.items k d;
  left : (k : ℕ) → l.j ≤ k → k < length l.initial.finished.items → (d : Vec Item Global) → get_or l.settled.left.items (get_or (numbers l.initial.finished.items) k 0) d ≡ get_or l.initial.settled.left.items (get_or (numbers l.initial.finished.items) k 0) d;
  reports : (k : ℕ) → l.j ≤ k → k < length l.initial.finished.items → (d : Vec Report Global) → get_or l.settled.reports.items (get_or (numbers l.initial.finished.items) k 0) d ≡ get_or l.initial.settled.reports.items (get_or (numbers l.initial.finished.items) k 0) d;
  done : (k : ℕ) → k < l.j → AddsAt l.initial.ports.items l.initial.finished.items l.settled k;
}
