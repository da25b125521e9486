use Rattle.std.proofs.Common.{◌≡◌, ◌-◌, map, length}
use Rattle.std.specs.Prelude.{All}
use Rattle.std.specs.Arc.{arc_value}
use Rattle.kp_lanes.specs.Gate.{keeper}
use Rattle.kp_lanes.specs.Tokens.{gate_id, seat_gate, view}
use Rattle.kp_lanes.specs.Sender.{sender_id, sender_number, IsFresh}
use Rattle.kp_lanes.specs.Port.{port_id}
use Rattle.kp_lanes.specs.Intake.{IsEmpty, numbers_below}
use Rattle.kp_lanes.proofs.opening.open_all.Given as goal

abbrev pub invariant-loop-number : goal.invariant-loop-number
invariant-loop-number l = record {
  here : seat_gate l.seat ≡ gate_id (arc_value l.gate);
  view_is : view l.seat ≡ keeper (64 - l.number);
  count : length l.ends.items ≡ l.number;
  numbers : map sender_number l.ends.items ≡ numbers_below l.number;
  meet : map sender_id l.ends.items ≡ map (port_id (record { gate = gate_id (arc_value l.gate); limits = l.fn.limits })) l.ports.items;
  fresh : All (IsFresh l.fn.capacity l.fn.limits) l.ends.items;
  empty : All (IsEmpty l.fn.capacity) l.ports.items;
}
