-- Which gate it is, and what a seat knows of it.
use Rattle.atomic_table.specs.Seated.{TableId}
use Rattle.atomic_table.specs.declared.shared.Seat.{Seat}
use Rattle.kp_lanes.specs.declared.gate.Gate.{Gate}
use Rattle.kp_lanes.specs.declared.gate.view.View.{View}

abbrev pub gate_id : Gate → TableId
gate_id g = g.table.shared.table_id

abbrev pub seat_gate : Seat (Unit {0}) View → TableId
seat_gate s = s.table_id

abbrev pub view : Seat (Unit {0}) View → View
view s = s.me.0
