-- What a contract sees of a closer.
use Rattle.std.specs.Arc.{arc_value}
use Rattle.atomic_table.specs.Seated.{TableId}
use Rattle.kp_lanes.specs.Tokens.{gate_id, view}
use Rattle.kp_lanes.specs.declared.closer.Closer.{Closer}
use Rattle.kp_lanes.specs.declared.gate.view.View.{View}

abbrev pub closer_gate : Closer → TableId
closer_gate c = gate_id (arc_value c.gate)

abbrev pub closer_view : Closer → View
closer_view c = view c.seat
