use Rattle.std.proofs.Common.{◌≡◌, ◌+◌, ◌≤◌, ◌++◌, length}
use Rattle.std.specs.Prelude.{vec_len, vec_capacity}
use Rattle.rtrb.specs.Ring.{known_items}
use Rattle.kp_lanes.specs.Entries.{items_of}
use Rattle.kp_lanes.proofs.intake.port.drain_items.Given as goal

abbrev pub invariant-loop : goal.invariant-loop
invariant-loop l = record {
  all : l.into.items ++ items_of (known_items l.entries) ≡ l.initial.into.items ++ items_of (known_items l.initial.entries);
  room : vec_len l.into + length (items_of (known_items l.entries)) ≤ vec_capacity l.into;
  left : l.counter + length (known_items l.entries) ≡ length (known_items l.initial.entries);
}
