use Rattle.std.proofs.Common.{◌-◌, ◌≤◌, length, drop}
use Rattle.std.specs.List.{flat_map}
use Rattle.kp_batch.specs.Record.{header}
use Rattle.kp_batch.specs.Spelling.{up_to_limit}
use Rattle.kp_batch.proofs.size.headers_room.Given as goal

abbrev pub invariant-loop-h : goal.invariant-loop-h
invariant-loop-h l = record {
  left : length (flat_map (header 0).spell (drop l.h-index l.hs)) ≤ length (flat_map (header 0).spell l.hs);
  so_far : up_to_limit (length (flat_map (header 0).spell l.hs) - length (flat_map (header 0).spell (drop l.h-index l.hs))) ≤ l.room;
}
