use Rattle.std.proofs.Common.{◌≡◌, ◌+◌, ◌-◌, ◌≤◌, length, drop, pos}
use Rattle.std.specs.List.{flat_map, AllByRecursion}
use Rattle.kp_wire.specs.Varint.{varint}
use Rattle.kp_batch.specs.Record.{header}
use Rattle.kp_batch.specs.Spelling.{up_to_limit}
use Rattle.kp_batch.proofs.size.some_headers_size.Given as goal

abbrev pub invariant-loop-h : goal.invariant-loop-h
invariant-loop-h l = record {
  fits : AllByRecursion (header 0).Fits (drop l.h-index l.hs) → AllByRecursion (header 0).Fits l.hs;
  left : length (flat_map (header 0).spell (drop l.h-index l.hs)) ≤ length (flat_map (header 0).spell l.hs);
  so_far : l.size ≡ up_to_limit (length (varint.spell (pos (length l.hs))) + (length (flat_map (header 0).spell l.hs) - length (flat_map (header 0).spell (drop l.h-index l.hs))));
}
