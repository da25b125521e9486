use Rattle.std.proofs.Common.{◌≡◌, drop}
use Rattle.std.specs.Prelude.{pos, ◌+ℤ◌}
use Rattle.kp_parts.specs.Desk.{told_lines, HavePlaces}
use Rattle.kp_rules.specs.Telling.{told_offsets}
use Rattle.kp_parts.proofs.DeskLemmas.{offsets_from}
use Rattle.kp_parts.proofs.desk.put_offsets.Given as goal

abbrev pub invariant-loop-item : goal.invariant-loop-item
invariant-loop-item l = record {
  offset : l.offset ≡ l.base +ℤ pos l.item-index;
  told : told_lines (offsets_from l.item-index l.base (drop l.item-index l.items)) l.lines.items ≡ told_lines (told_offsets l.base l.items) l.fn.lines.items;
  places : HavePlaces l.lines.items (offsets_from l.item-index l.base (drop l.item-index l.items));
}
