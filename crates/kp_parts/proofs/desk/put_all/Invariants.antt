use Rattle.std.proofs.Common.{◌≡◌, drop}
use Rattle.kp_parts.specs.Desk.{told_lines, HavePlaces}
use Rattle.kp_rules.specs.Telling.{told_all}
use Rattle.kp_parts.proofs.desk.put_all.Given as goal

abbrev pub invariant-loop-item : goal.invariant-loop-item
invariant-loop-item l = record {
  told : told_lines (told_all l.outcome (drop l.item-index l.items)) l.lines.items ≡ told_lines (told_all l.outcome l.items) l.fn.lines.items;
  places : HavePlaces l.lines.items (told_all l.outcome (drop l.item-index l.items));
}
