use Rattle.std.proofs.Common.{◌≡◌, ◌≤◌, ◌+◌, ◌^◌, drop}
use Rattle.kp_rules.specs.HandingOver.{audited}
use Rattle.kp_parts.specs.PartitionRooms.{CountsAtMost}
use Rattle.kp_parts.proofs.audit.Audit.push_all.Given as goal

abbrev pub invariant-loop-item : goal.invariant-loop-item
invariant-loop-item l = record {
  runs : audited l.self.runs (drop l.item-index l.items) ≡ audited l.fn.self.runs l.items;
  room : l.fn.self.room ≤ l.self.room + l.item-index;
  counts : CountsAtMost (2 ^ 63 + l.item-index) l.self.runs;
}
