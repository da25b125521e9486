use Rattle.std.proofs.Common.{◌≡◌, ◌+◌, length}
use Rattle.kp_wire.specs.Varint.{groups}
use Rattle.kp_wire.proofs.varint.groups_len.Given as goal

abbrev pub invariant-loop-left : goal.invariant-loop-left
invariant-loop-left l = record {
  count : l.len + l.left ≡ l.more + 1;
  counted : l.len + length (groups l.left l.high) ≡ length (groups l.more l.n) + 1;
}

abbrev pub decreases-loop-left : goal.decreases-loop-left
decreases-loop-left l = l.left
