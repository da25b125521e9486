use Rattle.std.proofs.Common.{◌≡◌, take, length}
use Rattle.std.specs.List.{fold}
use Rattle.kp_wire.specs.Register.{byte_step}
use Rattle.kp_wire.proofs.ChecksumLemmas.{AreBytes}
use Rattle.kp_wire.proofs.checksum.shift_all.Given as goal

abbrev pub invariant-loop-left : goal.invariant-loop-left
invariant-loop-left l = record {
  so_far : fold byte_step l.register l.left ≡ fold byte_step l.fn.register l.fn.bytes;
  bytes : AreBytes l.left;
}

abbrev pub decreases-loop-left : goal.decreases-loop-left
decreases-loop-left l = length l.left

abbrev pub invariant-loop-byte : goal.invariant-loop-byte
invariant-loop-byte l = l.register ≡ fold byte_step l.initial.register (take l.byte-index l.byte-items)
