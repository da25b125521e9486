use Rattle.std.proofs.Common.{◌≡◌, length}
use Rattle.std.specs.List.{fold}
use Rattle.kp_wire.specs.Hash.{words, left, with_word, start}
use Rattle.kp_wire.proofs.hash.murmur2.Given as goal

abbrev pub invariant-loop-rest : goal.invariant-loop-rest
invariant-loop-rest l = record {
  hashed : fold with_word l.hash (words l.rest) ≡ fold with_word (start l.bytes) (words l.bytes);
  behind : left l.rest ≡ left l.bytes;
}

abbrev pub decreases-loop-rest : goal.decreases-loop-rest
decreases-loop-rest l = length l.rest
