use Rattle.std.proofs.Common.{◌≤◌, ◌+◌, ◌++◌, length, map}
use Rattle.std.specs.List.Sorted.{IsPermutation}
use Rattle.std.specs.Vec.{vec_capacity}
use Rattle.kp_send.specs.Ledger.{left_with}
use Rattle.kp_send.proofs.ledger.Ledger.left.Given as goal

abbrev pub invariant-loop-told : goal.invariant-loop-told
invariant-loop-told l = record {
  room : length l.left.items + length l.self.waiting ≤ vec_capacity l.left;
  all : IsPermutation (map (left_with l.outcome) l.initial.self.waiting) (l.left.items ++ map (left_with l.outcome) l.self.waiting);
}

abbrev pub decreases-loop-told : goal.decreases-loop-told
decreases-loop-told l = length l.self.waiting
