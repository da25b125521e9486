use Rattle.std.proofs.Common.{◌≡◌, ◌≤◌, length, take}
use Rattle.kp_cluster.specs.Learning.{SLOT_LIMIT, all_placed}
use Rattle.kp_cluster.proofs.learning.all_placed.Given as goal

abbrev pub invariant-loop-node : goal.invariant-loop-node
invariant-loop-node l = record {
  placed : l.placed.items ≡ all_placed (take l.node-index l.nodes) l.slots;
  limit : length l.placed.items ≤ SLOT_LIMIT;
}
