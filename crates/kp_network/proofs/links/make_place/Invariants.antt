use Rattle.std.proofs.Common.{◌≡◌, ◌≤◌, ℕ, length}
use Rattle.kp_cluster.specs.declared.learning.TheConstants.{SLOT_LIMIT}
use Rattle.kp_network.specs.Links.{link_at}
use Rattle.kp_network.proofs.links.make_place.Given as goal

abbrev pub invariant-loop : goal.invariant-loop
invariant-loop g l = record {
  same : (k : ℕ) → link_at k l.links.items ≡ link_at k l.fn.links.items;
  count : length l.links.items ≡ l.counter;
  few : length l.links.items ≤ SLOT_LIMIT;
}
