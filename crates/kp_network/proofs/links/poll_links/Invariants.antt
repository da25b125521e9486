use Rattle.std.proofs.Common.{◌≡◌, length}
use Rattle.futures.specs.Task.{Keeps}
use Rattle.kp_network.specs.Links.{AreStill}
use Rattle.kp_network.proofs.LinkLemmas.{Registered}
use Rattle.kp_network.proofs.links.poll_links.Given as goal

abbrev pub invariant-loop-node : goal.invariant-loop-node
invariant-loop-node g l = record {
  still : AreStill l.fn.links.items l.links.items;
  count : length l.links.items ≡ length l.fn.links.items;
  registered : Registered g.D.Dial.waits l.cx l.node l.links.items;
  keeps : Keeps l.fn.cx l.cx;
}
