use Rattle.std.proofs.Common.{◌≡◌, ◌≤◌, false, length}
use Rattle.kp_drive.specs.Doing.{DoesAll}
use Rattle.kp_cluster.specs.declared.learning.TheConstants.{SLOT_LIMIT}
use Rattle.kp_drive.proofs.doing.do_all.Given as goal

abbrev pub invariant-loop : goal.invariant-loop
invariant-loop g l = record {
  does : DoesAll l.fn.now l.fn.host.embed l.fn.links.items l.host.embed l.links.items;
  first : l.told ≡ false → l.host.embed ≡ l.fn.host.embed;
  few : length l.links.items ≤ SLOT_LIMIT;
}
