use Rattle.std.proofs.Common.{◌≡◌, ◌<◌, ℕ, false, length}
use Rattle.futures.specs.Task.{Keeps}
use Rattle.kp_drive.specs.Links.{EachTurns, link_at}
use Rattle.kp_drive.specs.Waiting.{LinkWaits}
use Rattle.kp_drive.proofs.links.poll_links.Given as goal

abbrev pub invariant-loop-node : goal.invariant-loop-node
invariant-loop-node g l = record {
  each : EachTurns g.S.Stream.answers l.fn.now l.fn.host.embed l.fn.links.items l.node l.host.embed l.links.items;
  count : length l.links.items ≡ length l.fn.links.items;
  waits : l.moved ≡ false → (k : ℕ) → k < l.node → LinkWaits g.D.Dial.waits g.S.Stream.reader g.S.Stream.writer g.S.Stream.answers l.cx (link_at k l.links.items);
  keeps : Keeps l.fn.cx l.cx;
}
