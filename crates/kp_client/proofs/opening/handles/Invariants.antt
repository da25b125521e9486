use Rattle.std.proofs.Common.{◌≡◌, ◌++◌, map}
use Rattle.std.specs.Prelude.{All}
use Rattle.std.specs.Arc.{arc_value}
use Rattle.kp_client.specs.Producer.{lane_of}
use Rattle.kp_client.specs.Service.{HasBell}
use Rattle.kp_client.proofs.opening.handles.Given as goal

abbrev pub invariant-loop-sender : goal.invariant-loop-sender
invariant-loop-sender l = record {
  done : map lane_of l.producers.items ++ l.sender-iterator.rest.items ≡ l.fn.senders.items;
  rest : All (HasBell (arc_value l.fn.shared)) l.sender-iterator.rest.items;
}
