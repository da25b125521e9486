use Rattle.std.proofs.Common.{◌≡◌, map}
use Rattle.std.specs.List.{AllByRecursion, range_with_len}
use Rattle.kp_frames.specs.Metadata.{broker}
use Rattle.kp_broker.specs.Answers.{node_metadata}
use Rattle.kp_broker.proofs.broker.describing.describe_nodes.Given as goal

abbrev pub invariant-loop-node : goal.invariant-loop-node
invariant-loop-node l = record {
  are : l.nodes.items ≡ map (node_metadata l.ports) (range_with_len 0 l.node);
  fit : AllByRecursion broker.Fits l.nodes.items;
}
