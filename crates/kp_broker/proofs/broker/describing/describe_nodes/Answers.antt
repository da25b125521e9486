use Rattle.std.proofs.Common.{◌≤◌, ◌∷◌, [], length, arith, rules}
use Rattle.std.proofs.lemmas.List.FromFn.{map-range_with_len_more}
use Rattle.kp_frames.specs.Metadata.{broker}
use Rattle.kp_wire.proofs.ListLemmas.{all_append}
use Rattle.kp_broker.specs.Answers.{node_metadata}
use Rattle.kp_broker.proofs.broker.describing.describe_nodes.Goals as goal

pub loop-node-preserved : goal.loop-node-preserved
loop-node-preserved c =
    let k = c.loop-node.node in
    let more = map-range_with_len_more (node_metadata c.args.ports.now) 0 k k (omega arith) in
    record {
      are = cc (c.in_ok-push.ensures.items, c.in_ok-describe_node.ensures.answer, c.loop-node.invariant.are);
      fit = rw c.in_ok-push.ensures.items (all_append broker.Fits c.loop-node.nodes.items (c.in_ok-describe_node.field-0 ∷ []) c.loop-node.invariant.fit (c.in_ok-describe_node.ensures.fits, tt));
    }

pub returns-clause-answer : goal.returns-clause-answer
returns-clause-answer c =
    let past : length c.args.ports.now ≤ c.loop-node.node = c.loop-node-test.false in
    search rules
