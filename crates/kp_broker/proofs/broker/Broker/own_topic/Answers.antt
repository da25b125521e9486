use Rattle.std.proofs.Common.{arith}
use Rattle.std.proofs.lemmas.List.FromFn.{map-range_with_len_more}
use Rattle.kp_broker.specs.Answers.{partition_metadata}
use Rattle.kp_broker.proofs.broker.Broker.own_topic.Goals as goal

pub loop-partition-preserved : goal.loop-partition-preserved
loop-partition-preserved c =
    let k = c.loop-partition.partition in
    let more = map-range_with_len_more (partition_metadata c.args.self.now) 0 k k (omega arith) in
    cc (c.in_ok-push.ensures.items, c.in_ok-describe_partition.ensures)
