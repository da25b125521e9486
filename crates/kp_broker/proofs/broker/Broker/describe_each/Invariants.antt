use Rattle.std.proofs.Common.{◌≡◌, map, take}
use Rattle.kp_broker.specs.Answers.{topic_metadata}
use Rattle.kp_broker.proofs.broker.Broker.describe_each.Given as goal

abbrev pub invariant-loop-name : goal.invariant-loop-name
invariant-loop-name l = l.topics.items ≡ map (topic_metadata l.self) (take l.name-index l.names)
