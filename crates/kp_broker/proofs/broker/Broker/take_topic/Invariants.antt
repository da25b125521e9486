use Rattle.kp_broker.proofs.TakingLemmas.{TookParts}
use Rattle.kp_broker.proofs.broker.Broker.take_topic.Given as goal

abbrev pub invariant-loop-part : goal.invariant-loop-part
invariant-loop-part l = TookParts l.whim l.node l.request l.fn.self l.topic l.part-index l.partitions.items l.self
