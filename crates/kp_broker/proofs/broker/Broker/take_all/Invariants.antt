use Rattle.kp_broker.proofs.TakingLemmas.{TookTopics}
use Rattle.kp_broker.proofs.broker.Broker.take_all.Given as goal

abbrev pub invariant-loop-topic : goal.invariant-loop-topic
invariant-loop-topic l = TookTopics l.whim l.node l.request l.fn.self l.topic-index l.topics.items l.self
