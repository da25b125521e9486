use Rattle.kp_broker.proofs.BrokenLemmas.{answer-lost, memory-lost}
use Rattle.kp_broker.proofs.laws.broken_connection_wrote_the_first.Goals as goal

pub returns-clause-io : goal.returns-clause-io
returns-clause-io c = answer-lost

pub returns-clause-memory : goal.returns-clause-memory
returns-clause-memory c = memory-lost
