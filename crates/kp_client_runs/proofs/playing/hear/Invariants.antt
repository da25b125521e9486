use Rattle.kp_client.specs.Producer.{SameProducer}
use Rattle.kp_client_runs.proofs.playing.hear.Given as goal

abbrev pub invariant-loop : goal.invariant-loop
invariant-loop g l = SameProducer l.fn.producer l.producer
