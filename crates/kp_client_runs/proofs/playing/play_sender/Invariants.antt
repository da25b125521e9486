use Rattle.kp_client.specs.Producer.{SameProducer}
use Rattle.kp_client_runs.proofs.playing.play_sender.Given as goal

abbrev pub invariant-loop-line : goal.invariant-loop-line
invariant-loop-line g l = SameProducer l.fn.producer l.producer
