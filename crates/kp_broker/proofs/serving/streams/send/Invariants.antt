use Rattle.std.proofs.Common.{length}
use Rattle.kp_broker.proofs.SendingLemmas.{HasSent}
use Rattle.kp_broker.proofs.serving.streams.send.Given as goal

abbrev pub invariant-loop-rest : goal.invariant-loop-rest
invariant-loop-rest g l = HasSent g.C.Connection.answers l.initial.connection l.connection l.bytes l.rest

abbrev pub decreases-loop-rest : goal.decreases-loop-rest
decreases-loop-rest g l = length l.rest
