use Rattle.std.proofs.Common.{length}
use Rattle.kp_broker.proofs.ConnectionLemmas.{HasTaken}
use Rattle.kp_broker.proofs.broker.Broker.take_frames.Given as goal

abbrev pub invariant-loop-content : goal.invariant-loop-content
invariant-loop-content g l =
    HasTaken g.C.Connection.answers l.node l.plan l.initial.self l.initial.splitter l.initial.connection l.splitter l.connection l.self

abbrev pub decreases-loop-content : goal.decreases-loop-content
decreases-loop-content g l = length l.splitter
