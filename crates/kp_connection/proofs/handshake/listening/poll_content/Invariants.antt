use Rattle.std.proofs.Common.{◌+◌, ◌-◌, length}
use Rattle.futures.specs.Task.{Keeps}
use Rattle.kp_frames.specs.declared.frame.TheConstants.{CONTENT_LIMIT}
use Rattle.kp_connection.proofs.ListeningLemmas.{Underway}
use Rattle.kp_connection.proofs.handshake.listening.poll_content.Given as goal

abbrev pub invariant-loop-fault : goal.invariant-loop-fault
invariant-loop-fault g l = record {
  underway : Underway g.S.Stream.answers l.fn.wire l.wire;
  keeps : Keeps l.fn.cx l.cx;
}

abbrev pub decreases-loop-fault : goal.decreases-loop-fault
decreases-loop-fault g l = (4 + CONTENT_LIMIT) - length l.wire.held
