use Rattle.futures.specs.Task.{Keeps}
use Rattle.kp_engine.specs.Talking.{steps_left}
use Rattle.kp_engine.proofs.HearingLemmas.{ListenedSoFar}
use Rattle.kp_engine.proofs.turn.hearing.listen.Given as goal

abbrev pub invariant-loop-refused : goal.invariant-loop-refused
invariant-loop-refused g l = record {
  listened : ListenedSoFar g.S.Stream.answers l.fn.now 16 l.fn.exchange l.fn.wire l.most l.exchange l.wire;
  keeps : Keeps l.fn.cx l.cx;
}

abbrev pub decreases-loop-refused : goal.decreases-loop-refused
decreases-loop-refused g l = steps_left l.most l.wire.held
