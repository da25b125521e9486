use Rattle.kp_engine.proofs.HearingLemmas.{HeardSoFar}
use Rattle.kp_engine.proofs.turn.hearing.hear_at_hand.Given as goal

abbrev pub invariant-loop-heard : goal.invariant-loop-heard
invariant-loop-heard g l = HeardSoFar g.S.Stream.answers l.fn.now l.fn.exchange l.fn.wire l.heard l.exchange l.wire
