use Rattle.std.proofs.Common.{refl}
use Rattle.kp_replay.proofs.EachLemmas.{copies-next}
use Rattle.kp_replay.proofs.opening.nothing_taken.Goals as goal

pub loop-preserved : goal.loop-preserved
loop-preserved c = copies-next c.loop.counter 0 _ _ _ c.in_ok-push.ensures.items c.loop.invariant refl
