use Rattle.std.proofs.Common.{[]}
use Rattle.kp_replay.proofs.EachLemmas.{copies-next}
use Rattle.kp_replay.proofs.opening.nothing_accepted.Goals as goal

pub loop-preserved : goal.loop-preserved
loop-preserved c = copies-next c.loop.counter [] _ _ _ c.in_ok-push.ensures.items c.loop.invariant c.new.ensures
