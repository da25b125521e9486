use Rattle.kp_log.specs.Log.{empty}
use Rattle.kp_replay.proofs.EachLemmas.{copies-next}
use Rattle.kp_replay.proofs.opening.empty_logs.Goals as goal

pub loop-preserved : goal.loop-preserved
loop-preserved c = copies-next c.loop.counter empty _ _ _ c.in_ok-push.ensures.items c.loop.invariant c.new.ensures
