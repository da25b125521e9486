use Rattle.std.proofs.Common.{rules}
use Rattle.std.specs.Prelude.{codes}
use Rattle.kp_world.specs.Events.{record_at}
use Rattle.kp_replay.proofs.EachLemmas.{copies-next}
use Rattle.kp_replay.proofs.world.others.records_of_others.Goals as goal

pub loop-preserved : goal.loop-preserved
loop-preserved c = copies-next c.loop.counter (record_at 0 (codes "other")) _ _ _ c.in_ok-push.ensures.items c.loop.invariant (search rules)
