use Rattle.kp_replay.proofs.ReplayingLemmas.{HasReplayed}
use Rattle.kp_replay.proofs.replaying.bring_about.Given as goal

abbrev pub invariant-loop-scheduled : goal.invariant-loop-scheduled
invariant-loop-scheduled l = HasReplayed l.fn.schedule l.scheduled-iterator.rest.items l.world
