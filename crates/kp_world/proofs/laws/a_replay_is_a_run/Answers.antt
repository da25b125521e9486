use Rattle.kp_world.proofs.ReplayLemmas.{replay_is_run}
use Rattle.kp_world.proofs.laws.a_replay_is_a_run.Goals as goal

pub returns : goal.returns
returns c = replay_is_run
