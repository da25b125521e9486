use Rattle.kp_world.proofs.StandingLemmas.{told_offsets_stand}
use Rattle.kp_world.proofs.broker_laws.told_offsets_stand.Goals as goal

pub returns : goal.returns
returns c = told_offsets_stand
