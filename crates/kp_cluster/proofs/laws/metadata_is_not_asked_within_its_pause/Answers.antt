use Rattle.kp_cluster.proofs.PauseLemmas.{paused}
use Rattle.kp_cluster.proofs.laws.metadata_is_not_asked_within_its_pause.Goals as goal

pub returns : goal.returns
returns c = paused
